-- A certificate that is stored at the end, and where that fails.
use Rattle.std.proofs.Common.{◌≡◌, ◌∙◌, ℕ, inl, inr, List, Option, Some, sym, subst}
use Rattle.nf_io.specs.Held.{Held}
use Rattle.nf_model.specs.Program.{LinearProgram}
use Rattle.nf_prob.specs.declared.cert.Cert.{Cert}
use Rattle.nf_run.specs.declared.event.RunFault.{RunFault}
use Rattle.nf_run.specs.declared.event.RunFault.TheVariants as fault
use Rattle.nf_run.specs.Endings.{IsDue, IsEndFault, IsSavedAs, IsWriteFault, Stores, saved_line}

pub saved_due : (p : LinearProgram) (c : Cert) (name : List ℕ) (rows : ℕ) (bytes shown line text : List ℕ) → IsSavedAs p c rows bytes → shown ≡ bytes → text ≡ line → line ≡ saved_line name rows → IsDue p (Some name) (Some c) (Some shown) text
saved_due p c name rows bytes shown line text s e q t = (rows, subst (IsSavedAs p c rows) (sym e) s, q ∙ t)

pub write_fails : (p : LinearProgram) (certout : Option (List ℕ)) (proof : Option Cert) (stored : Option (List ℕ)) (text : List ℕ) (old new : Option (List ℕ)) (before after : ℕ) (held now : Option Held) (stores stores_after : ℕ) (f : RunFault)
    → IsDue p certout proof stored text → Stores certout stored held now → IsWriteFault text old new before after f → IsEndFault p certout proof old new before after held now stores stores_after f
write_fails p certout proof stored text old new before after held now stores stores_after (fault.Range stage pivots passed) due s h = absurd h
write_fails p certout proof stored text old new before after held now stores stores_after fault.Write due s h = inl (h.0, (stored, text, due, h.1, s))
write_fails p certout proof stored text old new before after held now stores stores_after fault.NoMemory due s h = inr (stored, text, due, h, s)
