use Rattle.std.proofs.Common.{◌≡◌, ℕ, ◌≤◌, List, length, Result, Ok, Err, sym, subst}
use Rattle.std.specs.Prelude.{IfOk}
use Rattle.std.specs.declared.alloc.AllocError.{AllocError}
use Rattle.nf_program.specs.declared.program.Command.{Command}
use Rattle.nf_program.specs.declared.program.Program.{Program}
use Rattle.nf_program.specs.Grammar.{HasProgram}
use Rattle.nf_writer.specs.Canonical.{canonical}
use Rattle.nf_writer.proofs.Written.{written}
use Rattle.nf_writer.proofs.writing.write_program.Goals as goal

again : (p : Program) (r : Result (List ℕ) AllocError) → IfOk r (λ out. out ≡ canonical p) → (c : Command) (text : List ℕ) → HasProgram c text p → IfOk r (λ out. length out ≤ 1048576 → HasProgram c out p)
again p (Err e) h c text has = tt
again p (Ok out) h c text has = λ le. subst (λ (t : List ℕ). HasProgram c t p) (sym h) (written c text p has (subst (λ (t : List ℕ). length t ≤ 1048576) h le))

pub returns-clause-again : goal.returns-clause-again
returns-clause-again c = again c.args.program.now c.text_of.result c.text_of.ensures
