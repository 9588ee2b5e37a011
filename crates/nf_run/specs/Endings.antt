-- How a program ends: the certificate of the last verdict, the text that is stored for it, and the line that tells it.
-- That a stored certificate is read back and proves the verdict that was told rests on it.
use Rattle.std.specs.Prelude.{◌≡◌, ◌⊎◌, ◌≤◌, ◌++◌, ℕ, List, [], ◌∷◌, codes, decimal, length, Option, Some, None, Ok}
use Rattle.std.specs.Io.KnownBytes.{Appends}
use Rattle.nf_io.specs.Causes.{Rose}
use Rattle.nf_io.specs.Held.{Held, OthersStay, Stored, most_bytes}
use Rattle.nf_io.specs.Progress.{PutPrefix}
use Rattle.nf_model.specs.Program.{LinearProgram}
use Rattle.nf_prob.specs.declared.cert.Cert.{Cert}
use Rattle.nf_table.specs.Reading.{table_read}
use Rattle.nf_table.specs.Writing.{table_text}
use Rattle.nf_cert.specs.Reading.{cert_read}
use Rattle.nf_cert.specs.Written.{cert_grid, cert_rows}
use Rattle.nf_certify.specs.declared.ended.Ended.{Ended}
use Rattle.nf_run.specs.declared.event.RunFault.{RunFault}
use Rattle.nf_run.specs.declared.event.RunFault.TheVariants as fault
use Rattle.nf_run.specs.Runs.{Event}
use Rattle.nf_run.specs.Verdicts.{IsVerdict, TellsVerdict}

-- ---- the last verdict
-- The last of some events.
unfoldable pub last_of : List Event → Option Event
last_of [] = None
last_of (e ∷ []) = Some e
last_of (e ∷ f ∷ events) = last_of (f ∷ events)

-- The last event told a verdict, which this certificate proves; or, where there is none, the last told no verdict.
abbrev pub HasProof : LinearProgram → List Event → Option Cert → Type 0
HasProof p events (Some c) = (e : Event) × (last_of events ≡ Some e) × ((how : Ended) × IsVerdict p e.after.point.standing how c e.line)
HasProof p events None = (e : Event) → last_of events ≡ Some e → TellsVerdict e.line → ⊥

-- ---- what is stored
-- The bytes are the text of the certificate's table, which has so many rows below its header. It is read back as this
-- table, where it has no more bytes than a data set may have, and the table as this certificate.
pub record IsSavedAs (p : LinearProgram) (c : Cert) (rows : ℕ) (bytes : List ℕ) : Type 0 where
  pub text : bytes ≡ table_text (cert_grid c)
  pub as_many : rows ≡ length (cert_rows c)
  pub table_back : length bytes ≤ most_bytes → table_read bytes ≡ Ok (cert_grid c)
  pub read_back : cert_read (cert_grid c) (length p.columns) (length p.rows) ≡ Ok c

-- The line of a stored certificate.
abbrev pub saved_line : List ℕ → ℕ → List ℕ
saved_line name rows = codes "SAVED CERTOUT " ++ (name ++ (codes " ROWS " ++ (decimal rows ++ codes "\n")))

-- The line where the last halt was no verdict.
abbrev pub not_saved_line : List ℕ
not_saved_line = codes "NOT SAVED CERTOUT NO VERDICT\n"

-- What is due at the end of a program that may name a data set for its certificate: bytes to be stored there, if any,
-- and a text of the listing.
abbrev pub IsDue : LinearProgram → Option (List ℕ) → Option Cert → Option (List ℕ) → List ℕ → Type 0
IsDue p None proof stored text = (stored ≡ None) × (text ≡ [])
IsDue p (Some name) None stored text = (stored ≡ None) × (text ≡ not_saved_line)
IsDue p (Some name) (Some c) (Some bytes) text = (rows : ℕ) × IsSavedAs p c rows bytes × (text ≡ saved_line name rows)
IsDue p (Some name) (Some c) None text = ⊥

-- These bytes were stored under the name, and nothing else; or nothing was.
abbrev pub Stores : Option (List ℕ) → Option (List ℕ) → Option Held → Option Held → Type 0
Stores (Some name) (Some bytes) held now = Stored held now name bytes
Stores (Some name) None held now = now ≡ held
Stores None stored held now = now ≡ held

-- ---- the end of a program
-- What was due was stored and written.
abbrev pub Ends : LinearProgram → Option (List ℕ) → Option Cert → Option (List ℕ) → Option (List ℕ) → Option Held → Option Held → Type 0
Ends p certout proof old new held now = (stored : Option (List ℕ)) × (text : List ℕ) × IsDue p certout proof stored text × Appends old new text × Stores certout stored held now

-- What was due was stored, and a first part of its text written.
abbrev pub EndsPart : LinearProgram → Option (List ℕ) → Option Cert → Option (List ℕ) → Option (List ℕ) → Option Held → Option Held → Type 0
EndsPart p certout proof old new held now = (stored : Option (List ℕ)) × (text : List ℕ) × IsDue p certout proof stored text × PutPrefix old new text × Stores certout stored held now

-- Bytes were due to be stored, and that failed: each other name has what it had.
abbrev pub FailsToStore : LinearProgram → Option (List ℕ) → Option Cert → Option Held → Option Held → Type 0
FailsToStore p (Some name) proof held now = (bytes text : List ℕ) × IsDue p (Some name) proof (Some bytes) text × OthersStay held now name
FailsToStore p None proof held now = ⊥

-- The end fails: at a write or a store, or for want of memory.
abbrev pub IsEndFault : LinearProgram → Option (List ℕ) → Option Cert → Option (List ℕ) → Option (List ℕ) → ℕ → ℕ → Option Held → Option Held → ℕ → ℕ → RunFault → Type 0
IsEndFault p certout proof old new before after held now stores stores_after (fault.Range stage pivots passed) = ⊥
IsEndFault p certout proof old new before after held now stores stores_after fault.Write =
    (Rose before after × EndsPart p certout proof old new held now) ⊎ (Rose stores stores_after × (new ≡ old) × FailsToStore p certout proof held now)
IsEndFault p certout proof old new before after held now stores stores_after fault.NoMemory = ((new ≡ old) × (now ≡ held)) ⊎ EndsPart p certout proof old new held now

-- A write of a text fails.
abbrev pub IsWriteFault : List ℕ → Option (List ℕ) → Option (List ℕ) → ℕ → ℕ → RunFault → Type 0
IsWriteFault text old new before after (fault.Range stage pivots passed) = ⊥
IsWriteFault text old new before after fault.Write = Rose before after × PutPrefix old new text
IsWriteFault text old new before after fault.NoMemory = PutPrefix old new text
