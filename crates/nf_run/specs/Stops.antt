-- The listing of a whole program, how obeying its statements may end early, and what was written and stored until then.
-- `run_program` promises it.
use Rattle.std.specs.Prelude.{◌≡◌, ◌⊎◌, ◌++◌, ℕ, Bool, true, false, List, Option}
use Rattle.std.specs.List.{list_all}
use Rattle.std.specs.Io.KnownBytes.{Appends}
use Rattle.nf_io.specs.Causes.{Rose}
use Rattle.nf_io.specs.Held.{Held}
use Rattle.nf_io.specs.Progress.{PutPrefix}
use Rattle.nf_model.specs.Program.{LinearProgram}
use Rattle.nf_prob.specs.declared.cert.Cert.{Cert}
use Rattle.nf_program.specs.declared.program.SessionOptions.{SessionOptions}
use Rattle.nf_program.specs.declared.program.Statement.{Statement}
use Rattle.nf_program.specs.declared.program.Statement.TheVariants as act
use Rattle.nf_run.specs.declared.event.RunFault.{RunFault}
use Rattle.nf_run.specs.declared.event.RunFault.TheVariants as fault
use Rattle.nf_run.specs.Endings.{FailsToStore, HasProof, IsDue, Stores}
use Rattle.nf_run.specs.Runs.{IsCut, IsFront, Lists}
use Rattle.nf_run.specs.Turns.{Spot}

-- A statement that stands today: RUN or QUIT.
abbrev pub is_standing : Statement → Bool
is_standing act.Run = true
is_standing act.Quit = true
is_standing _ = false

-- All of them stand.
abbrev pub are_standing : List Statement → Bool
are_standing acts = list_all is_standing acts

-- ---- the whole listing
-- The text is the listing of the whole program, and these bytes, if any, are what it stores: the listing of its
-- statements, and then what is due at the end, where this certificate proves the last verdict.
pub record IsListing (p : LinearProgram) (o : SessionOptions) (acts : List Statement) (certout : Option (List ℕ)) (stored : Option (List ℕ)) (text : List ℕ) : Type 0 where
  pub last : Spot
  pub told : List ℕ
  pub lists : Lists p o acts last told
  pub proof : Option Cert
  pub proved : HasProof p lists.events proof
  pub ending : List ℕ
  pub due : IsDue p certout proof stored ending
  pub whole : text ≡ told ++ ending

-- The whole listing was written, and the certificate stored.
abbrev pub ListsAll : LinearProgram → SessionOptions → List Statement → Option (List ℕ) → Option (List ℕ) → Option (List ℕ) → Option Held → Option Held → Type 0
ListsAll p o acts certout old new held now = (stored : Option (List ℕ)) × (text : List ℕ) × IsListing p o acts certout stored text × Appends old new text × Stores certout stored held now

-- ---- where it stops
-- A front of the listing of the first statements was written, and nothing stored.
abbrev pub ListsFront : LinearProgram → SessionOptions → List Statement → Option (List ℕ) → Option (List ℕ) → Option Held → Option Held → Type 0
ListsFront p o acts old new held now = (text : List ℕ) × IsFront p o acts text × PutPrefix old new text × (now ≡ held)

-- The certificate was stored, and a first part of the whole listing written.
abbrev pub ListsPart : LinearProgram → SessionOptions → List Statement → Option (List ℕ) → Option (List ℕ) → Option (List ℕ) → Option Held → Option Held → Type 0
ListsPart p o acts certout old new held now = (stored : Option (List ℕ)) × (text : List ℕ) × IsListing p o acts certout stored text × PutPrefix old new text × Stores certout stored held now

-- The listing of all statements was written, and the store that was then due failed: each other name has what it had.
pub record StopsAtStore (p : LinearProgram) (o : SessionOptions) (acts : List Statement) (certout old new : Option (List ℕ)) (held now : Option Held) : Type 0 where
  pub last : Spot
  pub text : List ℕ
  pub lists : Lists p o acts last text
  pub proof : Option Cert
  pub proved : HasProof p lists.events proof
  pub listed : Appends old new text
  pub fails : FailsToStore p certout proof held now

-- The fault of the statements, what was written and stored before it, and the faults of the sink and of the library's
-- stores before and after.
abbrev pub StopsWith : LinearProgram → SessionOptions → List Statement → Option (List ℕ) → Option (List ℕ) → Option (List ℕ) → ℕ → ℕ → Option Held → Option Held → ℕ → ℕ → RunFault → Type 0
StopsWith p o acts certout old new before after held now stores stores_after (fault.Range stage pivots passed) =
    (text : List ℕ) × IsCut p o acts text stage pivots passed × Appends old new text × (now ≡ held)
StopsWith p o acts certout old new before after held now stores stores_after fault.Write =
    (Rose before after × (ListsFront p o acts old new held now ⊎ ListsPart p o acts certout old new held now))
    ⊎ (Rose stores stores_after × StopsAtStore p o acts certout old new held now)
StopsWith p o acts certout old new before after held now stores stores_after fault.NoMemory = ListsFront p o acts old new held now ⊎ ListsPart p o acts certout old new held now
