-- How a command ends: by which statuses, and what its answers say together.
use Rattle.std.proofs.Common.{Result, Ok, Err, IfErr, IfOk, OnOk, MatchResult, ◌≡◌, ℕ, List, Option, arith}
use Rattle.nf_io.specs.Progress.{PutPrefix}
use Rattle.nf_top.specs.declared.status.Status.TheVariants as status
use Rattle.nf_top.proofs.StopFacts.{appends_nothing}
use Rattle.nf_exchange.specs.declared.refusal.Refusal.{Refusal}
use Rattle.nf_exchange.specs.declared.refusal.Refusal.TheVariants as refusal
use Rattle.nf_exchange.specs.Lines.{refusal_status}
use Rattle.nf_exchange.specs.Promises.{MayEndExport}

-- a refusal is no finish
pub never-finished : (r : Refusal) → refusal_status r ≡ status.Finished → ⊥
never-finished (refusal.NoProgram fault) e = cc e
never-finished refusal.NotStanding e = cc e
never-finished refusal.ReadFault e = cc e
never-finished (refusal.Absent name) e = cc e
never-finished (refusal.TooLong s) e = cc e
never-finished (refusal.NoTable s fault) e = cc e
never-finished (refusal.NoRoles s fault) e = cc e
never-finished (refusal.NoNetwork fault) e = cc e
never-finished (refusal.NoText fault) e = cc e
never-finished (refusal.NoDimacs fault) e = cc e

-- a refusal ends `export` with one of its statuses
pub refusal-ends : (r : Refusal) → MayEndExport (refusal_status r)
refusal-ends (refusal.NoProgram fault) = tt
refusal-ends refusal.NotStanding = tt
refusal-ends refusal.ReadFault = tt
refusal-ends (refusal.Absent name) = tt
refusal-ends (refusal.TooLong s) = tt
refusal-ends (refusal.NoTable s fault) = tt
refusal-ends (refusal.NoRoles s fault) = tt
refusal-ends (refusal.NoNetwork fault) = tt
refusal-ends (refusal.NoText fault) = tt
refusal-ends (refusal.NoDimacs fault) = tt

-- a result by all its clauses
pub all-clauses : {A B : Type 0} (r : Result A B) {P P' : A → Type 0} {Q : Type 0} {R R' : B → Type 0} → IfOk r P → OnOk r Q → IfErr r R
    → ((x : A) → P x → Q → P' x) → ((y : B) → R y → R' y) → MatchResult r P' R'
all-clauses (Ok x) h q k f g = f x h q
all-clauses (Err y) h q k f g = g y k

-- nothing is the first part of each text
pub puts-nothing : (o : Option (List ℕ)) (text : List ℕ) → PutPrefix o o text
puts-nothing o text = (0, omega arith, appends_nothing o)
