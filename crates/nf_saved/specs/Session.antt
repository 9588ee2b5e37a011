-- A session: where the simplex method stands, and what it carries from statement to statement.
-- The tables in which a session is saved, and what they are read as, are said of it.
use Rattle.std.specs.Prelude.{◌≡◌, ◌≢◌, ℕ, ◌+◌, ◌-◌, ◌^◌, ◌<◌, ◌≤◌, length, get_or}
use Rattle.nf_model.specs.Program.{LinearProgram, HoldsBelow}
use Rattle.nf_program.specs.declared.program.SessionOptions.{SessionOptions}
use Rattle.nf_simplex.specs.Place.{Absent}
use Rattle.nf_simplex.specs.Layout.{layout_of}
use Rattle.nf_simplex.specs.Queue.{PricingState}
use Rattle.nf_simplex.specs.StageOf.{StageOne, StageTwo, HasStageTwo}
use Rattle.nf_simplex.specs.Standing.{Standing, place_at, IsFeasibleState}
use Rattle.nf_print.specs.declared.halt.Counts.{Counts}
use Rattle.nf_print.specs.declared.status.Last.{Last}
use Rattle.nf_print.specs.declared.status.Last.TheVariants as last

-- What a session carries besides its state: the pivots of both stages, the cursor and the queue, the session options, and
-- how the last RUN or PIVOT ended. The cursor and the members of the queue are numbers of columns, counted from 1.
pub record Carried : Type 0 where
  pub counts : Counts
  pub pricing : PricingState
  pub options : SessionOptions
  pub last : Last

-- A session is a state of a stage, and what is carried.
pub record Session : Type 0 where
  pub standing : Standing
  pub carried : Carried

abbrev pub session_of : Standing → Carried → Session
session_of standing carried = record { standing = standing; carried = carried }

-- How many columns have a number in pricing: the given columns, and a slack for each side row.
abbrev pub count_entering : LinearProgram → ℕ
count_entering p = (layout_of p).columns + (layout_of p).sides

-- n is the number, from 1, of a given column or a slack that is present.
pub record IsEnteringNumber (p : LinearProgram) (s : Standing) (n : ℕ) : Type 0 where
  pub counted : 0 < n
  pub within : n ≤ count_entering p
  pub present : place_at s (n - 1) ≢ Absent

-- The options can be written: limits and pauses have at most nine digits, and the sizes of queues are from 1 to 999.
pub record CanBeWritten (o : SessionOptions) : Type 0 where
  pub maxit1 : o.maxit1 < 10 ^ 9
  pub maxit2 : o.maxit2 < 10 ^ 9
  pub pause1 : o.pause1 < 10 ^ 9
  pub pause2 : o.pause2 < 10 ^ 9
  pub some1 : 0 < o.queuesize1
  pub some2 : 0 < o.queuesize2
  pub size1 : o.queuesize1 < 1000
  pub size2 : o.queuesize2 < 1000

-- What a session carries fits its state: stage two is there only if the problem has it and has pivots only in it, cursor
-- and queue are of columns that can be priced, and only stage one ends with stage two to come.
pub record FitsState (p : LinearProgram) (s : Standing) (c : Carried) : Type 0 where
  pub has_stage : s.stage ≡ StageTwo → HasStageTwo (layout_of p)
  pub none_yet : s.stage ≡ StageOne → c.counts.two ≡ 0
  pub cursor : c.pricing.cursor ≤ count_entering p
  pub queued : HoldsBelow (length c.pricing.queue) (λ k. IsEnteringNumber p s (get_or c.pricing.queue k 0))
  pub once : (i k : ℕ) → i < k → k < length c.pricing.queue → get_or c.pricing.queue i 0 ≢ get_or c.pricing.queue k 0
  pub short : length c.pricing.queue < 1000
  pub options : CanBeWritten c.options
  pub between : c.last ≡ last.StageOne → (s.stage ≡ StageOne) × HasStageTwo (layout_of p)

-- What each session keeps that a program reaches: its state is lexicographically feasible, and what it carries fits.
pub record IsSession (p : LinearProgram) (s : Session) : Type 0 where
  pub state : IsFeasibleState p s.standing
  pub carried : FitsState p s.standing s.carried
