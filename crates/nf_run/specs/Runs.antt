-- What the statements of a program do, in events: each RUN leads from the spot before it to the halt that is due.
-- The listing of a run is the lines of its events, and nothing else.
use Rattle.std.specs.Prelude.{◌≡◌, ◌⊎◌, ◌++◌, ℕ, List, [], ◌∷◌, flat_map}
use Rattle.std.specs.List.{AllByRecursion}
use Rattle.nf_model.specs.Program.{LinearProgram}
use Rattle.nf_sums.specs.Terms.{PassesIn}
use Rattle.nf_frac.specs.declared.passed.Passed.{Passed}
use Rattle.nf_simplex.specs.Standing.{Standing}
use Rattle.nf_simplex.specs.Moves.{IsFirstState}
use Rattle.nf_basis.specs.Arising.{StateTerms}
use Rattle.nf_program.specs.declared.program.SessionOptions.{SessionOptions}
use Rattle.nf_program.specs.declared.program.Statement.{Statement}
use Rattle.nf_program.specs.declared.program.Statement.TheVariants as act
use Rattle.nf_run.specs.declared.line.HaltLine.{HaltLine}
use Rattle.nf_run.specs.Lines.{count_lines, halt_lines}
use Rattle.nf_run.specs.Turns.{Gives, PassesInRun, Spot, counts_at, setting_at, started}
use Rattle.nf_run.specs.Verdicts.{Says}

-- ---- all statements
-- A statement that prints: a RUN from a spot to the next one, with its line.
pub record Event : Type 0 where
  pub before : Spot
  pub line : HaltLine
  pub after : Spot

-- The events that statements give from a to b: one for each RUN. QUIT gives none, and no other statement stands yet.
abbrev pub Follows : LinearProgram → SessionOptions → Spot → List Statement → List Event → Spot → Type 0
Follows p o a [] events b = (events ≡ []) × (b ≡ a)
Follows p o a (act.Run ∷ acts) [] b = ⊥
Follows p o a (act.Run ∷ acts) (e ∷ events) b = (e.before ≡ a) × Gives p o a e.line e.after × Follows p o e.after acts events b
Follows p o a (act.Quit ∷ acts) events b = Follows p o a acts events b
Follows p o a (_ ∷ acts) events b = ⊥

-- The lines of a halt and of the counts behind it.
abbrev pub event_lines : HaltLine → Spot → List ℕ
event_lines line b = halt_lines line ++ count_lines (counts_at b)

-- The lines of events, one after another.
abbrev pub listing_of : List Event → List ℕ
listing_of events = flat_map (λ e. event_lines e.line e.after) events

-- What a line says behind a RUN that has come to b.
abbrev pub SaysAt : LinearProgram → SessionOptions → Spot → HaltLine → Type 0
SaysAt p o b line = Says p (setting_at o b) b.point line

-- Each event's line is what it says.
abbrev pub AreExplained : LinearProgram → SessionOptions → List Event → Type 0
AreExplained p o events = AllByRecursion (λ e. SaysAt p o e.after e.line) events

-- ---- listings
-- The spot at which a session opens.
abbrev pub opened : Standing → Spot
opened s = record { point = started s; earlier = 0 }

-- These statements, obeyed from the first state of the problem, come to this spot, and the text is their listing; each
-- line of it is explained.
pub record Lists (p : LinearProgram) (o : SessionOptions) (acts : List Statement) (b : Spot) (text : List ℕ) : Type 0 where
  pub start : Standing
  pub first : IsFirstState p start
  pub events : List Event
  pub follows : Follows p o (opened start) acts events b
  pub listed : text ≡ listing_of events
  pub explained : AreExplained p o events

-- The text is the listing of the first statements, or of none.
abbrev pub IsFront : LinearProgram → SessionOptions → List Statement → List ℕ → Type 0
IsFront p o acts text = (text ≡ []) ⊎ ((done rest : List Statement) × (b : Spot) × (acts ≡ done ++ rest) × Lists p o done b text)

-- ---- operations that pass 128 bits
-- While the first state is made, or its basis: the operation arises from the first state.
abbrev pub PassesAtStart : LinearProgram → Passed → Type 0
PassesAtStart p passed = (start : Standing) × IsFirstState p start × PassesIn (StateTerms p start) passed

-- The text is the listing of the statements before the one in which an operation passes, in a stage and at so many
-- pivots of it; or is empty where it passes at the start.
abbrev pub IsCut : LinearProgram → SessionOptions → List Statement → List ℕ → ℕ → ℕ → Passed → Type 0
IsCut p o acts text stage pivots passed =
    ((text ≡ []) × (stage ≡ 1) × (pivots ≡ 0) × PassesAtStart p passed)
    ⊎ ((done rest : List Statement) × (b : Spot) × (acts ≡ done ++ act.Run ∷ rest) × Lists p o done b text × PassesInRun p o b stage pivots passed)
