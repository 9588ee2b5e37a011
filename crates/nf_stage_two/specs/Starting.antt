-- What the start of stage two may answer that gives no state, and the state while it is made.
-- `start_two` promises the first.
use Rattle.std.specs.Prelude.{◌≡◌, ℕ, ◌+◌, ◌<◌, ◌≤◌, false, length}
use Rattle.nf_num.specs.Rational.{ℚ}
use Rattle.nf_model.specs.Program.{LinearProgram, HoldsBelow}
use Rattle.nf_sums.specs.Terms.{PassesIn}
use Rattle.nf_simplex.specs.Place.{Lower}
use Rattle.nf_simplex.specs.Layout.{layout_of}
use Rattle.nf_simplex.specs.Columns.{Given, Slack, Artificial}
use Rattle.nf_simplex.specs.StageOf.{StageTwo}
use Rattle.nf_simplex.specs.Starts.{idle_place}
use Rattle.nf_simplex.specs.Standing.{Standing, place_of, is_negative}
use Rattle.nf_simplex.specs.Moves.{HasStartedColumn, HasStartedRow}
use Rattle.nf_basis.specs.declared.start.StartFault.{StartFault}
use Rattle.nf_basis.specs.declared.start.StartFault.TheVariants.{Passed, NoMemory}
use Rattle.nf_basis.specs.Arising.{StateTerms}

-- Want of memory, or an operation that passes 128 bits and arises from a state s of stage one.
abbrev pub IsSecondFaultOf : LinearProgram → Standing → StartFault → Type 0
IsSecondFaultOf p s (Passed passed) = PassesIn (StateTerms p s) passed
IsSecondFaultOf p s NoMemory = Unit {0}

-- The slack and the artificial of side row q stand at their lower bounds, an equation's slack nowhere; the sign is 1.
pub record RestsAtRow (p : LinearProgram) (t : Standing) (q : ℕ) : Type 0 where
  pub slack : place_of p t (Slack (p.nodes + q)) ≡ idle_place ((layout_of p).kind (p.nodes + q))
  pub artificial : place_of p t (Artificial (p.nodes + q)) ≡ Lower
  pub sign : is_negative t (p.nodes + q) ≡ false

-- Midway the first arcs and node rows stand as they do in s, the nonarc variables and the first side rows have started,
-- from the values x, and the other side rows rest.
pub record IsMidway (p : LinearProgram) (s : Standing) (x : ℕ → ℚ) (arcs nodes sides : ℕ) (t : Standing) : Type 0 where
  pub stage : t.stage ≡ StageTwo
  pub arcs_stay : HoldsBelow arcs (λ j. place_of p t (Given j) ≡ place_of p s (Given j))
  pub nonarcs_started : (j : ℕ) → p.arcs + j < length p.columns → HasStartedColumn p t (p.arcs + j)
  pub nodes_stay : HoldsBelow nodes (λ i. (place_of p t (Artificial i) ≡ place_of p s (Artificial i)) × (is_negative t i ≡ is_negative s i))
  pub sides_started : HoldsBelow sides (HasStartedRow p x t)
  pub sides_rest : (q : ℕ) → sides ≤ q → p.nodes + q < length p.rows → RestsAtRow p t q
