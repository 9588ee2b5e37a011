-- What a tree keeps: a state of stage one that is a basis, the basic columns in slots with their values, their links,
-- the ends of the columns and the duals of both phases.
-- Its `HasNumbers` is `HoldsTree`.
use Rattle.std.specs.Prelude.{◌≡◌, ℕ, ◌+◌, ◌*◌, ◌<◌, length}
use Rattle.nf_model.specs.Program.{LinearProgram}
use Rattle.nf_simplex.specs.Layout.{layout_of}
use Rattle.nf_simplex.specs.StageOf.{StageNumber, StageOne, rows_in}
use Rattle.nf_simplex.specs.Standing.{IsBasisOf}
use Rattle.nf_basis.specs.Kept.{IsPresent, IsStateOf}
use Rattle.nf_basis.specs.Numbers.{in_slot, ListBasics}
use Rattle.nf_basis.specs.Dense.{HasBasics}
use Rattle.nf_tree.specs.declared.tree.Tree.{Tree}
use Rattle.nf_basis.specs.declared.col.Phase.TheVariants.{One, Two}
use Rattle.nf_tree.specs.Duals.{KeepsDuals}
use Rattle.nf_tree.specs.Links.{AreEndsOf, AreZeros, HasSpan, IsTreeOf}

-- There is room for a tree over n nodes, for a column, and for a path, whose weights are 0 between calls.
pub record HasRoom (n : ℕ) (b : Tree) : Type 0 where
  pub span : HasSpan n b.span
  pub keys : length b.keys.items ≡ n
  pub work : length b.work.items ≡ n
  pub weights : AreZeros n b.weights.items
  pub trail : length b.trail.items ≡ n

-- A tree has the numbers of its state in p.
pub record HoldsTree (p : LinearProgram) (b : Tree) : Type 0 where
  pub state : IsStateOf p b.state
  pub stage : b.state.standing.stage ≡ StageOne
  pub held : HasBasics p b.state.standing b.slots.items b.values.items
  pub tree : IsTreeOf p b.state.standing b.slots.items b.span.grove.order.items b.span.grove.links
  pub ends : AreEndsOf p b.state.standing b.slots.items p.nodes b.span.tails.items b.span.heads.items b.span.names.items
  pub one : KeepsDuals p b.state.standing One b.one
  pub two : KeepsDuals p b.state.standing Two b.two
  pub room : HasRoom p.nodes b

-- A tree has the links of its state's basic columns, each in the slot of its node; of its values nothing is said.
pub record IsPlanted (p : LinearProgram) (b : Tree) : Type 0 where
  pub state : IsStateOf p b.state
  pub stage : b.state.standing.stage ≡ StageOne
  pub basis : IsBasisOf p b.state.standing
  pub listed : ListBasics p b.state.standing b.slots.items
  pub tree : IsTreeOf p b.state.standing b.slots.items b.span.grove.order.items b.span.grove.links
  pub values : length b.values.items ≡ p.nodes
  pub ends : AreEndsOf p b.state.standing b.slots.items p.nodes b.span.tails.items b.span.heads.items b.span.names.items
  pub one : KeepsDuals p b.state.standing One b.one
  pub two : KeepsDuals p b.state.standing Two b.two
  pub room : HasRoom p.nodes b

-- All fields but the duals stay.
pub record KeepsAllButDuals (old new : Tree) : Type 0 where
  pub state : new.state ≡ old.state
  pub slots : new.slots ≡ old.slots
  pub values : new.values ≡ old.values
  pub span : new.span ≡ old.span
  pub keys : new.keys ≡ old.keys
  pub work : new.work ≡ old.work
  pub weights : new.weights ≡ old.weights
  pub trail : new.trail ≡ old.trail

-- What a call may cost: sixteen times the number of vertices.
abbrev pub tree_unit : LinearProgram → StageNumber → ℕ
tree_unit p n = 16 * (rows_in (layout_of p) n + 1)

-- A tree has the links of the columns in its slots, whether they are the basic columns of a state or not: of its state only
-- the stage and the signs count.
pub record HoldsLinks (p : LinearProgram) (b : Tree) : Type 0 where
  pub state : IsStateOf p b.state
  pub stage : b.state.standing.stage ≡ StageOne
  pub slots : length b.slots.items ≡ p.nodes
  pub present : (k : ℕ) → k < p.nodes → IsPresent p b.state.standing (in_slot b.slots.items k)
  pub tree : IsTreeOf p b.state.standing b.slots.items b.span.grove.order.items b.span.grove.links
