-- The duals that a tree keeps, and the subtree of a node, whose duals a pivot changes.
-- Its `HasNumbers` and its `pivot` rest on them.
use Rattle.std.specs.Prelude.{◌≡◌, ◌≢◌, ℕ, zero, suc, ◌<◌, ◌≤◌, Bool, true, false, List, length, if◌then◌else◌}
use Rattle.nf_num.specs.Rational.{ℚ, zero_ℚ, ◌+ℚ◌}
use Rattle.nf_frac.specs.declared.passed.Passed.{Passed}
use Rattle.nf_frac.specs.declared.passed.Op.TheVariants.{Add}
use Rattle.nf_frac.specs.Range.{Passes}
use Rattle.nf_model.specs.Program.{LinearProgram, at}
use Rattle.nf_simplex.specs.Standing.{Standing}
use Rattle.nf_basis.specs.declared.col.Phase.{Phase}
use Rattle.nf_basis.specs.Numbers.{AreDualsByRow}
use Rattle.nf_tree.specs.declared.duals.Duals.{Duals}

-- Kept duals have a place for each node, and where they are known they are the duals of the phase.
pub record KeepsDuals (p : LinearProgram) (s : Standing) (phase : Phase) (d : Duals) : Type 0 where
  pub one_each : length d.by_row.items ≡ p.nodes
  pub are : d.known ≡ true → AreDualsByRow p s phase d.by_row.items

-- The dual of a vertex: that of its row, and 0 at the root.
abbrev pub dual_of : List ℚ → ℕ → ℚ
dual_of y zero = zero_ℚ
dual_of y (suc i) = at y i

-- A set of vertices is the subtree of a node: it has the node, and neither the node's predecessor nor the root, and it has
-- each other node exactly if it has the predecessor of that.
pub record IsSubtree (n : ℕ) (pred : ℕ → ℕ) (top : ℕ) (inside : ℕ → Bool) : Type 0 where
  pub own : inside top ≡ true
  pub above : inside (pred top) ≡ false
  pub root : inside 0 ≡ false
  pub below : (v : ℕ) → 0 < v → v ≤ n → v ≢ top → inside v ≡ inside (pred v)

-- The numbers f of the nodes became g: x was added to those of the subtree of a node.
pub record IsRaisedBelow (n : ℕ) (pred : ℕ → ℕ) (top : ℕ) (x : ℚ) (f g : List ℚ) : Type 0 where
  pub inside : ℕ → Bool
  pub subtree : IsSubtree n pred top inside
  pub raised : (i : ℕ) → i < n → at g i ≡ at f i +ℚ (if inside (suc i) then x else zero_ℚ)

-- The operation overflows: it adds x to the number of a node.
pub record PassesRaised (n : ℕ) (f : List ℚ) (x : ℚ) (c : Passed) : Type 0 where
  pub node : ℕ
  pub within : node < n
  pub is : c ≡ record { op = Add; left = at f node; right = x }
  pub passes : Passes c.op c.left c.right
