-- The solution of a tree for rests of its nodes: sums over subtrees, gathered from the nodes to the root.
-- `Tree::tree_solve` promises it, with the operations that it makes.
use Rattle.std.specs.Prelude.{◌≡◌, ◌≢◌, ◌⊎◌, ℕ, suc, ◌-◌, ◌<◌, false, List, set, slice_index}
use Rattle.nf_num.specs.Rational.{ℚ, ◌+ℚ◌, ◌*ℚ◌}
use Rattle.nf_num.specs.Sum.{sum_ℚ, delta}
use Rattle.nf_frac.specs.declared.passed.Passed.{Passed}
use Rattle.nf_frac.specs.declared.passed.Op.TheVariants.{Add}
use Rattle.nf_frac.specs.Range.{Passes}
use Rattle.nf_model.specs.Program.{LinearProgram, at}
use Rattle.nf_sums.specs.Terms.{Terms}
use Rattle.nf_sums.specs.Rows.{path_terms}
use Rattle.nf_links.specs.Map.{LinkMap}
use Rattle.nf_simplex.specs.Standing.{Standing, stage_of}
use Rattle.nf_basis.specs.declared.col.Col.{Col}
use Rattle.nf_basis.specs.Numbers.{slot_number}
use Rattle.nf_tree.specs.Links.{pred_in}

-- The columns in the slots with these weights have the numbers b at the nodes.
abbrev pub GiveAt : LinearProgram → Standing → List Col → (ℕ → ℚ) → List ℚ → Type 0
GiveAt p s slots b out = (r : ℕ) → r < p.nodes → sum_ℚ p.nodes (λ i. at out i *ℚ (stage_of p s).entry (slot_number p slots i) r) ≡ b r

-- The row of sums of some of the rests.
abbrev pub rest_paths : ℕ → (ℕ → ℚ) → Terms
rest_paths n b = path_terms n b (λ _. false) false

-- The node of a row is on the path from the node of row r to the root.
pub data IsOnPath (m : LinkMap) (r : ℕ) : ℕ → Type 0 where
  start : IsOnPath m r r
  on : (i j : ℕ) → IsOnPath m r i → pred_in m i ≡ suc j → IsOnPath m r j

-- The operation overflows: it adds what two nodes hold of the rests, each rest being held by one node, and one of the two is on
-- the path to the root from each node whose rest they hold.
pub record PassesOnPaths (n : ℕ) (m : LinkMap) (b : ℕ → ℚ) (c : Passed) : Type 0 where
  pub owner : ℕ → ℕ
  pub node : ℕ
  pub from : ℕ
  pub within : node < n
  pub apart : node ≢ from
  pub on_path : (r : ℕ) → r < n → (owner r ≡ node) ⊎ (owner r ≡ from) → IsOnPath m r node
  pub is : c ≡ record { op = Add; left = sum_ℚ n (λ r. delta (owner r) node *ℚ b r); right = sum_ℚ n (λ r. delta (owner r) from *ℚ b r) }
  pub passes : Passes c.op c.left c.right

-- The number of a node was added to that of its predecessor, unless that is the root.
pub record IsHandedOn (m : LinkMap) (node : ℕ) (f g : List ℚ) : Type 0 where
  pub root : slice_index m.pred node ≡ 0 → g ≡ f
  pub inner : slice_index m.pred node ≢ 0 → g ≡ set f (slice_index m.pred node - 1) (at f (slice_index m.pred node - 1) +ℚ at f (node - 1))

-- That sum overflows.
pub record PassesUp (m : LinkMap) (node : ℕ) (f : List ℚ) (c : Passed) : Type 0 where
  pub behind : slice_index m.pred node ≢ 0
  pub is : c ≡ record { op = Add; left = at f (slice_index m.pred node - 1); right = at f (node - 1) }
  pub passes : Passes c.op c.left c.right

-- The row of the node that is gathered as the k-th.
abbrev pub gathered_at : List ℕ → ℕ → ℕ → ℕ
gathered_at order n k = slice_index order (n - k) - 1

-- The first k nodes from the end of the order were handed on: what a node has is the sum of the rests that it holds, and it is
-- on the path to the root from each node whose rest it holds.
pub record IsGathered (p : LinearProgram) (order : List ℕ) (m : LinkMap) (b f : ℕ → ℚ) (k : ℕ) : Type 0 where
  pub summed : (i : ℕ) → i < p.nodes → f i ≡ b i +ℚ sum_ℚ k (λ r. delta (pred_in m (gathered_at order p.nodes r)) (suc i) *ℚ f (gathered_at order p.nodes r))
  pub owner : ℕ → ℕ
  pub holds : (i : ℕ) → i < p.nodes → ((r : ℕ) → r < k → gathered_at order p.nodes r ≢ i) → f i ≡ sum_ℚ p.nodes (λ r. delta (owner r) i *ℚ b r)
  pub above : (r : ℕ) → r < p.nodes → IsOnPath m r (owner r)
