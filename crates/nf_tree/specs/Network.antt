-- Networks: in the node rows every column is an arc from one vertex to another, and a basis is a spanning tree.
-- That `Tree` has the numbers of its state rests on it.
use Rattle.std.specs.Prelude.{◌≡◌, ℕ, suc, ◌<◌, ◌≤◌, ◌⊎◌, Bool, true, cond, ◌==◌}
use Rattle.nf_num.specs.Rational.{ℚ, zero_ℚ, one_ℚ, ◌+ℚ◌, ◌*ℚ◌, neg_ℚ}
use Rattle.nf_num.specs.Sum.{sum_ℚ, delta}
use Rattle.nf_simplex.specs.Place.{Place, Basic, count_basic}
use Rattle.nf_simplex.specs.Stage.{Stage}

-- The basic columns join all vertices: a set of vertices that has the root, and of each basic column both ends or none, has them all.
abbrev pub IsConnected : (nodes columns : ℕ) (tail head : ℕ → ℕ) (s : ℕ → Place) → Type 0
IsConnected nodes columns tail head s =
    (inside : ℕ → Bool) → inside 0 ≡ true → ((j : ℕ) → j < columns → s j ≡ Basic → inside (tail j) ≡ inside (head j)) → (v : ℕ) → v ≤ nodes → inside v ≡ true

-- The basic columns are a spanning tree over the root, 0, and the nodes, 1 to `nodes`: they join all, and are as many as the nodes.
pub record IsSpanningTree (nodes columns : ℕ) (tail head : ℕ → ℕ) (s : ℕ → Place) : Type 0 where
  pub as_many : count_basic columns s ≡ nodes
  pub connected : IsConnected nodes columns tail head s

-- Column `arc i` joins node i + 1 with its predecessor, which is less deep by one.
pub record IsRooted (nodes : ℕ) (tail head pred depth arc : ℕ → ℕ) : Type 0 where
  pub root : depth 0 ≡ 0
  pub within : (i : ℕ) → i < nodes → pred i ≤ nodes
  pub deeper : (i : ℕ) → i < nodes → depth (suc i) ≡ suc (depth (pred i))
  pub ends : (i : ℕ) → i < nodes → ((tail (arc i) ≡ suc i) × (head (arc i) ≡ pred i)) ⊎ ((tail (arc i) ≡ pred i) × (head (arc i) ≡ suc i))

-- The first rows of a stage are node rows: vertex 0 is the root, and vertex i + 1 the node of row i. A column has 1 at its tail and -1 at its head.
-- Artificials join a node with the root; nonarc variables, slacks and the artificials of side rows lead from the root to itself.
pub record IsNetwork (S : Stage) (nodes : ℕ) (tail head : ℕ → ℕ) : Type 0 where
  pub tail_within : (j : ℕ) → j < S.columns → tail j ≤ nodes
  pub head_within : (j : ℕ) → j < S.columns → head j ≤ nodes
  pub node_entry : (j i : ℕ) → j < S.columns → i < nodes → S.entry j i ≡ delta (tail j) (suc i) +ℚ neg_ℚ (delta (head j) (suc i))

-- 1 if the key column of node i + 1 leaves it, -1 if it enters it.
unfoldable pub turn : (tail arc : ℕ → ℕ) → ℕ → ℚ
turn tail arc i = cond (tail (arc i) == suc i) one_ℚ (neg_ℚ one_ℚ)

-- The flows from the nodes to their predecessors: what a node supplies, and the flows of the nodes whose predecessor it is.
abbrev pub AreFlows : (nodes : ℕ) (pred : ℕ → ℕ) (b f : ℕ → ℚ) → Type 0
AreFlows nodes pred b f = (i : ℕ) → i < nodes → f i ≡ b i +ℚ sum_ℚ nodes (λ q. delta (pred q) (suc i) *ℚ f q)

-- The potentials of vertices: 0 at the root, and along each key column its cost.
pub record ArePotentials (nodes : ℕ) (tail pred arc : ℕ → ℕ) (c p : ℕ → ℚ) : Type 0 where
  pub at_root : p 0 ≡ zero_ℚ
  pub along : (i : ℕ) → i < nodes → p (suc i) ≡ p (pred i) +ℚ turn tail arc i *ℚ c (arc i)

-- x is 0, 1 or -1.
abbrev pub IsTernary : ℚ → Type 0
IsTernary x = (x ≡ zero_ℚ) ⊎ ((x ≡ one_ℚ) ⊎ (x ≡ neg_ℚ one_ℚ))
