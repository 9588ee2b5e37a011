-- Orders of the vertices of a rooted tree in which no vertex comes before its predecessor.
-- The loops that follow the walk go by such an order.
use Rattle.std.specs.Prelude.{◌≡◌, ◌≢◌, ℕ, suc, ◌<◌, ◌≤◌, ◌==◌, List, length, slice_index, if◌then◌else◌}
use Rattle.nf_view.specs.View.{IsNextChild}

-- The order has each of the vertices 0 to n once, the root first, and each node after its predecessor.
pub record IsOrder (n : ℕ) (pred order : ℕ → ℕ) : Type 0 where
  pub first : order 0 ≡ 0
  pub within : (k : ℕ) → k ≤ n → order k ≤ n
  pub distinct : (i k : ℕ) → i < k → k ≤ n → order i ≢ order k
  pub every : (v : ℕ) → v ≤ n → (k : ℕ) × (k ≤ n) × (order k ≡ v)
  pub before : (k : ℕ) → 0 < k → k ≤ n → (i : ℕ) × (i < k) × (order i ≡ pred (order k))

-- The children above k are linked: the first of each vertex, and the next sibling of each child.
pub record AreSiblings (n : ℕ) (pred first sibling : ℕ → ℕ) (k : ℕ) : Type 0 where
  pub firsts : (v : ℕ) → v ≤ n → IsNextChild n pred v k (first v)
  pub nexts : (w : ℕ) → k < w → w ≤ n → IsNextChild n pred (pred w) w (sibling w)

-- The lists have room for the vertices 0 to n, and link the children above k.
pub record HasChildren (n : ℕ) (pred : ℕ → ℕ) (first sibling : List ℕ) (k : ℕ) : Type 0 where
  pub firsts : length first ≡ suc n
  pub siblings : length sibling ≡ suc n
  pub linked : AreSiblings n pred (slice_index first) (slice_index sibling) k

-- What comes after the subtree of v, and after v itself, is known.
pub record IsThreaded (pred first sibling after next : ℕ → ℕ) (v : ℕ) : Type 0 where
  pub root : v ≡ 0 → after v ≡ 0
  pub sideways : 0 < v → after v ≡ (if sibling v == 0 then after (pred v) else sibling v)
  pub downwards : next v ≡ (if first v == 0 then after v else first v)
