-- The links of the spanning tree of a list of keys.
-- `rebuild` promises that its links are these, whatever they were before.
use Rattle.std.specs.Prelude.{◌≡◌, ℕ, suc, ◌<◌, ◌≤◌, ◌⊎◌, List, length, slice_index}
use Rattle.nf_links.specs.Map.{LinkMap, HasVertices}
use Rattle.nf_grove.specs.declared.grove.Grove.{Grove}
use Rattle.nf_grove.specs.Order.{IsPreorder, IsThread}
use Rattle.nf_grove.specs.Sizes.{AreSizes}

-- Each node i + 1 has a key of its own, by its place in the lists, which joins it with its predecessor, and is deeper than
-- that by one.
pub record IsRootedBy (n : ℕ) (tails heads pred depth key : ℕ → ℕ) : Type 0 where
  pub root : depth 0 ≡ 0
  pub within : (i : ℕ) → i < n → pred (suc i) ≤ n
  pub deeper : (i : ℕ) → i < n → depth (suc i) ≡ suc (depth (pred (suc i)))
  pub key_within : (i : ℕ) → i < n → key i < n
  pub distinct : (i k : ℕ) → i < n → k < n → key i ≡ key k → i ≡ k
  pub ends : (i : ℕ) → i < n → ((tails (key i) ≡ suc i) × (heads (key i) ≡ pred (suc i))) ⊎ ((tails (key i) ≡ pred (suc i)) × (heads (key i) ≡ suc i))

-- The links are those of the tree of the keys that have these tails, heads and names: predecessors and depths, the names of
-- the keys, a preorder, and sizes. Node i + 1 has the key at place `key i`; `order` is the preorder. The root has itself as
-- predecessor, and no key.
pub record IsTreeBy (n : ℕ) (tails heads names : List ℕ) (key order : ℕ → ℕ) (m : LinkMap) : Type 0 where
  pub vertices : HasVertices n m
  pub rooted : IsRootedBy n (slice_index tails) (slice_index heads) (slice_index m.pred) (slice_index m.depth) key
  pub root_pred : slice_index m.pred 0 ≡ 0
  pub root_arc : slice_index m.arc 0 ≡ 0
  pub arcs : (i : ℕ) → i < n → slice_index m.arc (suc i) ≡ slice_index names (key i)
  pub preorder : IsPreorder n (slice_index m.pred) (slice_index m.depth) order
  pub thread : IsThread n (slice_index m.thread) order
  pub sizes : AreSizes n (slice_index m.pred) (slice_index m.size)

-- The links of a grove are those of the tree of these keys, with the grove's keys and order.
abbrev pub IsTreeIn : (tails heads names : List ℕ) → Grove → Type 0
IsTreeIn tails heads names g = IsTreeBy (length tails) tails heads names (λ i. slice_index g.key.items (suc i)) (slice_index g.order.items) g.links
