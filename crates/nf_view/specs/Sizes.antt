-- The sizes of the subtrees of a rooted tree.
-- The tree view promises them.
use Rattle.std.specs.Prelude.{◌≡◌, ℕ, zero, suc, ◌+◌, ◌-◌, ◌≤◌, cond, ◌==◌}

-- f 0 + .. + f (n - 1).
unfoldable pub total : ℕ → (ℕ → ℕ) → ℕ
total zero f = 0
total (suc n) f = total n f + f n

-- x where the two are equal, and else 0.
abbrev pub where_same : ℕ → ℕ → ℕ → ℕ
where_same p v x = cond (p == v) x 0

-- A vertex counts for one, and so do those that are counted by the nodes that it precedes.
abbrev pub AreSizes : (n : ℕ) (pred size : ℕ → ℕ) → Type 0
AreSizes n pred size = (v : ℕ) → v ≤ n → size v ≡ 1 + total n (λ i. where_same (pred (suc i)) v (size (suc i)))

-- The vertices of the order after place k were added to their predecessors, and the others count all vertices.
pub record AreSummed (n : ℕ) (pred order size : ℕ → ℕ) (k : ℕ) : Type 0 where
  pub sums : (v : ℕ) → v ≤ n → size v ≡ 1 + total (n - k) (λ r. where_same (pred (order (n - r))) v (size (order (n - r))))
  pub whole : total (suc k) (λ i. size (order i)) ≡ suc n
