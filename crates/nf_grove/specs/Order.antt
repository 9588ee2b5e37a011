-- Orders of the vertices of a rooted tree: each after its predecessor, preorders, and the thread.
-- `rebuild` promises that the thread is a preorder.
use Rattle.std.specs.Prelude.{◌≡◌, ◌≢◌, ℕ, suc, ◌<◌, ◌≤◌}

-- The order has each of the vertices 0 to n once, the root first, and each node after its predecessor.
pub record IsOrder (n : ℕ) (pred order : ℕ → ℕ) : Type 0 where
  pub first : order 0 ≡ 0
  pub within : (k : ℕ) → k ≤ n → order k ≤ n
  pub distinct : (i k : ℕ) → i < k → k ≤ n → order i ≢ order k
  pub every : (v : ℕ) → v ≤ n → (k : ℕ) × (k ≤ n) × (order k ≡ v)
  pub before : (k : ℕ) → 0 < k → k ≤ n → (i : ℕ) × (i < k) × (order i ≡ pred (order k))

-- It is a preorder: between the predecessor of a node and the node only nodes come that are at least as deep as the node.
-- So each subtree is one block of the order.
pub record IsPreorder (n : ℕ) (pred depth order : ℕ → ℕ) : Type 0 where
  pub ordered : IsOrder n pred order
  pub block : (i k r : ℕ) → k ≤ n → 0 < k → order i ≡ pred (order k) → i < r → r < k → depth (order k) ≤ depth (order r)

-- The thread leads from vertex to vertex in this order, and from the last one to the root.
pub record IsThread (n : ℕ) (thread order : ℕ → ℕ) : Type 0 where
  pub next : (k : ℕ) → k < n → thread (order k) ≡ order (suc k)
  pub last : thread (order n) ≡ 0
