-- A depth-first search from the root: which vertices were met and visited, and the tree so far.
-- The steps of the walk promise it, and `rebuild` that it meets all vertices if the keys join them.
use Rattle.std.specs.Prelude.{◌≡◌, ◌≢◌, ℕ, suc, ◌+◌, ◌-◌, ◌<◌, ◌≤◌, ◌^◌, ◌⊎◌, List, length, slice_index, min, Bool, true}
use Rattle.std.specs.List.{sum_by}
use Rattle.nf_grove.specs.declared.grove.Grove.{Grove}
use Rattle.nf_grove.specs.Kept.{HasRest}

-- c is one more than the last of the first m keys that has v at this end, or 0 if there is none.
pub record IsLast (at : List ℕ) (v m c : ℕ) : Type 0 where
  pub within : c ≤ m
  pub here : 0 < c → slice_index at (c - 1) ≡ v
  pub none : (q : ℕ) → c ≤ q → q < m → slice_index at q ≢ v

-- The first m keys are linked in one list for each vertex at this end.
pub record AreLinked (at first next : List ℕ) (m : ℕ) : Type 0 where
  pub firsts : (v : ℕ) → v < length first → IsLast at v m (slice_index first v)
  pub nexts : (q : ℕ) → q < m → IsLast at (slice_index at q) q (slice_index next q)

-- The keys join all vertices: a set that has the root, and of each key both ends or none, has every vertex.
abbrev pub AreJoined : (n : ℕ) (tails heads : List ℕ) → Type 0
AreJoined n tails heads = (inside : ℕ → Bool) → inside 0 ≡ true → ((q : ℕ) → q < n → inside (slice_index tails q) ≡ inside (slice_index heads q)) → (v : ℕ) → v ≤ n → inside v ≡ true

-- The tree so far: a vertex was not met (seat 0), was visited as the i-th (seat i + 1), or waits at height h of the stack (seat
-- n + 2 + h). One that was met has a key to a predecessor that was visited, one less deep, and what was visited is in preorder.
pub record IsGrown (n : ℕ) (tails heads seat order stack pred depth arc : ℕ → ℕ) (visited waiting : ℕ) : Type 0 where
  pub root_seat : seat 0 ≡ 1
  pub root_depth : depth 0 ≡ 0
  pub order_seat : (i : ℕ) → i < visited → (order i ≤ n) × (seat (order i) ≡ suc i)
  pub stack_seat : (h : ℕ) → h < waiting → (stack h ≤ n) × (seat (stack h) ≡ n + 2 + h)
  pub seat_order : (v : ℕ) → v ≤ n → 0 < seat v → seat v ≤ suc n → (seat v ≤ visited) × (order (seat v - 1) ≡ v)
  pub seat_stack : (v : ℕ) → v ≤ n → suc n < seat v → (seat v < n + 2 + waiting) × (stack (seat v - (n + 2)) ≡ v)
  -- each node that was met has a predecessor that was visited before it
  pub pred_within : (v : ℕ) → v ≤ n → 0 < v → 0 < seat v → pred v ≤ n
  pub pred_before : (v : ℕ) → v ≤ n → 0 < v → 0 < seat v → (0 < seat (pred v)) × (seat (pred v) ≤ visited) × (seat (pred v) < seat v)
  pub deeper : (v : ℕ) → v ≤ n → 0 < v → 0 < seat v → depth v ≡ suc (depth (pred v))
  pub shallow : (v : ℕ) → v ≤ n → 0 < seat v → depth v < seat v
  pub arc_within : (v : ℕ) → v ≤ n → 0 < v → 0 < seat v → arc v < n
  pub ends : (v : ℕ) → v ≤ n → 0 < v → 0 < seat v → ((tails (arc v) ≡ v) × (heads (arc v) ≡ pred v)) ⊎ ((tails (arc v) ≡ pred v) × (heads (arc v) ≡ v))
  -- the higher on the stack, the deeper
  pub climbs : (h g : ℕ) → h ≤ g → g < waiting → depth (stack h) ≤ depth (stack g)
  -- preorder: between a node's predecessor and the node only nodes that are at least as deep as the node were visited
  pub block : (v : ℕ) → v ≤ n → 0 < v → 0 < seat v → (r : ℕ) → seat (pred v) ≤ r → r < visited → suc r < seat v → depth v ≤ depth (order r)

-- Every key with a vertex at this end that was visited as one of the first `upto` has been met at its other end.
abbrev pub IsScanned : (n : ℕ) (at other seat : List ℕ) (upto : ℕ) → Type 0
IsScanned n at other seat upto = (q : ℕ) → q < n → 0 < slice_index seat (slice_index at q) → slice_index seat (slice_index at q) ≤ upto → 0 < slice_index seat (slice_index other q)

-- How many vertices were met.
abbrev pub met : List ℕ → ℕ
met seat = sum_by (λ s. min s 1) seat

-- The lists have room, and the ends of the keys are vertices.
pub record HasRoom (n : ℕ) (tails heads : List ℕ) (g : Grove) : Type 0 where
  pub few : n ≤ 2 ^ 30
  pub tails_many : length tails ≡ n
  pub heads_many : length heads ≡ n
  pub tails_within : (q : ℕ) → q < n → slice_index tails q ≤ n
  pub heads_within : (q : ℕ) → q < n → slice_index heads q ≤ n
  pub seats : length g.seat.items ≡ suc n
  pub orders : length g.order.items ≡ suc n
  pub stacks : length g.stack.items ≡ suc n
  pub preds : length g.links.pred ≡ suc n
  pub depths : length g.links.depth ≡ suc n
  pub rest : HasRest n g.links
  pub arcs : length g.key.items ≡ suc n

-- The lists hold a tree so far, and those that were met were visited or wait.
pub record IsGrove (n : ℕ) (tails heads : List ℕ) (g : Grove) : Type 0 where
  pub room : HasRoom n tails heads g
  pub grown : IsGrown n (slice_index tails) (slice_index heads) (slice_index g.seat.items) (slice_index g.order.items) (slice_index g.stack.items) (slice_index g.links.pred) (slice_index g.links.depth) (slice_index g.key.items) g.visited g.waiting
  pub counted : met g.seat.items ≡ g.visited + g.waiting

-- v was visited last, and no node that waits is deeper than v's neighbours would be.
pub record IsCurrent (g : Grove) (v : ℕ) : Type 0 where
  pub last : slice_index g.seat.items v ≡ g.visited
  pub some : 0 < g.visited
  pub level : (h : ℕ) → h < g.waiting → slice_index g.links.depth (slice_index g.stack.items h) ≤ suc (slice_index g.links.depth v)

-- What was met keeps its seat, and what is new was not visited.
pub record Keeps (old new : Grove) : Type 0 where
  pub visited : new.visited ≡ old.visited
  pub met_stays : (v : ℕ) → 0 < slice_index old.seat.items v → slice_index new.seat.items v ≡ slice_index old.seat.items v
  pub fresh : (v : ℕ) → slice_index old.seat.items v ≡ 0 → 0 < slice_index new.seat.items v → new.visited < slice_index new.seat.items v
