-- A tree that grows from the root along links, by a walk that meets the neighbours of each vertex in turn.
use Rattle.std.specs.Prelude.{◌≡◌, ◌≢◌, ℕ, suc, ◌-◌, ◌<◌, ◌≤◌, ◌^◌, List, length, slice_index, min}
use Rattle.nf_view.specs.declared.links.Link.{Link}
use Rattle.nf_view.specs.declared.walk.Walk.{Walk}
use Rattle.nf_view.specs.Keys.{Leads, link_at}
use Rattle.nf_view.specs.Sizes.{total}

-- c is one more than the last of the first m links that begins at v, or 0 if there is none.
pub record IsLast (begin : ℕ → ℕ) (v m c : ℕ) : Type 0 where
  pub within : c ≤ m
  pub here : 0 < c → begin (c - 1) ≡ v
  pub none : (q : ℕ) → c ≤ q → q < m → begin q ≢ v

-- The first m links, in one list for each vertex at which they begin.
pub record AreListed (begin : ℕ → ℕ) (first next : List ℕ) (m : ℕ) : Type 0 where
  pub firsts : (v : ℕ) → v < length first → IsLast begin v m (slice_index first v)
  pub nexts : (q : ℕ) → q < m → IsLast begin (begin q) q (slice_index next q)

-- The vertex at which link q begins.
abbrev pub begins : List Link → ℕ → ℕ
begins links q = (link_at links q).«from»

-- The lists have room for the vertices 0 to n and for the links, and list the first m links.
pub record IsListing (n : ℕ) (links : List Link) (first next : List ℕ) (m : ℕ) : Type 0 where
  pub firsts : length first ≡ suc n
  pub nexts : length next ≡ length links
  pub listed : AreListed (begins links) first next m

-- A seat is 0 for a vertex that was not met, and i + 1 for the i-th that was met.
pub record IsGrown (n : ℕ) (links : List Link) (seat order pred arc : ℕ → ℕ) (met : ℕ) : Type 0 where
  pub some : 0 < met
  pub root_seat : seat 0 ≡ 1
  pub order_seat : (i : ℕ) → i < met → (order i ≤ n) × (seat (order i) ≡ suc i)
  pub seat_order : (v : ℕ) → v ≤ n → 0 < seat v → (seat v ≤ met) × (order (seat v - 1) ≡ v)
  pub pred_before : (v : ℕ) → v ≤ n → 0 < v → 0 < seat v → (pred v ≤ n) × (0 < seat (pred v)) × (seat (pred v) < seat v)
  pub joins : (v : ℕ) → v ≤ n → 0 < v → 0 < seat v → Leads links (arc v) (pred v) v
  pub counted : total (suc n) (λ v. min (seat v) 1) ≡ met

-- Every link that begins at one of the first `upto` that were met has been followed.
abbrev pub IsFollowed : List Link → List ℕ → ℕ → Type 0
IsFollowed links seat upto = (q : ℕ) → q < length links → 0 < slice_index seat (link_at links q).«from» → slice_index seat (link_at links q).«from» ≤ upto → 0 < slice_index seat (link_at links q).to

-- The lists have room for the vertices 0 to n.
pub record HasRoom (n : ℕ) (w : Walk) : Type 0 where
  pub few : n < 2 ^ 31
  pub seats : length w.seat.items ≡ suc n
  pub orders : length w.order.items ≡ suc n
  pub preds : length w.pred.items ≡ suc n
  pub arcs : length w.arc.items ≡ suc n

pub record IsWalk (n : ℕ) (links : List Link) (w : Walk) : Type 0 where
  pub room : HasRoom n w
  pub grown : IsGrown n links (slice_index w.seat.items) (slice_index w.order.items) (slice_index w.pred.items) (slice_index w.arc.items) w.met

-- What was met keeps its seat, and what is new comes after it.
pub record Keeps (old new : Walk) : Type 0 where
  pub more : old.met ≤ new.met
  pub met_stays : (v : ℕ) → 0 < slice_index old.seat.items v → slice_index new.seat.items v ≡ slice_index old.seat.items v
  pub fresh : (v : ℕ) → slice_index old.seat.items v ≡ 0 → 0 < slice_index new.seat.items v → old.met < slice_index new.seat.items v
