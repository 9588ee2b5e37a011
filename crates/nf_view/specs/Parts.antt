-- A union of sets: each vertex leads to one of its part that is not greater, and the least of a part to itself.
-- The choice of key columns keeps it.
use Rattle.std.specs.Prelude.{◌≡◌, ℕ, ◌<◌, ◌≤◌, List, length, slice_index}
use Rattle.nf_view.specs.declared.links.Link.{Link}

-- `part` names the part of each vertex.
pub record IsUnion (part : ℕ → ℕ) (above : List ℕ) : Type 0 where
  pub same : (v : ℕ) → v < length above → part (slice_index above v) ≡ part v
  pub top : (v : ℕ) → v < length above → slice_index above v ≡ v → part v ≡ v

-- No vertex leads to a greater one.
abbrev pub LeadsDown : List ℕ → Type 0
LeadsDown above = (v : ℕ) → v < length above → slice_index above v ≤ v

-- A link joins vertices from 0 to n.
pub record IsBetween (n : ℕ) (e : Link) : Type 0 where
  pub begins : e.«from» ≤ n
  pub ends : e.to ≤ n
