-- Where a run of the simplex method is, and what an engine keeps.
-- All that steps and runs promise is said of it.
use Rattle.std.specs.Prelude.{ℕ}
use Rattle.nf_simplex.specs.Queue.{PricingState}
use Rattle.nf_simplex.specs.Standing.{Standing}

-- A state, how many pivots its stage has had, and what pricing carries: the cursor and the queue.
pub record Point : Type 0 where
  pub standing : Standing
  pub pivots : ℕ
  pub pricing : PricingState

-- What an engine keeps: its basis, pivots, cursor and queue, and for how many rows it has room.
pub record Kept (B : Type 0) : Type 0 where
  pub basis : B
  pub pivots : ℕ
  pub pricing : PricingState
  pub room : ℕ

-- The point at which an engine is, where its basis stands for a state so.
abbrev pub point : {B : Type 0} → (B → Standing) → Kept B → Point
point standing e = record { standing = standing e.basis; pivots = e.pivots; pricing = e.pricing }
