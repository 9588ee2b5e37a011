-- A ray while it is made: the places of the columns that have been put.
-- The loop that puts the basic columns keeps these.
use Rattle.std.specs.Prelude.{◌≡◌, ◌≢◌, ℕ, ◌<◌, Bool, List, length}
use Rattle.nf_num.specs.Rational.{ℚ, neg_ℚ}
use Rattle.nf_model.specs.Program.{LinearProgram, at}
use Rattle.nf_simplex.specs.Step.{signed}
use Rattle.nf_basis.specs.declared.col.Col.{Col}
use Rattle.nf_basis.specs.Numbers.{slot_number}

-- The list has become v at place k, where it has this place, and is otherwise as before.
pub record IsPutAt (k : ℕ) (v : ℚ) (before now : List ℚ) : Type 0 where
  pub as_long : length now ≡ length before
  pub there : k < length before → at now k ≡ v
  pub others : (j : ℕ) → j ≢ k → at now j ≡ at before j

-- The list has at the columns of the first n slots minus their entries, as a move in this direction counts them, and is
-- otherwise as before.
pub record ArePut (p : LinearProgram) (slots : List Col) (down : Bool) (entries before : List ℚ) (n : ℕ) (now : List ℚ) : Type 0 where
  pub as_long : length now ≡ length before
  pub basics : (k : ℕ) → k < n → slot_number p slots k < length before → at now (slot_number p slots k) ≡ signed down (neg_ℚ (at entries k))
  pub others : (j : ℕ) → ((k : ℕ) → k < n → j ≢ slot_number p slots k) → at now j ≡ at before j
