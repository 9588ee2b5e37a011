-- The first number at which something fails. A check that refuses tells it.
use Rattle.std.specs.Prelude.{ℕ, ◌<◌}
use Rattle.nf_model.specs.Program.{HoldsBelow}

-- j is the first number below n at which P fails.
pub record IsFirstFailure (n : ℕ) (P : ℕ → Type 0) (j : ℕ) : Type 0 where
  pub in_range : j < n
  pub fails : P j → ⊥
  pub before : HoldsBelow j P
