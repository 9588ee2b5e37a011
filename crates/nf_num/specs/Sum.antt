-- Sums of rational numbers. Costs, balances of nodes and values of constraints are such sums.
-- That two sums may be exchanged is the contract of `sums_exchanged`.
use Rattle.std.specs.Prelude.{ℕ, zero, suc, cond, eqb, List, [], ◌∷◌}
use Rattle.nf_num.specs.Rational.{ℚ, zero_ℚ, one_ℚ, ◌+ℚ◌}

-- f 0 + .. + f (n - 1).
unfoldable pub sum_ℚ : ℕ → (ℕ → ℚ) → ℚ
sum_ℚ zero f = zero_ℚ
sum_ℚ (suc n) f = sum_ℚ n f +ℚ f n

-- f of each item of a list, added up.
unfoldable pub total_ℚ : {X : Type 0} → (X → ℚ) → List X → ℚ
total_ℚ f [] = zero_ℚ
total_ℚ f (x ∷ xs) = f x +ℚ total_ℚ f xs

-- 1 where i is j, and 0 elsewhere.
unfoldable pub delta : ℕ → ℕ → ℚ
delta i j = cond (eqb i j) one_ℚ zero_ℚ
