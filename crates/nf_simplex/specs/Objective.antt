-- The objective vector: the costs of a state's values and of its inverse columns, in both phases.
-- Every step that moves makes it lexicographically less, so a run ends.
use Rattle.std.specs.Prelude.{ℕ, zero, suc, Bool, true, false}
use Rattle.nf_num.specs.Rational.{ℚ, zero_ℚ, ◌*ℚ◌, ◌<ℚ◌}
use Rattle.nf_num.specs.Sum.{sum_ℚ}
use Rattle.nf_simplex.specs.Place.{Place}
use Rattle.nf_simplex.specs.Stage.{Stage}
use Rattle.nf_simplex.specs.Lex.{vector, IsLexFeasible}

-- The cost of the values by c, and then those of the inverse columns.
abbrev pub cost_vector : Stage → (ℕ → ℚ) → (ℕ → ℚ) → (ℕ → ℕ → ℚ) → ℕ → ℚ
cost_vector S c x w k = sum_ℚ S.columns (λ j. c j *ℚ vector S x w j k)

-- The n members of u, and then those of t.
abbrev pub joined : ℕ → (ℕ → ℚ) → (ℕ → ℚ) → ℕ → ℚ
joined zero u t k = t k
joined (suc n) u t zero = u zero
joined (suc n) u t (suc k) = joined n (λ i. u (suc i)) t k

-- The objective vector: the cost vector of phase one, and then that of phase two.
abbrev pub objective : (S : Stage) → (ℕ → ℚ) → (ℕ → ℚ) → {s : ℕ → Place} → IsLexFeasible S s → ℕ → ℚ
objective S one two f = joined (suc S.rows) (cost_vector S one f.values f.inverse) (cost_vector S two f.values f.inverse)

-- Moving a column in this direction lowers the cost where its reduced cost is d.
abbrev pub Improves : Bool → ℚ → Type 0
Improves true d = zero_ℚ <ℚ d
Improves false d = d <ℚ zero_ℚ
