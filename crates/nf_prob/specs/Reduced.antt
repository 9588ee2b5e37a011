-- The row of terms of a reduced cost: a column's cost less what the duals pay for its entries.
-- `reduced_by` answers Passed only for an operation that arises in it.
use Rattle.std.specs.Prelude.{◌≡◌, ℕ, List, length}
use Rattle.nf_num.specs.Rational.{ℚ}
use Rattle.nf_model.specs.Program.{LinearProgram, coefficient, at}
use Rattle.nf_sums.specs.Terms.{Terms}
use Rattle.nf_sums.specs.Rows.{reduced_cost_terms}

-- The reduced cost of column j by the duals y, where its cost is this one.
abbrev pub ReducedTerms : LinearProgram → ℚ → List ℚ → ℕ → Terms → Type 0
ReducedTerms p cost y j t = t ≡ reduced_cost_terms cost (length p.rows) (at y) (λ i. coefficient p i j)
