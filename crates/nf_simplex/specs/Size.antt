-- The size of a program in a stage: its columns, coefficients and nodes, and the square of one more than its side rows.
-- The bounds on the steps of pricing, of the ratio test and of a step of the simplex method are multiples of it.
use Rattle.std.specs.Prelude.{ℕ, suc, ◌+◌, ◌*◌, length, sum_by}
use Rattle.nf_model.specs.Program.{LinearProgram}
use Rattle.nf_model.specs.Problem.{count_in_sides}
use Rattle.nf_simplex.specs.Layout.{layout_of}
use Rattle.nf_simplex.specs.StageOf.{StageNumber, sides_in}

-- How many coefficients the side rows have.
abbrev pub coefficients : LinearProgram → ℕ
coefficients p = sum_by (λ c. count_in_sides p.nodes c.entries) p.columns

-- The size of a program in a stage. Stage one has no side rows.
abbrev pub size : LinearProgram → StageNumber → ℕ
size p n = length p.columns + coefficients p + p.nodes + suc (sides_in (layout_of p) n) * suc (sides_in (layout_of p) n)
