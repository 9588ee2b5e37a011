-- The columns that have a number in pricing, counted from 0: given columns, and then slacks by side row.
-- Pricing and the printed duals go over them by these words.
use Rattle.std.specs.Prelude.{◌≡◌, ℕ, ◌+◌, ◌*◌, List, length, nat_lt, if◌then◌else◌}
use Rattle.nf_num.specs.Rational.{ℚ}
use Rattle.nf_model.specs.Program.{LinearProgram, column}
use Rattle.nf_simplex.specs.Layout.{layout_of}
use Rattle.nf_simplex.specs.Standing.{Standing, rows_of}
use Rattle.nf_basis.specs.declared.col.Phase.{Phase}
use Rattle.nf_basis.specs.Numbers.{AreDualsByRow}

-- How many of them there are.
abbrev pub count_priced : LinearProgram → ℕ
count_priced p = (layout_of p).columns + (layout_of p).sides

-- How many steps the reduced cost of one may take: a slack's takes none.
abbrev pub price : LinearProgram → ℕ → ℕ
price p k = if nat_lt k (length p.columns) then 2 * length (column p k).entries + 1 else 0

-- The list has the duals of a phase, one for each row of the stage.
pub record HasDuals (p : LinearProgram) (s : Standing) (phase : Phase) (duals : List ℚ) : Type 0 where
  pub places : length duals ≡ rows_of p s
  pub are_duals : AreDualsByRow p s phase duals
