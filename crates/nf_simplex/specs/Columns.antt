-- The columns of a program's stages: the given ones, slacks and artificials, by name and by number.
-- States name their columns so, and pricing goes by the numbers.
use Rattle.std.specs.Prelude.{ℕ, ◌+◌, ◌-◌, Option, Some, None, Bool, true, false, cond, ltb}
use Rattle.nf_num.specs.Rational.{ℚ, zero_ℚ, one_ℚ, ◌*ℚ◌, neg_ℚ}
use Rattle.nf_num.specs.Sum.{delta}
use Rattle.nf_model.specs.declared.RowKind.{RowKind}
use Rattle.nf_model.specs.declared.RowKind.TheVariants.{Eq, Le, Ge}
use Rattle.nf_simplex.specs.Layout.{Layout}

-- A column is a given one by its number, or the slack or the artificial of a row. All count from 0.
pub data Col : Type 0 where
  Given : ℕ → Col
  Slack : ℕ → Col
  Artificial : ℕ → Col

-- How many numbers columns have: one for each given column, one for each side row's slack, one for each row's
-- artificial.
abbrev pub all_columns : Layout → ℕ
all_columns p = p.columns + p.sides + (p.nodes + p.sides)

-- The number of a column: given ones first, then slacks by side row, then artificials by row.
abbrev pub number_of : Layout → Col → ℕ
number_of p (Given j) = j
number_of p (Slack r) = p.columns + (r - p.nodes)
number_of p (Artificial r) = p.columns + p.sides + r

-- The column with a number.
abbrev pub col_at : Layout → ℕ → Col
col_at p j = cond (ltb j p.columns) (Given j) (cond (ltb j (p.columns + p.sides)) (Slack (p.nodes + (j - p.columns))) (Artificial (j - (p.columns + p.sides))))

-- The entry of a slack at its row: 1 at an LE row and -1 at a GE row; an equation has none.
abbrev pub slack_sign : RowKind → ℚ
slack_sign Eq = zero_ℚ
slack_sign Le = one_ℚ
slack_sign Ge = neg_ℚ one_ℚ

-- The entry of an artificial at its row: -1 where it is negative, and else 1.
abbrev pub sign : Bool → ℚ
sign true = neg_ℚ one_ℚ
sign false = one_ℚ

-- The entry of a column at row i; `negative` tells the rows whose artificial is negative.
abbrev pub entry_of : Layout → (ℕ → Bool) → Col → ℕ → ℚ
entry_of p negative (Given j) i = p.entry j i
entry_of p negative (Slack r) i = slack_sign (p.kind r) *ℚ delta r i
entry_of p negative (Artificial r) i = sign (negative r) *ℚ delta r i

-- The lower bound of a column: slacks and artificials have 0.
abbrev pub col_lower : Layout → Col → Option ℚ
col_lower p (Given j) = p.lower j
col_lower p (Slack r) = Some zero_ℚ
col_lower p (Artificial r) = Some zero_ℚ

-- The upper bound of a column: slacks and artificials have none.
abbrev pub col_upper : Layout → Col → Option ℚ
col_upper p (Given j) = p.upper j
col_upper p (Slack r) = None
col_upper p (Artificial r) = None

-- The cost of a column in phase one: artificials cost 1.
abbrev pub cost_one : Col → ℚ
cost_one (Given j) = zero_ℚ
cost_one (Slack r) = zero_ℚ
cost_one (Artificial r) = one_ℚ

-- The cost of a column in phase two: that of the program.
abbrev pub cost_two : Layout → Col → ℚ
cost_two p (Given j) = p.cost j
cost_two p (Slack r) = zero_ℚ
cost_two p (Artificial r) = zero_ℚ

-- The costs of phase one by number.
abbrev pub ones : Layout → ℕ → ℚ
ones p j = cost_one (col_at p j)

-- The costs of phase two by number.
abbrev pub twos : Layout → ℕ → ℚ
twos p j = cost_two p (col_at p j)
