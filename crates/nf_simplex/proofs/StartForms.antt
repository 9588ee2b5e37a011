-- The starts as functions of all columns: the numbers of the columns that are no new basic ones, what the rows lack at
-- these numbers, and which column is basic for a side row.
use Rattle.std.specs.Prelude.{ℕ, ◌+◌, Bool, false, cond, ltb}
use Rattle.nf_num.specs.Rational.{ℚ, zero_ℚ, ◌+ℚ◌, ◌*ℚ◌, neg_ℚ}
use Rattle.nf_num.specs.Sum.{sum_ℚ}
use Rattle.nf_model.specs.declared.RowKind.{RowKind}
use Rattle.nf_model.specs.declared.RowKind.TheVariants.{Eq, Le, Ge}
use Rattle.nf_simplex.specs.Place.{Place, Lower, Absent, Basic}
use Rattle.nf_simplex.specs.Layout.{Layout}
use Rattle.nf_simplex.specs.Columns.{Col, Given, Slack, Artificial, col_at, slack_sign, sign, entry_of}
use Rattle.nf_simplex.specs.Starts.{or_zero, nonarc_place, nonarc_number}

-- places by number, of places by name
abbrev pub places : Layout → (Col → Place) → ℕ → Place
places p place j = place (col_at p j)

-- the numbers of the nonbasic columns at the start of stage one
unfoldable pub first_number : Layout → Col → ℚ
first_number p (Given j) = cond (ltb j p.arcs) (or_zero (p.lower j)) zero_ℚ
first_number p (Slack r) = zero_ℚ
first_number p (Artificial r) = zero_ℚ

-- what a row lacks at these numbers
unfoldable pub rest_in_first : Layout → (ℕ → Bool) → ℕ → ℚ
rest_in_first p negative i = p.right i +ℚ neg_ℚ (sum_ℚ (p.columns + p.sides + (p.nodes + p.sides)) (λ j. first_number p (col_at p j) *ℚ entry_of p negative (col_at p j) i))

-- whether a side row starts with its slack basic: `chosen` says so of rows that have one
abbrev pub takes_slack : RowKind → Bool → Bool
takes_slack Eq b = false
takes_slack Le b = b
takes_slack Ge b = b

abbrev pub slack_place : RowKind → Bool → Place
slack_place Eq b = Absent
slack_place Le b = cond b Basic Lower
slack_place Ge b = cond b Basic Lower

-- the places of stage two, from those of stage one
abbrev pub second_place : Layout → (Col → Place) → (ℕ → Bool) → Col → Place
second_place p old chosen (Given j) = cond (ltb j p.arcs) (old (Given j)) (nonarc_place (p.lower j) (p.upper j))
second_place p old chosen (Slack r) = slack_place (p.kind r) (chosen r)
second_place p old chosen (Artificial r) = cond (ltb r p.nodes) (old (Artificial r)) (cond (takes_slack (p.kind r) (chosen r)) Lower Basic)

-- the numbers of the columns that are no new basic ones; `values` are those of stage one
unfoldable pub number_in_second : Layout → (ℕ → ℚ) → Col → ℚ
number_in_second p values (Given j) = cond (ltb j p.arcs) (values j) (nonarc_number (p.lower j) (p.upper j))
number_in_second p values (Slack r) = zero_ℚ
number_in_second p values (Artificial r) = cond (ltb r p.nodes) (values (p.columns + p.sides + r)) zero_ℚ

-- what a side row lacks
unfoldable pub rest_in_second : Layout → (ℕ → Bool) → (ℕ → ℚ) → ℕ → ℚ
rest_in_second p negative values q =
    p.right (p.nodes + q) +ℚ neg_ℚ (sum_ℚ (p.columns + p.sides + (p.nodes + p.sides)) (λ j. number_in_second p values (col_at p j) *ℚ entry_of p negative (col_at p j) (p.nodes + q)))

-- the sign of the column that is basic for a side row, and its number
abbrev pub own_sign : Layout → (ℕ → Bool) → (ℕ → Bool) → ℕ → ℚ
own_sign p negative chosen q = cond (takes_slack (p.kind (p.nodes + q)) (chosen (p.nodes + q))) (slack_sign (p.kind (p.nodes + q))) (sign (negative (p.nodes + q)))

abbrev pub own_column : Layout → (ℕ → Bool) → ℕ → ℕ
own_column p chosen q = cond (takes_slack (p.kind (p.nodes + q)) (chosen (p.nodes + q))) (p.columns + q) (p.columns + p.sides + (p.nodes + q))
