-- What stands in the cells of output tables: names of nodes, bounds, and the words for places and kinds.
-- The columns of arcs and of rows are said by these texts.
use Rattle.std.specs.Prelude.{ℕ, zero, suc, ◌-◌, Bool, true, false, List, [], codes, get_or, nat_lt, Option, Some, None, if◌then◌else◌}
use Rattle.nf_num.specs.Rational.{ℚ}
use Rattle.nf_frac.specs.Texts.{frac_text}
use Rattle.nf_model.specs.declared.RowKind.{RowKind}
use Rattle.nf_model.specs.declared.RowKind.TheVariants.{Eq, Le, Ge}
use Rattle.nf_model.specs.Program.{LinearProgram, row}
use Rattle.nf_labels.specs.Labels.{LabelList, no_node}
use Rattle.nf_simplex.specs.Columns.{Slack}
use Rattle.nf_simplex.specs.Place.{Place, Lower, Upper, Zero, Absent, Basic}
use Rattle.nf_simplex.specs.StageOf.{StageNumber, StageOne, StageTwo}
use Rattle.nf_simplex.specs.Standing.{Standing, place_of, rows_of}

-- ---- columns
-- The name of a node by its number from 1, and nothing for number 0.
abbrev pub node_name : LabelList → ℕ → List ℕ
node_name l zero = []
node_name l (suc i) = (get_or l.nodes i no_node).name

-- A bound, and `none` if there is none.
abbrev pub bound_text : List ℕ → Option ℚ → List ℕ
bound_text none None = none
bound_text none (Some x) = frac_text x

-- The word for a place.
abbrev pub place_word : Place → List ℕ
place_word Lower = codes "LOWERBD"
place_word Upper = codes "UPPERBD"
place_word Zero = codes "ZERO"
place_word Absent = codes "ABSENT"
place_word Basic = codes "BASIC"

-- A text of a column, and nothing if the column is absent.
abbrev pub unless_absent : Place → List ℕ → List ℕ
unless_absent Lower text = text
unless_absent Upper text = text
unless_absent Zero text = text
unless_absent Absent text = []
unless_absent Basic text = text

-- ---- rows
-- The word for a kind of row.
abbrev pub kind_word : RowKind → List ℕ
kind_word Eq = codes "EQ"
kind_word Le = codes "LE"
kind_word Ge = codes "GE"

-- A text of row i, and nothing if the stage lacks the row.
abbrev pub in_stage : LinearProgram → Standing → ℕ → List ℕ → List ℕ
in_stage p s i text = if nat_lt i (rows_of p s) then text else []

-- A text of row i as a node, and nothing if it is a constraint.
abbrev pub for_node : LinearProgram → ℕ → List ℕ → List ℕ
for_node p i text = if nat_lt i p.nodes then text else []

-- A constraint has the status of its slack, an equation none; stage one lacks all constraints.
abbrev pub slack_word : RowKind → Place → List ℕ
slack_word Eq place = codes "NONE"
slack_word Le place = place_word place
slack_word Ge place = place_word place

abbrev pub side_word : StageNumber → RowKind → Place → List ℕ
side_word StageOne kind place = codes "ABSENT"
side_word StageTwo kind place = slack_word kind place

-- The status of row i: a node has none.
abbrev pub row_word : LinearProgram → Standing → ℕ → List ℕ
row_word p s i = if nat_lt i p.nodes then codes "NONE" else side_word s.stage (row p i).kind (place_of p s (Slack i))
