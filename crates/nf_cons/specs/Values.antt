-- What the cell of a variable says, and in which rows it may stand.
-- The coefficients, costs and bounds of both forms of CONDATA, and the fault Amount of their cells, rest on these words.
use Rattle.std.specs.Prelude.{ℕ, Bool, true, List, Option, Some, option_map, if◌then◌else◌, codes}
use Rattle.std.specs.Str.{str_eq_ignore_ascii_case}
use Rattle.nf_cells.specs.Values.{amount_of, cell_by}
use Rattle.nf_cells.specs.declared.values.Cell.{Cell}
use Rattle.nf_cons.specs.declared.row_type.RowType.{RowType}
use Rattle.nf_cons.specs.declared.row_type.RowType.TheVariants.{Lower, Upper}
use Rattle.nf_cons.specs.declared.value.Value.{Value}
use Rattle.nf_cons.specs.declared.value.Value.TheVariants.{Finite, NoUpper, NoLower}
use Rattle.nf_cons.specs.Types.{same_type}

-- A text is INF or -INF, in any case, or an amount.
abbrev pub value_read : List ℕ → Option Value
value_read text =
    if str_eq_ignore_ascii_case text (codes "INF") then Some NoUpper
    else if str_eq_ignore_ascii_case text (codes "-INF") then Some NoLower
    else option_map Finite (amount_of text)

-- The value in a cell.
abbrev pub value_in : List ℕ → Cell Value
value_in = cell_by value_read

-- A row of any type may give an amount; INF is only an upper bound, and -INF only a lower bound.
abbrev pub may_be : RowType → Value → Bool
may_be t (Finite a) = true
may_be t NoUpper = same_type t Upper
may_be t NoLower = same_type t Lower
