-- Why a problem has no DIMACS text: the first refusal.
-- The errors of `write_dimacs` rest on it.
use Rattle.std.specs.Prelude.{ℕ, suc, ◌==◌, ◌&&◌, ◌||◌, Bool, true, List, [], ◌∷◌, length, Option, Some, None, if◌then◌else◌, pos, neg_ℤ, int_lt, int_le, nat_lt}
use Rattle.nf_num.specs.Rational.{ℚ, numer, denom}
use Rattle.nf_model.specs.Program.{LinearProgram, Row, Column}
use Rattle.nf_dimacs_writer.specs.declared.fault.ExportFault.{ExportFault}
use Rattle.nf_dimacs_writer.specs.declared.fault.ExportFault.TheVariants.{Constraints, RowNumber, ColumnNumber, NoCapacity, Negative}

-- A whole number.
abbrev pub is_whole : ℚ → Bool
is_whole x = denom x == 1

-- A whole number of at most nine digits.
abbrev pub is_short : ℚ → Bool
is_short x = is_whole x && int_le (neg_ℤ (pos 999_999_999)) (numer x) && int_le (numer x) (pos 999_999_999)

-- A bound that is such a number if it is there.
abbrev pub is_short_bound : Option ℚ → Bool
is_short_bound None = true
is_short_bound (Some x) = is_short x

-- Row i has a right side that a text cannot have.
abbrev pub row_refusal : ℕ → Row → Option ExportFault
row_refusal i r = if is_short r.right then None else Some (RowNumber i)

-- Column j has an upper bound that a text cannot have.
abbrev pub capacity_refusal : ℕ → Option ℚ → Option ExportFault
capacity_refusal j None = Some (NoCapacity j)
capacity_refusal j (Some u) = if int_lt (numer u) (pos 0) then Some (Negative j) else None

-- Column j has a cost or bounds that a text cannot have.
abbrev pub figures_refusal : ℕ → ℚ → Option ℚ → Option ℚ → Option ExportFault
figures_refusal j cost lower upper =
    if is_short cost && is_short_bound lower && is_short_bound upper then capacity_refusal j upper
    else Some (ColumnNumber j)

abbrev pub column_refusal : ℕ → Column → Option ExportFault
column_refusal j c = figures_refusal j c.cost c.lower c.upper

-- The first of two refusals.
abbrev pub or_else : Option ExportFault → Option ExportFault → Option ExportFault
or_else (Some fault) next = Some fault
or_else None next = next

-- The first refusal of items that are numbered from k on.
unfoldable pub first_refusal : {A : Type 0} → (ℕ → A → Option ExportFault) → ℕ → List A → Option ExportFault
first_refusal refuse k [] = None
first_refusal refuse k (x ∷ xs) = or_else (refuse k x) (first_refusal refuse (suc k) xs)

-- There is a side row or a nonarc variable.
abbrev pub has_constraints : LinearProgram → Bool
has_constraints p = nat_lt p.nodes (length p.rows) || nat_lt p.arcs (length p.columns)

-- The first refusal of a problem: constraints, then its rows by number, then its columns by number.
abbrev pub refusal_of : LinearProgram → Option ExportFault
refusal_of p =
    if has_constraints p then Some Constraints
    else or_else (first_refusal row_refusal 1 p.rows) (first_refusal column_refusal 1 p.columns)
