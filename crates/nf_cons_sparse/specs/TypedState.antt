-- Working definitions, on which the promise of `sparse` does not rest: how the second pass over the lines of sparse CONDATA
-- stands, and what one line more finds and leaves.
use Rattle.std.specs.Prelude.{◌≤◌, ◌<◌, ◌^◌, ◌+◌, ◌++◌, ◌&&◌, ℕ, zero, suc, pos, not, List, [], ◌∷◌, Option, Some, None, if◌then◌else◌, unwrap_or, length, get_or}
use Rattle.std.specs.Bool.{nat_le, nat_lt}
use Rattle.nf_frac.specs.declared.amount.Amount.{Amount}
use Rattle.nf_cells.specs.Names.{Name}
use Rattle.nf_cells.specs.declared.values.Cell.TheVariants.{Is}
use Rattle.nf_program.specs.declared.program.Role.TheVariants as role
use Rattle.nf_roles.specs.declared.fault.DataKind.TheVariants as kind
use Rattle.nf_roles.specs.First.{first_below}
use Rattle.nf_cons.specs.declared.places.DataColumn.TheVariants.{OfRole}
use Rattle.nf_cons.specs.declared.places.PlacedFault.{PlacedFault}
use Rattle.nf_cons.specs.declared.places.RowFault.{RowFault}
use Rattle.nf_cons.specs.declared.taken.SideRow.{SideRow}
use Rattle.nf_cons.specs.declared.row_type.RowType.{RowType}
use Rattle.nf_cons.specs.declared.value.Value.{Value}
use Rattle.nf_cons.specs.Dense.{most_constraints, side_if}
use Rattle.nf_cons.specs.Naming.{VariableList}
use Rattle.nf_cons.specs.Places.{fault_if, first_of, in_row}
use Rattle.nf_cons.specs.Terms.{TermLists, no_lists, term_faults, with_given}
use Rattle.nf_cons.specs.Types.{is_side, side_kind}
use Rattle.nf_cons_sparse.specs.declared.given.GivenRow.{GivenRow}
use Rattle.nf_cons_sparse.specs.declared.given.TakenLine.{TakenLine}
use Rattle.nf_cons_sparse.specs.LineState.{LineState, no_given}
use Rattle.nf_cons_sparse.specs.Sparse.{line_term, value_faults}

-- What is kept of the lines so far.
pub record TypedState : Type 0 where
  pub default : RowType
  pub variables : VariableList
  pub names : List Name
  pub sides : List SideRow
  pub lists : TermLists
  pub numbers : List ℕ

-- The type of a constraint.
abbrev pub type_now : TypedState → GivenRow → RowType
type_now s g = unwrap_or g.row_type s.default

-- The fault of the number of a constraint.
abbrev pub number_faults_now : TypedState → ℕ → RowType → List (Option PlacedFault)
number_faults_now s row t =
    fault_if (not (nat_lt row (length s.numbers)) && is_side t && nat_le most_constraints (length s.sides)) (OfRole role.Row) kind.LimitPassed ∷ []

-- The numbers of constraints with one that may be new, and the constraints.
abbrev pub numbers_with : TypedState → ℕ → List ℕ
numbers_with s row = if nat_lt row (length s.numbers) then s.numbers else s.numbers ++ length s.sides ∷ []

abbrev pub sides_with : TypedState → ℕ → RowType → Option Amount → List SideRow
sides_with s row t right = if nat_lt row (length s.numbers) then s.sides else s.sides ++ side_if row (unwrap_or right (record { thousandths = pos 0 })) (side_kind t)

-- The faults of a coefficient of a variable, or of none.
abbrev pub taken_faults : TypedState → RowType → Option ℕ → Option Value → List (Option PlacedFault)
taken_faults s t v None = []
taken_faults s t None (Some x) = value_faults t (Is x)
taken_faults s t (Some v) (Some x) = term_faults t (line_term s.variables.arcs.count v x) s.lists

-- What is given with a coefficient of a variable.
abbrev pub lists_with : TypedState → RowType → ℕ → ℕ → Option ℕ → Option Value → TermLists
lists_with s t c n v None = s.lists
lists_with s t c n None (Some x) = s.lists
lists_with s t c n (Some v) (Some x) = with_given s.lists (record { row_type = t; term = line_term s.variables.arcs.count v x; constraint = c; row = n })

-- The fault of a line, and what is kept with it.
abbrev pub typed_faults_now : TypedState → TakenLine → GivenRow → List (Option PlacedFault)
typed_faults_now s l g = number_faults_now s l.row (type_now s g) ++ taken_faults s (type_now s g) l.variable l.coef

abbrev pub with_number : TypedState → ℕ → RowType → Option Amount → TypedState
with_number s row t right = record { default = s.default; variables = s.variables; names = s.names; sides = sides_with s row t right; lists = s.lists; numbers = numbers_with s row }

abbrev pub with_taken : TypedState → TakenLine → GivenRow → ℕ → TypedState
with_taken s l g n = record {
  default = s.default;
  variables = s.variables;
  names = s.names;
  sides = sides_with s l.row (type_now s g) g.right;
  lists = lists_with s (type_now s g) (get_or (numbers_with s l.row) l.row 0) n l.variable l.coef;
  numbers = numbers_with s l.row;
}

-- ---- the lines of the first pass, one by one
abbrev pub no_taken : TakenLine
no_taken = record { row = 0; variable = None; coef = None }

abbrev pub taken_line : LineState → ℕ → TakenLine
taken_line l k = get_or l.taken k no_taken

abbrev pub given_line : LineState → ℕ → GivenRow
given_line l k = get_or l.given (taken_line l k).row no_given

-- What is kept after the first k lines, and the fault of the next.
unfoldable pub typed_to : LineState → ℕ → TypedState
typed_to l zero = record { default = l.default; variables = l.variables; names = l.names; sides = []; lists = no_lists; numbers = [] }
typed_to l (suc k) = with_taken (typed_to l k) (taken_line l k) (given_line l k) (k + 1)

unfoldable pub typed_fault_to : LineState → ℕ → Option PlacedFault
typed_fault_to l k = first_of (typed_faults_now (typed_to l k) (taken_line l k) (given_line l k))

abbrev pub first_typed_to : LineState → Option RowFault
first_typed_to l = first_below (length l.taken) (λ k. in_row (k + 1) (typed_fault_to l k))

-- Each line's constraint is given something, and is one of those before or the next.
pub record AreRanked (l : LineState) : Type 0 where
  pub few : length l.taken < 2 ^ 32
  pub given : (k : ℕ) → k < length l.taken → (taken_line l k).row < length l.given
  pub ranked : (k : ℕ) → k < length l.taken → (taken_line l k).row ≤ length (typed_to l k).numbers
