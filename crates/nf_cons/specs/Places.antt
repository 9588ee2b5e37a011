-- Where a fault of CONDATA stands, and how it is reported.
-- The promise of `dense` and `sparse` to report the first fault rests on these words.
use Rattle.std.specs.Prelude.{◌≡◌, ◌⊎◌, ℕ, Bool, List, [], ◌∷◌, Option, Some, None, if◌then◌else◌, get_or}
use Rattle.nf_table.specs.Grid.{Cells}
use Rattle.nf_cells.specs.Names.{Name}
use Rattle.nf_program.specs.declared.program.SetName.TheVariants as set
use Rattle.nf_roles.specs.declared.fault.DataFault.{DataFault}
use Rattle.nf_roles.specs.declared.fault.DataKind.{DataKind}
use Rattle.nf_roles.specs.declared.fault.DataKind.TheVariants as kind
use Rattle.nf_roles.specs.First.{or_else}
use Rattle.nf_roles.specs.Roles.{RoleColumns, column_text}
use Rattle.nf_cons.specs.declared.places.DataColumn.{DataColumn}
use Rattle.nf_cons.specs.declared.places.DataColumn.TheVariants.{OfRole, Column}
use Rattle.nf_cons.specs.declared.places.PlacedFault.{PlacedFault}
use Rattle.nf_cons.specs.declared.places.RowFault.{RowFault}

-- A fault of a cell where a check fails.
abbrev pub fault_if : Bool → DataColumn → DataKind → Option PlacedFault
fault_if fails place k = if fails then Some (record { place = place; kind = k }) else None

-- The first fault that is there.
abbrev pub first_of : List (Option PlacedFault) → Option PlacedFault
first_of [] = None
first_of (f ∷ fs) = or_else f (first_of fs)

-- A fault with its row: rows count from 1, and 0 is the header.
abbrev pub in_row : ℕ → Option PlacedFault → Option RowFault
in_row n None = None
in_row n (Some f) = Some (record { row = n; fault = f })

-- A result is the fault that is due, or out of memory.
abbrev pub IsFaultOf : Option PlacedFault → PlacedFault → Type 0
IsFaultOf due f = (f.kind ≡ kind.NoMemory) ⊎ (due ≡ Some f)

abbrev pub IsRowFaultOf : Option RowFault → RowFault → Type 0
IsRowFaultOf due f = (f.fault.kind ≡ kind.NoMemory) ⊎ (due ≡ Some f)

-- How a column is reported: by its cell in the header as it stands, or else by the role's first reserved name.
abbrev pub text_of_column : RoleColumns → Cells → DataColumn → Name
text_of_column roles header (OfRole r) = column_text roles header r
text_of_column roles header (Column c) = get_or header c []

-- A fault by its data set, row, column and kind.
abbrev pub told : RoleColumns → Cells → RowFault → DataFault
told roles header f = record { set = set.Condata; row = f.row; column = text_of_column roles header f.fault.place; kind = f.fault.kind }
