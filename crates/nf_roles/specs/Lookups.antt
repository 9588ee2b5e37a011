-- This file serves a proof alone: what statements say of each name, and which columns they name, as maps keep it.
-- Only the proof that `assign` needs no search for each name rests on it; what `assign` promises is in Assigned.antt.
use Rattle.std.specs.Prelude.{◌≡◌, ◌||◌, ℕ, true, false, List, [], Option, Some, None, if◌then◌else◌, length, unwrap_or}
use Rattle.std.specs.Bool.{nat_lt}
use Rattle.std.specs.Borrow.{Bor}
use Rattle.std.specs.List.{list_any}
use Rattle.std.specs.Map.{lookup}
use Rattle.std.specs.Str.{bytes_eq, str_to_ascii_lowercase}
use Rattle.nf_table.specs.Grid.{Cells, column_of, same_name}
use Rattle.nf_cells.specs.Names.{Name}
use Rattle.nf_program.specs.declared.program.Role.{Role}
use Rattle.nf_program.specs.declared.program.Role.TheVariants as role
use Rattle.nf_roles.specs.declared.uses.Uses.{Uses}
use Rattle.nf_roles.specs.declared.named.NamedColumn.{NamedColumn}
use Rattle.nf_roles.specs.Assigned.{is_listed, names_of}
use Rattle.nf_roles.specs.First.{or_else}
use Rattle.nf_roles.specs.Sets.{same_role}

-- No statement names it.
abbrev pub no_uses : Uses
no_uses = record { is_named = false; is_twice = false; is_variable = false; is_id = false }

-- One statement more names it, of this role.
abbrev pub with_role : Uses → Role → Uses
with_role u r = record { is_named = true; is_twice = u.is_twice || u.is_named; is_variable = u.is_variable || same_role role.Var r; is_id = u.is_id || same_role role.Id r }

-- What statements say of the column with this cell: whether they name it, whether more than once, whether VAR does and ID.
abbrev pub uses_of : List NamedColumn → Name → Uses
uses_of names cell = record {
  is_named = list_any (λ n. same_name n.name cell) names;
  is_twice = nat_lt 1 (length (names_of names cell));
  is_variable = is_listed names role.Var cell;
  is_id = is_listed names role.Id cell;
}

-- What a map of names in small letters says of a cell.
abbrev pub uses_at : List (Name × Uses) → Name → Uses
uses_at uses cell = unwrap_or (lookup (bytes_eq (str_to_ascii_lowercase cell)) uses) no_uses

-- Such a map says of each cell what statements say.
abbrev pub AreUsesOf : List (Name × Uses) → List NamedColumn → Type 0
AreUsesOf uses names = (cell : Name) → uses_at uses cell ≡ uses_of names cell

-- It has one more name of a statement.
abbrev pub IsOneMore : List (Name × Uses) → NamedColumn → List (Name × Uses) → Type 0
IsOneMore old n new = (cell : Name) → uses_at new cell ≡ (if same_name n.name cell then with_role (uses_at old cell) n.role else uses_at old cell)

-- The column that is found for a name.
abbrev pub column_at : List (Name × ℕ) → Name → Option ℕ
column_at found name = lookup (bytes_eq (str_to_ascii_lowercase name)) found

-- The column of each name that a statement names is found where the header has it.
abbrev pub AreColumnsOf : List (Name × Uses) → List (Name × ℕ) → Cells → Type 0
AreColumnsOf uses found header = (name : Name) → (uses_at uses name).is_named ≡ true → column_at found name ≡ column_of header name

-- The column with this cell was looked at, and those before it.
abbrev pub IsOneColumnMore : List (Name × Uses) → List (Name × ℕ) → Name → ℕ → List (Name × ℕ) → Type 0
IsOneColumnMore uses old cell column new =
    (name : Name) → (uses_at uses name).is_named ≡ true → column_at new name ≡ or_else (column_at old name) (if same_name name cell then Some column else None)

-- The header of a table that may be absent.
abbrev pub cells_or_none : Option (Bor Cells) → Cells
cells_or_none None = []
cells_or_none (Some t) = t.now
