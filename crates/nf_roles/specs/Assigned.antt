-- The roles that role statements and reserved names give the columns of a table, or the first fault.
-- The promise of `assign` rests on it.
use Rattle.std.specs.Prelude.{◌&&◌, ◌||◌, ℕ, Bool, false, not, List, [], ◌∷◌, Option, Some, None, Result, Ok, Err, if◌then◌else◌, is_some, length, map, filter, get_or}
use Rattle.std.specs.Bool.{nat_lt}
use Rattle.std.specs.Borrow.{Bor}
use Rattle.std.specs.List.{list_any, find, flat_map}
use Rattle.nf_table.specs.Grid.{Grid, Cells, same_name, column_of}
use Rattle.nf_cells.specs.Names.{Name}
use Rattle.nf_program.specs.declared.program.Role.{Role}
use Rattle.nf_program.specs.declared.program.Role.TheVariants as role
use Rattle.nf_roles.specs.declared.columns.SetKind.{SetKind}
use Rattle.nf_roles.specs.declared.columns.SetKind.TheVariants.{Arcs, Nodes, Dense, Sparse}
use Rattle.nf_roles.specs.declared.fault.RoleFault.{RoleFault}
use Rattle.nf_roles.specs.declared.fault.RoleFault.TheVariants as fault
use Rattle.nf_roles.specs.declared.named.NamedColumn.{NamedColumn}
use Rattle.nf_roles.specs.First.{first_with, all_with}
use Rattle.nf_roles.specs.Named.{columns_named}
use Rattle.nf_roles.specs.Roles.{RoleColumns}
use Rattle.nf_roles.specs.Sets.{same_role, has_role, roles_of, lists_of, needed, is_reserved_for, is_reserved}

-- ---- statements
-- A statement is of a set where its role is.
abbrev pub is_of : SetKind → Role → Bool
is_of set r = has_role r (roles_of set) || has_role r (lists_of set)

-- The columns that a statement of a set names.
abbrev pub named_by : SetKind → Role × List Name → List NamedColumn
named_by set s = if is_of set s.0 then columns_named s.0 s.1 else []

-- The columns that the statements of a set name, in the order of the program.
abbrev pub named : SetKind → List (Role × List Name) → List NamedColumn
named set statements = flat_map (named_by set) statements

-- A role has a statement.
abbrev pub has_statement : List NamedColumn → Role → Bool
has_statement names r = list_any (λ n. same_role r n.role) names

-- ---- the first fault
-- A header has a column of a name.
abbrev pub has_column : Cells → Name → Bool
has_column header name = is_some (column_of header name)

-- A column that is not here is no fault where an ID statement names it and it is not told with this set or is in CONDATA.
abbrev pub may_lack : SetKind → Cells → NamedColumn → Bool
may_lack Arcs cons n = same_role n.role role.Id && has_column cons n.name
may_lack Nodes cons n = false
may_lack Dense cons n = same_role n.role role.Id
may_lack Sparse cons n = same_role n.role role.Id

-- A named column is not there, and that is a fault.
abbrev pub is_lacked : SetKind → Cells → Cells → NamedColumn → Bool
is_lacked set header cons n = not (has_column header n.name) && not (may_lack set cons n)

-- The named columns that are the one with this cell in the header.
abbrev pub names_of : List NamedColumn → Name → List NamedColumn
names_of names cell = filter (λ n. same_name n.name cell) names

-- The first column with a reserved name of a role.
abbrev pub reserved_column : Cells → Role → Option ℕ
reserved_column header r = first_with (length header) (λ c. is_reserved_for r (get_or header c []))

-- A number is above the first.
abbrev pub is_above : Option ℕ → ℕ → Bool
is_above None c = false
is_above (Some b) c = nat_lt b c

-- A column is the second reserved one of a role without a statement.
abbrev pub is_second : Cells → List NamedColumn → ℕ → Role → Bool
is_second header names c r =
    not (has_statement names r) && is_reserved_for r (get_or header c []) && is_above (reserved_column header r) c

-- A column has two roles.
abbrev pub has_two : SetKind → Cells → List NamedColumn → ℕ → Bool
has_two set header names c =
    nat_lt 1 (length (names_of names (get_or header c []))) || list_any (is_second header names c) (roles_of set)

-- The column of a role: the one that its statement names, else the one with a reserved name.
abbrev pub column_named : Cells → Option NamedColumn → Role → Option ℕ
column_named header None r = reserved_column header r
column_named header (Some n) r = column_of header n.name

abbrev pub role_column : SetKind → Cells → List NamedColumn → Role → Option ℕ
role_column set header names r =
    if has_role r (roles_of set) then column_named header (find (λ n. same_role r n.role) names) r else None

-- A role has no column.
abbrev pub is_missing : SetKind → Cells → List NamedColumn → Role → Bool
is_missing set header names r = not (is_some (role_column set header names r))

-- ---- the roles
-- All roles, in the order of their numbers.
abbrev pub all_roles : List Role
all_roles =
    role.TailNode ∷ role.HeadNode ∷ role.Cost ∷ role.Capacity ∷ role.Lo ∷ role.ArcName ∷ role.Supply ∷ role.Demand ∷ role.Node ∷ role.Supdem
    ∷ role.Var ∷ role.ConKind ∷ role.Rhs ∷ role.Row ∷ role.Column ∷ role.Coef ∷ role.Id ∷ []

-- A statement of VAR, or of ID, names the column with this cell.
abbrev pub is_listed : List NamedColumn → Role → Name → Bool
is_listed names r cell = list_any (λ n. same_role r n.role && same_name n.name cell) names

-- A column of dense CONDATA is a variable where VAR names it, or, without VAR, where no statement does; a reserved column
-- is none.
abbrev pub is_variable : SetKind → List NamedColumn → Name → Bool
is_variable Arcs names cell = false
is_variable Nodes names cell = false
is_variable Sparse names cell = false
is_variable Dense names cell =
    not (is_reserved cell)
    && (if has_statement names role.Var then is_listed names role.Var cell else not (list_any (λ n. same_name n.name cell) names))

-- The roles of the columns, where no fault is there.
abbrev pub columns_due : SetKind → Cells → List NamedColumn → RoleColumns
columns_due set header names = record {
  columns = map (role_column set header names) all_roles;
  variables = all_with (length header) (λ c. is_variable set names (get_or header c []));
  ids = all_with (length header) (λ c. is_listed names role.Id (get_or header c []));
}

-- What each part answers, in the order of the parts.
abbrev pub unless_lacked : Option NamedColumn → Result RoleColumns RoleFault → Result RoleColumns RoleFault
unless_lacked None rest = rest
unless_lacked (Some n) rest = Err (fault.NoColumn n.name)

abbrev pub unless_two : Cells → Option ℕ → Result RoleColumns RoleFault → Result RoleColumns RoleFault
unless_two header None rest = rest
unless_two header (Some c) rest = Err (fault.TwoRoles (get_or header c []))

abbrev pub unless_missing : Option Role → Result RoleColumns RoleFault → Result RoleColumns RoleFault
unless_missing None rest = rest
unless_missing (Some r) rest = Err (fault.MissingRole r)

-- The roles of these named columns: the first that is lacked is told first, then the first column with two roles, then
-- the first needed role without a column.
abbrev pub roles_by : SetKind → Cells → Cells → List NamedColumn → Result RoleColumns RoleFault
roles_by set header cons names =
    unless_lacked (find (is_lacked set header cons) names)
    (unless_two header (first_with (length header) (has_two set header names))
    (unless_missing (find (is_missing set header names) (needed set))
    (Ok (columns_due set header names))))

-- The roles that a program's role statements give the columns of a header.
unfoldable pub roles_due : SetKind → Cells → Cells → List (Role × List Name) → Result RoleColumns RoleFault
roles_due set header cons statements = roles_by set header cons (named set statements)

-- The header of CONDATA, where the program has one.
abbrev pub header_of : Option (Bor Grid) → Cells
header_of None = []
header_of (Some t) = t.now.header
