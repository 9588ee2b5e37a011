-- The problem of a program and the bytes of its data sets, with its labels, or the first refusal.
-- What a check and a run of a program say of its problem rests on it.
use Rattle.std.specs.Prelude.{ℕ, List, [], Option, Some, None, Result, Ok, Err, if◌then◌else◌, length, codes}
use Rattle.std.specs.Bool.{nat_lt}
use Rattle.nf_table.specs.Grid.{Cells, Grid}
use Rattle.nf_table.specs.Reading.{table_read}
use Rattle.nf_table.specs.declared.table.TableFault.{TableFault}
use Rattle.nf_program.specs.declared.program.Program.{Program}
use Rattle.nf_program.specs.declared.program.ProcOptions.{ProcOptions}
use Rattle.nf_program.specs.declared.program.SetName.{SetName}
use Rattle.nf_program.specs.declared.program.SetName.TheVariants.{Arcdata, Nodedata, Condata, Proc}
use Rattle.nf_roles.specs.declared.columns.SetKind.{SetKind}
use Rattle.nf_roles.specs.declared.columns.SetKind.TheVariants.{Arcs, Nodes, Dense, Sparse}
use Rattle.nf_roles.specs.declared.fault.DataFault.{DataFault}
use Rattle.nf_roles.specs.declared.fault.DataKind.TheVariants.{LimitPassed}
use Rattle.nf_roles.specs.declared.fault.RoleFault.{RoleFault}
use Rattle.nf_roles.specs.Assigned.{roles_due}
use Rattle.nf_roles.specs.Roles.{RoleColumns}
use Rattle.nf_network.specs.Network.{Network, network_due, no_roles, no_table}
use Rattle.nf_cons.specs.Due.{dense_due}
use Rattle.nf_cons_sparse.specs.SparseDue.{sparse_due}

-- The bytes of the data sets that a program has.
pub record Sets : Type 0 where
  pub arcdata : List ℕ
  pub nodedata : Option (List ℕ)
  pub condata : Option (List ℕ)

-- Why there is no problem: a data set is no table, its columns have no roles, or the data, an option or the size of the
-- problem has a fault.
pub data Refusal : Type 0 where
  OfTable : SetName → TableFault → Refusal
  OfRoles : SetName → RoleFault → Refusal
  OfData : DataFault → Refusal

-- What follows, where the first was answered.
abbrev pub then_with : {A B : Type 0} → Result A Refusal → (A → Result B Refusal) → Result B Refusal
then_with (Ok x) next = next x
then_with (Err refusal) next = Err refusal

-- The table of a data set that is there.
abbrev pub in_set : SetName → Result Grid TableFault → Result Grid Refusal
in_set s (Ok table) = Ok table
in_set s (Err f) = Err (OfTable s f)

-- The table of a data set that may be left out, where it is there.
abbrev pub where_there : Result Grid Refusal → Result (Option Grid) Refusal
where_there (Ok table) = Ok (Some table)
where_there (Err refusal) = Err refusal

abbrev pub table_of : SetName → Option (List ℕ) → Result (Option Grid) Refusal
table_of s None = Ok None
table_of s (Some bytes) = where_there (in_set s (table_read bytes))

-- The roles of a data set that is there.
abbrev pub in_roles : SetName → Result RoleColumns RoleFault → Result RoleColumns Refusal
in_roles s (Ok roles) = Ok roles
in_roles s (Err f) = Err (OfRoles s f)

-- The network of the data.
abbrev pub in_data : Result Network DataFault → Result Network Refusal
in_data (Ok n) = Ok n
in_data (Err f) = Err (OfData f)

-- A problem with CONDATA has so many rows at most; more are told at row 0, column ROWS of PROC.
abbrev pub most_rows : ℕ
most_rows = 1000

abbrev pub size_fault : DataFault
size_fault = record { set = Proc; row = 0; column = codes "ROWS"; kind = LimitPassed }

abbrev pub in_size : Network → Result Network Refusal
in_size n = if nat_lt most_rows (length n.program.rows) then Err (OfData size_fault) else Ok n

-- CONDATA is sparse under SPARSECONDATA, and else dense.
abbrev pub layout : ProcOptions → SetKind
layout o = if o.sparsecondata then Sparse else Dense

-- A network with the constraints of CONDATA, whose columns have these roles.
abbrev pub with_constraints : ProcOptions → Network → RoleColumns → Grid → Result Network DataFault
with_constraints o n roles cons = if o.sparsecondata then sparse_due o n roles cons else dense_due o n roles cons

-- The network of ARCDATA and NODEDATA, whose columns have these roles, with the constraints of CONDATA, which may be left
-- out: first its roles are told, then the data of the network, then its data, then the size of the whole.
abbrev pub with_cons : Program → RoleColumns → Grid → RoleColumns → Grid → Option Grid → Result Network Refusal
with_cons p arc_roles arcs node_roles nodes None = in_data (network_due p.proc arc_roles arcs node_roles nodes)
with_cons p arc_roles arcs node_roles nodes (Some cons) =
    then_with (in_roles Condata (roles_due (layout p.proc) cons.header [] p.roles)) (λ cons_roles.
    then_with (in_data (network_due p.proc arc_roles arcs node_roles nodes)) (λ n.
    then_with (in_data (with_constraints p.proc n cons_roles cons)) in_size))

-- The same where NODEDATA may be left out: it then has no header and no rows.
abbrev pub with_nodes : Program → RoleColumns → Grid → Option Grid → Option Grid → Result Network Refusal
with_nodes p arc_roles arcs None cons = with_cons p arc_roles arcs no_roles no_table cons
with_nodes p arc_roles arcs (Some nodes) cons =
    then_with (in_roles Nodedata (roles_due Nodes nodes.header [] p.roles)) (λ node_roles. with_cons p arc_roles arcs node_roles nodes cons)

-- The header of CONDATA, where the program has it.
abbrev pub header_in : Option Grid → Cells
header_in None = []
header_in (Some cons) = cons.header

-- The problem of a program and the tables of ARCDATA, NODEDATA and CONDATA: first the roles are told, then the data, then
-- the size.
unfoldable pub problem_in : Program → Grid → Option Grid → Option Grid → Result Network Refusal
problem_in p arcs nodes cons =
    then_with (in_roles Arcdata (roles_due Arcs arcs.header (header_in cons) p.roles)) (λ arc_roles. with_nodes p arc_roles arcs nodes cons)

-- The problem that a program and the bytes of its data sets stand for, or the first refusal: of all tables, then of all
-- roles, then of all data, then of the size.
unfoldable pub problem_of : Program → Sets → Result Network Refusal
problem_of p s =
    then_with (in_set Arcdata (table_read s.arcdata)) (λ arcs.
    then_with (table_of Nodedata s.nodedata) (λ nodes.
    then_with (table_of Condata s.condata) (λ cons. problem_in p arcs nodes cons)))
