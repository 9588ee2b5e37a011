-- The roles of each data set: which it has, which it needs, and their reserved names.
-- The roles that `assign` gives rest on these tables.
use Rattle.std.specs.Prelude.{Bool, List, [], ◌∷◌, codes, nat_eq}
use Rattle.std.specs.List.{list_any}
use Rattle.nf_table.specs.Grid.{same_name}
use Rattle.nf_cells.specs.Names.{Name}
use Rattle.nf_program.specs.declared.program.Role.{Role}
use Rattle.nf_program.specs.declared.program.Role.TheVariants as role
use Rattle.nf_program.specs.Programs.{role_number}
use Rattle.nf_roles.specs.declared.columns.SetKind.{SetKind}
use Rattle.nf_roles.specs.declared.columns.SetKind.TheVariants.{Arcs, Nodes, Dense, Sparse}

-- Two roles are the same.
abbrev pub same_role : Role → Role → Bool
same_role r q = nat_eq (role_number r) (role_number q)

-- A role is among some.
abbrev pub has_role : Role → List Role → Bool
has_role r rs = list_any (same_role r) rs

-- The roles that a column of a set may have.
abbrev pub roles_of : SetKind → List Role
roles_of Arcs = role.TailNode ∷ role.HeadNode ∷ role.ArcName ∷ role.Cost ∷ role.Lo ∷ role.Capacity ∷ role.Supply ∷ role.Demand ∷ []
roles_of Nodes = role.Node ∷ role.Supdem ∷ []
roles_of Dense = role.Row ∷ role.ConKind ∷ role.Rhs ∷ []
roles_of Sparse = role.Row ∷ role.Column ∷ role.Coef ∷ role.ConKind ∷ role.Rhs ∷ []

-- The statements of a set besides: ID where it may have ID columns, and VAR in dense CONDATA.
abbrev pub lists_of : SetKind → List Role
lists_of Arcs = role.Id ∷ []
lists_of Nodes = []
lists_of Dense = role.Var ∷ role.Id ∷ []
lists_of Sparse = role.Id ∷ []

-- The roles that a set needs.
abbrev pub needed : SetKind → List Role
needed Arcs = role.TailNode ∷ role.HeadNode ∷ []
needed Nodes = role.Node ∷ role.Supdem ∷ []
needed Dense = []
needed Sparse = role.Row ∷ role.Column ∷ role.Coef ∷ []

-- The reserved names of a role, first spelling first.
abbrev pub reserved : Role → List Name
reserved role.TailNode = codes "_FROM_" ∷ codes "_TAIL_" ∷ []
reserved role.HeadNode = codes "_TO_" ∷ codes "_HEAD_" ∷ []
reserved role.Cost = codes "_COST_" ∷ []
reserved role.Capacity = codes "_CAPAC_" ∷ []
reserved role.Lo = codes "_LO_" ∷ []
reserved role.ArcName = codes "_NAME_" ∷ []
reserved role.Supply = codes "_SUPPLY_" ∷ []
reserved role.Demand = codes "_DEMAND_" ∷ []
reserved role.Node = codes "_NODE_" ∷ []
reserved role.Supdem = codes "_SUPDEM_" ∷ []
reserved role.Var = []
reserved role.ConKind = codes "_TYPE_" ∷ []
reserved role.Rhs = codes "_RHS_" ∷ []
reserved role.Row = codes "_ROW_" ∷ []
reserved role.Column = codes "_COLUMN_" ∷ []
reserved role.Coef = codes "_COEF_" ∷ []
reserved role.Id = []

-- The first of them, where there is one.
abbrev pub first_or_empty : List Name → Name
first_or_empty [] = []
first_or_empty (n ∷ ns) = n

abbrev pub first_reserved : Role → Name
first_reserved r = first_or_empty (reserved r)

-- A cell of a header is a reserved name of a role.
abbrev pub is_reserved_for : Role → Name → Bool
is_reserved_for r cell = list_any (λ name. same_name name cell) (reserved r)

-- It is one of the five reserved names of CONDATA, which are never variables.
abbrev pub is_reserved : Name → Bool
is_reserved cell = list_any (λ r. is_reserved_for r cell) (roles_of Sparse)
