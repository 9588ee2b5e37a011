-- The columns of roles are columns of the header.
use Rattle.std.proofs.Common.{◌≡◌, ◌<◌, ◌^◌, ℕ, Bool, true, false, List, [], Option, Some, None, IfSome, cond, length, get_or, position, refl}
use Rattle.std.proofs.lemmas.List.Quantifiers.{position-Some}
use Rattle.std.specs.List.{find}
use Rattle.nf_table.specs.Grid.{Cells, same_name}
use Rattle.nf_cells.specs.Names.{Name}
use Rattle.nf_program.specs.declared.program.Role.{Role}
use Rattle.nf_program.specs.declared.program.Role.TheVariants as role
use Rattle.nf_roles.specs.declared.columns.SetKind.{SetKind}
use Rattle.nf_roles.specs.declared.named.NamedColumn.{NamedColumn}
use Rattle.nf_roles.specs.Sets.{has_role, roles_of, same_role, is_reserved_for}
use Rattle.nf_roles.specs.Roles.{HasColumnsBelow, column_for}
use Rattle.nf_roles.specs.Assigned.{columns_due, column_named, is_listed, is_variable, role_column}
use Rattle.nf_roles.proofs.Lists.{all-below, with-below}

abbrev pub IsBelow : Cells → Option ℕ → Type 0
IsBelow header o = IfSome o (λ c. c < length header)

position-below : (p : Name → Bool) (xs : List Name) → IfSome (position p xs) (λ c. c < length xs)
position-below p xs = by_cases (position p xs) (λ i e. (position-Some p xs i [] e).0)
  where
    by_cases : (o : Option ℕ) → ((i : ℕ) → o ≡ Some i → i < length xs) → IfSome o (λ c. c < length xs)
    by_cases None h = tt
    by_cases (Some i) h = h i refl

named-below : (header : Cells) (n : Option NamedColumn) (r : Role) → IsBelow header (column_named header n r)
named-below header None r = with-below (length header) (λ c. is_reserved_for r (get_or header c []))
named-below header (Some n) r = position-below (same_name n.name) header

role-below : (set : SetKind) (header : Cells) (names : List NamedColumn) (r : Role) → IsBelow header (role_column set header names r)
role-below set header names r = by_test (has_role r (roles_of set))
  where
    by_test : (b : Bool) → IsBelow header (cond b (column_named header (find (λ n. same_role r n.role) names) r) None)
    by_test true = named-below header (find (λ n. same_role r n.role) names) r
    by_test false = tt

pub due-below : (set : SetKind) (header : Cells) (names : List NamedColumn) → length (columns_due set header names).ids < 2 ^ 32 → HasColumnsBelow (columns_due set header names) (length header)
due-below set header names few = record {
  roles = each;
  variables = all-below (length header) (λ c. is_variable set names (get_or header c []));
  ids = all-below (length header) (λ c. is_listed names role.Id (get_or header c []));
  few_ids = few;
}
  where
    each : (r : Role) → IsBelow header (column_for (columns_due set header names) r)
    each role.TailNode = role-below set header names role.TailNode
    each role.HeadNode = role-below set header names role.HeadNode
    each role.Cost = role-below set header names role.Cost
    each role.Capacity = role-below set header names role.Capacity
    each role.Lo = role-below set header names role.Lo
    each role.ArcName = role-below set header names role.ArcName
    each role.Supply = role-below set header names role.Supply
    each role.Demand = role-below set header names role.Demand
    each role.Node = role-below set header names role.Node
    each role.Supdem = role-below set header names role.Supdem
    each role.Var = role-below set header names role.Var
    each role.ConKind = role-below set header names role.ConKind
    each role.Rhs = role-below set header names role.Rhs
    each role.Row = role-below set header names role.Row
    each role.Column = role-below set header names role.Column
    each role.Coef = role-below set header names role.Coef
    each role.Id = role-below set header names role.Id
