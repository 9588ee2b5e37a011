-- The columns that one statement names, each with the statement's role.
-- The list of all that statements name, which `assign` goes by, rests on it.
use Rattle.std.specs.Prelude.{List, map}
use Rattle.nf_cells.specs.Names.{Name}
use Rattle.nf_program.specs.declared.program.Role.{Role}
use Rattle.nf_roles.specs.declared.named.NamedColumn.{NamedColumn}

-- The columns of these names under a role.
abbrev pub columns_named : Role → List Name → List NamedColumn
columns_named r names = map (λ n. record { role = r; name = n }) names
