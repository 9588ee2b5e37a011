-- The network with the constraints of sparse CONDATA, or its first fault: what `sparse` promises.
-- What a program and its data sets stand for rests on it.
use Rattle.std.specs.Prelude.{List, Option, Result, length, map}
use Rattle.nf_table.specs.Grid.{Grid}
use Rattle.nf_cells.specs.Names.{Name}
use Rattle.nf_program.specs.declared.program.ProcOptions.{ProcOptions}
use Rattle.nf_roles.specs.declared.fault.DataFault.{DataFault}
use Rattle.nf_roles.specs.First.{or_else}
use Rattle.nf_roles.specs.Roles.{RoleColumns}
use Rattle.nf_network.specs.Network.{Network}
use Rattle.nf_cons.specs.declared.places.RowFault.{RowFault}
use Rattle.nf_cons.specs.Constrained.{Constraints, constrained}
use Rattle.nf_cons.specs.Due.{bounds_fault, unless_fault}
use Rattle.nf_cons.specs.Terms.{lists_of}
use Rattle.nf_cons.specs.Types.{default_type}
use Rattle.nf_cons.specs.Variables.{Mention, arcs_of, nonarcs}
use Rattle.nf_cons_sparse.specs.Sparse.{Sparse, first_line_fault, first_typed_fault, givens, mentions, row_names, sides, sparse_line}

-- Sparse CONDATA: its lines.
abbrev pub sparse_of : ProcOptions → List Name → RoleColumns → Grid → Sparse
sparse_of o arcs roles table = record { arcs = arcs; default = default_type o.defcontype; lines = map (sparse_line roles) table.rows }

abbrev pub sparse_constraints : ProcOptions → List Name → RoleColumns → Grid → Constraints
sparse_constraints o arcs roles table =
    let s = sparse_of o arcs roles table in
    record {
      nonarcs = nonarcs arcs (mentions s (length s.lines));
      names = row_names s (length s.lines);
      sides = sides s (length s.lines);
      lists = lists_of (givens s (length s.lines));
    }

abbrev pub sparse_all : ProcOptions → List Name → RoleColumns → Grid → List Mention
sparse_all o arcs roles table = mentions (sparse_of o arcs roles table) (length table.rows)

-- Its first fault: of the lines one by one, then of the lines with all types known, then of the bounds of nonarc variables.
abbrev pub sparse_fault : ProcOptions → List Name → RoleColumns → Grid → Option RowFault
sparse_fault o arcs roles table =
    or_else (first_line_fault (sparse_of o arcs roles table))
    (or_else (first_typed_fault (sparse_of o arcs roles table)) (bounds_fault o arcs (sparse_all o arcs roles table) (sparse_constraints o arcs roles table).lists))

-- The network with the constraints of sparse CONDATA whose columns have these roles, or the first fault.
unfoldable pub sparse_due : ProcOptions → Network → RoleColumns → Grid → Result Network DataFault
sparse_due o n roles table =
    unless_fault roles table.header (sparse_fault o (arcs_of n.labels) roles table) (constrained o n (sparse_constraints o (arcs_of n.labels) roles table))
