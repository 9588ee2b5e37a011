use Rattle.std.proofs.Common.{◌≡◌, map, take}
use Rattle.nf_out.specs.Arcs.{arc_name}
use Rattle.nf_out.specs.Tables.{with_cells}
use Rattle.nf_out.proofs.arcs.push_names.Given as goal

abbrev pub invariant-loop-field : goal.invariant-loop-field
invariant-loop-field l = l.table ≡ with_cells l.initial.table (map (arc_name l.labels) (take l.field-index l.fields))
