use Rattle.std.proofs.Common.{◌≡◌, map, take}
use Rattle.nf_out.specs.Arcs.{arc_cell}
use Rattle.nf_out.specs.Tables.{with_cells}
use Rattle.nf_out.proofs.arcs.push_cells.Given as goal

abbrev pub invariant-loop-field : goal.invariant-loop-field
invariant-loop-field l = l.table ≡ with_cells l.initial.table (map (λ f. arc_cell l.p l.labels l.state.standing l.figures f l.k) (take l.field-index l.fields))
