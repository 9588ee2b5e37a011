use Rattle.std.proofs.Common.{◌≡◌, map, take}
use Rattle.nf_out.specs.Rows.{row_name}
use Rattle.nf_out.specs.Tables.{with_cells}
use Rattle.nf_out.proofs.rows.push_names.Given as goal

abbrev pub invariant-loop-field : goal.invariant-loop-field
invariant-loop-field l = l.table ≡ with_cells l.initial.table (map row_name (take l.field-index l.fields))
