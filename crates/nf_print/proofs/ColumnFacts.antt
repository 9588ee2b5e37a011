-- No name stands twice among the columns of a printed table.
use Rattle.std.proofs.Common.{◌≡◌, Bool, true, false, None, map, refl}
use Rattle.nf_labels.specs.Labels.{LabelList}
use Rattle.nf_table.specs.Reading.{repeated_after, repeated_column}
use Rattle.nf_out.specs.Arcs.{arc_name}
use Rattle.nf_out.specs.Rows.{row_name}
use Rattle.nf_print.specs.Parts.{arc_columns, constraint_columns, node_columns, nonarc_columns}

pub arcs-once : (l : LabelList) (full : Bool) → repeated_column (map (arc_name l) (arc_columns full)) ≡ None
unfolding repeated_after
arcs-once l true = refl
arcs-once l false = refl

pub nonarcs-once : (l : LabelList) (full : Bool) → repeated_column (map (arc_name l) (nonarc_columns full)) ≡ None
unfolding repeated_after
nonarcs-once l true = refl
nonarcs-once l false = refl

pub nodes-once : (full : Bool) → repeated_column (map row_name (node_columns full)) ≡ None
unfolding repeated_after
nodes-once true = refl
nodes-once false = refl

pub constraints-once : (full : Bool) → repeated_column (map row_name (constraint_columns full)) ≡ None
unfolding repeated_after
constraints-once true = refl
constraints-once false = refl
