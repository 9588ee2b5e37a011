-- The columns of NODEOUT and DUALOUT: there are some, and no name stands among them twice.
use Rattle.std.proofs.Common.{◌≡◌, ◌<◌, ◌^◌, Bool, true, false, None, length, map, refl, arith}
use Rattle.nf_table.specs.Reading.{repeated_after, repeated_column}
use Rattle.nf_out.specs.Rows.{dual_fields, node_fields, row_name}

pub nodes-once : (future : Bool) → repeated_column (map row_name (node_fields future)) ≡ None
unfolding repeated_after
nodes-once true = refl
nodes-once false = refl

pub duals-once : (future : Bool) → repeated_column (map row_name (dual_fields future)) ≡ None
unfolding repeated_after
duals-once true = refl
duals-once false = refl

pub nodes-few : (future : Bool) → (0 < length (node_fields future)) × (length (node_fields future) < 2 ^ 31)
nodes-few true = (omega arith, omega arith)
nodes-few false = (omega arith, omega arith)

pub duals-few : (future : Bool) → (0 < length (dual_fields future)) × (length (dual_fields future) < 2 ^ 31)
duals-few true = (omega arith, omega arith)
duals-few false = (omega arith, omega arith)
