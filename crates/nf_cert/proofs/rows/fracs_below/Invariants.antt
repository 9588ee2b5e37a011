use Rattle.std.proofs.Common.{map}
use Rattle.nf_cert.specs.Items.{cert_row}
use Rattle.nf_cert.specs.Steps.{HasFracs}
use Rattle.nf_cert.proofs.rows.fracs_below.Given as goal

abbrev pub invariant-loop-i : goal.invariant-loop-i
invariant-loop-i l = HasFracs (map (cert_row l.at) l.table.rows) l.above l.kind l.i l.fracs
