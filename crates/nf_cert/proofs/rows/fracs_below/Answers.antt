use Rattle.std.proofs.Common.{◌≡◌, inr, map, arith}
use Rattle.nf_cert.specs.Items.{cert_row}
use Rattle.nf_cert.proofs.PartFacts.{fracs-none, fracs-more, first-found}
use Rattle.nf_cert.proofs.rows.fracs_below.Goals as goal

pub loop-i-init : goal.loop-i-init
loop-i-init c = rw c.new-fracs.ensures (fracs-none (map (cert_row c.args.at) c.args.table.now.rows) c.args.above c.args.kind)

pub loop-i-preserved : goal.loop-i-preserved
loop-i-preserved c =
    rw c.in_ok-push-in-Ok.ensures.added (fracs-more (map (cert_row c.args.at) c.args.table.now.rows) c.args.above c.args.kind c.loop-i.i c.loop-i.fracs c.in-Ok.frac c.loop-i.invariant c.in-Ok.ensures)

pub returns-in-Err : goal.returns-in-Err
returns-in-Err c =
    inr (first-found (map (cert_row c.args.at) c.args.table.now.rows) c.args.above c.args.kind c.loop-i.i c.args.count c.loop-i.fracs _ c.loop-i.invariant c.in-Err.ensures c.loop-i-test.true)

pub returns : goal.returns
returns c = let whole : c.args.count ≡ c.loop-i.i = omega arith in rw whole c.loop-i.invariant
