use Rattle.std.proofs.Common.{refl, arith}
use Rattle.nf_sample.specs.Sample.{constraints_header, cost_line}
use Rattle.nf_sample.proofs.Grown.{grown, grown_none, longer}
use Rattle.nf_sample.proofs.constraints.push_costs.Goals as goal

pub loop-before-init : goal.loop-before-init
loop-before-init c = record { rows = grown_none constraints_header cost_line c.args.table.now.rows c.args.table.now c.requires.begun; room = omega arith }

pub loop-before-preserved : goal.loop-before-preserved
loop-before-preserved c =
    let h = c.loop-before.invariant in
    let more = longer constraints_header c.loop-before.table.rows _ c.push_cost.new.table c.in_ok-push_cost.ensures in
    record {
      rows = grown constraints_header cost_line c.loop-before.before c.args.table.now.rows _ c.loop-before.table c.push_cost.new.table h.rows c.in_ok-push_cost.ensures refl;
      room = omega (arith, more, h.room);
    }
