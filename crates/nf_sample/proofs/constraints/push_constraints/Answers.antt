use Rattle.std.proofs.Common.{◌+◌, [], length, ap, arith}
use Rattle.nf_sample.specs.Sample.{constraint, constraints, constraints_header}
use Rattle.nf_sample.proofs.Grown.{begun_none, four_before, four_more, four_none, grown, longer}
use Rattle.nf_sample.proofs.constraints.push_constraints.Goals as goal

pub loop-before-init : goal.loop-before-init
loop-before-init c = record {
  rows = begun_none constraints_header (constraints c.args.draws.now c.args.arcs) c.args.table.now c.requires.begun;
  room = ap (λ t. length t.rows) c.requires.begun;
  state = four_none c.args.draws.now;
}

pub loop-before-preserved : goal.loop-before-preserved
loop-before-preserved c =
    let x = c.args.draws.now in
    let i = c.loop-before.before in
    let h = c.loop-before.invariant in
    let more = longer constraints_header c.loop-before.table.rows _ c.push_constraint.new.table c.in_ok-push_constraint.ensures.rows in
    record {
      rows = grown constraints_header (constraints x c.args.arcs) i [] _ c.loop-before.table c.push_constraint.new.table h.rows c.in_ok-push_constraint.ensures.rows
          (ap (λ s. constraint s c.args.arcs (i + 1)) (four_before x i c.loop-before.draws h.state));
      room = omega (arith, more, h.room);
      state = four_more x i c.loop-before.draws c.push_constraint.new.draws h.state c.in_ok-push_constraint.ensures.drawn;
    }
