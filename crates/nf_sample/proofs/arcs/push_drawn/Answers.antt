use Rattle.std.proofs.Common.{◌≡◌, ◌+◌, ap₂, arith}
use Rattle.nf_sample.specs.Sample.{arcs_header, drawn_arc, drawn_arcs}
use Rattle.nf_sample.proofs.Grown.{four_before, four_more, four_none, grown, grown_none, longer}
use Rattle.nf_sample.proofs.arcs.push_drawn.Goals as goal

pub loop-before-init : goal.loop-before-init
loop-before-init c = record {
  rows = grown_none arcs_header (drawn_arcs c.args.draws.now c.args.nodes) c.args.table.now.rows c.args.table.now c.requires.begun;
  room = omega arith;
  state = four_none c.args.draws.now;
}

pub loop-before-preserved : goal.loop-before-preserved
loop-before-preserved c =
    let x = c.args.draws.now in
    let i = c.loop-before.before in
    let h = c.loop-before.invariant in
    let number : c.args.nodes + i + 1 ≡ c.args.nodes + (i + 1) = omega arith in
    let more = longer arcs_header c.loop-before.table.rows _ c.push_drawn_arc.new.table c.in_ok-push_drawn_arc.ensures.row in
    record {
      rows = grown arcs_header (drawn_arcs x c.args.nodes) i c.args.table.now.rows _ c.loop-before.table c.push_drawn_arc.new.table h.rows c.in_ok-push_drawn_arc.ensures.row
          (ap₂ (λ s k. drawn_arc s c.args.nodes k) (four_before x i c.loop-before.draws h.state) number);
      room = omega (arith, more, h.room);
      state = four_more x i c.loop-before.draws c.push_drawn_arc.new.draws h.state c.in_ok-push_drawn_arc.ensures.drawn;
    }
