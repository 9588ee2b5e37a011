use Rattle.std.proofs.Common.{◌+◌, length, length-append, ap, ◌∙◌}
use Rattle.nf_sample.proofs.Grown.{state_more, state_none, supplies_more, supplies_none}
use Rattle.nf_sample.proofs.nodes.draw_supplies.Goals as goal

pub loop-init : goal.loop-init
loop-init c = record { drawn = c.new-drawn.ensures.items ∙ supplies_none c.args.draws.now; count = ap length c.new-drawn.ensures.items; state = state_none c.args.draws.now }

pub loop-preserved : goal.loop-preserved
loop-preserved c =
    let h = c.loop.invariant in
    record {
      drawn = supplies_more c.args.draws.now c.loop.counter c.loop.draws c.below.result c.loop.drawn.items c.push.new.self.items h.drawn h.state c.below.ensures.value c.in_ok-push.ensures.items;
      count = ap length c.in_ok-push.ensures.items ∙ length-append c.loop.drawn.items _ ∙ ap (λ n. n + 1) h.count;
      state = state_more c.args.draws.now c.loop.counter c.loop.draws c.below.new.self h.state c.below.ensures.state;
    }
