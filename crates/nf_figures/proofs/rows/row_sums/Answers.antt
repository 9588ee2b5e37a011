use Rattle.std.proofs.Common.{◌≡◌, ◌+◌, ◌-◌, ◌∙◌, ap, arith}
use Rattle.nf_model.specs.Program.{row_sum}
use Rattle.nf_figures.proofs.Listed.{none, grown}
use Rattle.nf_figures.proofs.rows.row_sums.Goals as goal

pub loop-i-init : goal.loop-i-init
loop-i-init g c = none (row_sum c.args.p.now c.args.flows.now) _ c.new-sums.ensures

pub loop-i-preserved : goal.loop-i-preserved
loop-i-preserved g c =
    let same : c.loop-i.i + 1 - 1 ≡ c.loop-i.i = omega arith in
    grown c.loop-i.i (row_sum c.args.p.now c.args.flows.now) c.loop-i.sums c.push.new.self c.in_ok-sum.sum c.loop-i.invariant (c.in_ok-sum.ensures.value ∙ ap (row_sum c.args.p.now c.args.flows.now) same) c.in_ok-push.ensures.added
