use Rattle.std.proofs.Common.{◌≡◌, ◌+◌, ◌-◌, ◌∙◌, ap, arith}
use Rattle.nf_figures.specs.Figures.{flow_cost}
use Rattle.nf_figures.proofs.Listed.{none, grown}
use Rattle.nf_figures.proofs.columns.flow_costs.Goals as goal

pub loop-j-init : goal.loop-j-init
loop-j-init g c = none (flow_cost c.args.p.now c.args.flows.now) _ c.new-costs.ensures

pub loop-j-preserved : goal.loop-j-preserved
loop-j-preserved g c =
    let same : c.loop-j.j + 1 - 1 ≡ c.loop-j.j = omega arith in
    grown c.loop-j.j (flow_cost c.args.p.now c.args.flows.now) c.loop-j.costs c.push.new.self c.in_ok-cost.cost c.loop-j.invariant (c.in_ok-cost.ensures.cost ∙ ap (flow_cost c.args.p.now c.args.flows.now) same) c.in_ok-push.ensures.added
