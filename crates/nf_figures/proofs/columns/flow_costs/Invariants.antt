use Rattle.std.proofs.Common.{◌≡◌}
use Rattle.nf_model.specs.Lists.{list_of}
use Rattle.nf_figures.specs.Figures.{flow_cost}
use Rattle.nf_figures.proofs.columns.flow_costs.Given as goal

abbrev pub invariant-loop-j : goal.invariant-loop-j
invariant-loop-j g l = l.costs ≡ list_of l.j (flow_cost l.p l.flows)
