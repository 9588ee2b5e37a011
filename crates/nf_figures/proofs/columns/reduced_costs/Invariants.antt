use Rattle.std.proofs.Common.{◌≡◌}
use Rattle.nf_model.specs.Certificate.{reduced_cost}
use Rattle.nf_model.specs.Lists.{list_of}
use Rattle.nf_simplex.specs.Standing.{place_at}
use Rattle.nf_figures.specs.Figures.{if_there}
use Rattle.nf_figures.proofs.columns.reduced_costs.Given as goal

abbrev pub invariant-loop-j : goal.invariant-loop-j
invariant-loop-j g l = l.costs ≡ list_of l.j (λ j. if_there (place_at l.state.standing j) (reduced_cost l.p l.duals j))
