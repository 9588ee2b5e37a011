use Rattle.std.proofs.Common.{ap, sym, ◌∙◌}
use Rattle.nf_top.specs.Steps.{lent_name}
use Rattle.nf_top.proofs.sets.fetch_if_named.Goals as goal

pub returns-in-Err-clause-stops : goal.returns-in-Err-clause-stops
returns-in-Err-clause-stops g c = λ i d n saw named before is. c.in-Err.ensures.stops i d n saw named before (ap lent_name (sym c.in-Some.is) ∙ is)
