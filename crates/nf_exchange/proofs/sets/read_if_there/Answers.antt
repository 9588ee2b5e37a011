use Rattle.std.proofs.Common.{ap, sym, ◌∙◌}
use Rattle.nf_top.specs.Steps.{bytes_in}
use Rattle.nf_exchange.proofs.sets.read_if_there.Goals as goal

pub returns-in-Err-clause-stops : goal.returns-in-Err-clause-stops
returns-in-Err-clause-stops c = λ i s fetched before is. c.in-Err.ensures.stops i s fetched before (ap bytes_in (sym c.in-Some.is) ∙ is)
