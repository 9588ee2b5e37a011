use Rattle.std.proofs.Common.{ap, sym, ◌∙◌}
use Rattle.nf_top.specs.Steps.{lent_name}
use Rattle.nf_exchange.proofs.sets.fetch_if_named.Goals as goal

pub returns-in-Err-clause-stops : goal.returns-in-Err-clause-stops
returns-in-Err-clause-stops g c = λ i n saw named before is.
    c.in-Err.ensures.stops i saw (record { names = n; named = named; before = before; is = ap lent_name (sym c.in-Some.is) ∙ is })
