use Rattle.nf_exchange.proofs.StopFacts.{fetch-stops}
use Rattle.nf_exchange.proofs.sets.fetch_set.Goals as goal

pub returns-in-Err-clause-stops : goal.returns-in-Err-clause-stops
returns-in-Err-clause-stops g c = λ i saw comes.
    fetch-stops i c.args.set c.args.name.now _ _ _ _ _ saw comes c.fetch.result c.in-Err.fault c.stop_of_fetch.result c.in-Err.is c.stop_of_fetch.ensures
    c.fetch.ensures.cause c.fetch.ensures.there c.fetch.ensures.sound c.fetch.ensures.absent c.fetch.ensures.too_long
