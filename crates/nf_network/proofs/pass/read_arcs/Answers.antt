use Rattle.nf_network.proofs.PassFacts.{after-none}
use Rattle.nf_network.proofs.pass.read_arcs.Goals as goal

pub take_all-requires-clause-empty : goal.take_all-requires-clause-empty
take_all-requires-clause-empty c = rw (c.in-Ok.ensures.0, c.in-Ok.ensures.1, c.in-Ok.ensures.2) (after-none c.args.defaults.now)
