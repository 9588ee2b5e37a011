use Rattle.nf_cells.proofs.SeenFacts.{once-with}
use Rattle.nf_network.proofs.PassFacts.{with-names}
use Rattle.nf_network.proofs.pass.name_ends.Goals as goal

pub name-requires-2-clause-once : goal.name-requires-2-clause-once
name-requires-2-clause-once c = rw (c.in-Ok.ensures.nodes, with-names c.args.nodes.now _) (once-with c.args.nodes.now.names _ c.requires.once)
