use Rattle.std.proofs.Common.{arith}
use Rattle.nf_price.proofs.LevelFacts.{level_none, nodes_first}
use Rattle.nf_price.proofs.choice.chosen_one.Goals as goal

pub is_level-requires : goal.is_level-requires
is_level-requires g c = record { nodes = (let a = nodes_first c.args.p.now c.args.state.now.standing.stage in let b = c.requires.one.places in omega (arith, a, b)) }

pub returns-then-is_level-clause-none : goal.returns-then-is_level-clause-none
returns-then-is_level-clause-none g c = level_none c.args.p.now c.requires.state.problem c.args.one.now (c.is_level.ensures c.if-is_level.true) c.args.state.now.standing c.args.two.now
