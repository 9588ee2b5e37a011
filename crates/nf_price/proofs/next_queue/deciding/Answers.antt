use Rattle.nf_price.proofs.LevelFacts.{level_none}
use Rattle.nf_price.proofs.NextFacts.{decides_two}
use Rattle.nf_price.proofs.next_queue.deciding.Goals as goal

pub returns-then-is_level-clause-decides : goal.returns-then-is_level-clause-decides
returns-then-is_level-clause-decides g c =
    decides_two c.args.p.now c.args.state.now.standing c.args.one.now c.args.two.now c.args.short
    (level_none c.args.p.now c.requires.state.problem c.args.one.now (c.is_level.ensures c.if-is_level.true) c.args.state.now.standing c.args.two.now) c.requires.eligible
