use Rattle.std.proofs.Common.{◌-◌, arith}
use Rattle.nf_ratio.proofs.Slots.{all_but_last, all_slots}
use Rattle.nf_ratio.proofs.ratio_test.count_slots.Goals as goal

pub returns-then-ties-last : goal.returns-then-ties-last
returns-then-ties-last c = all_but_last c.args.rows c.args.ties.now c.args.count c.requires.some c.requires.in_order c.if-ties-last.true

pub returns-else-ties-last : goal.returns-else-ties-last
returns-else-ties-last c = all_slots c.args.rows c.args.ties.now c.args.count c.requires.some c.requires.in_order (c.requires.within (c.args.count - 1) (let a = c.requires.some in omega arith)) c.if-ties-last.false
