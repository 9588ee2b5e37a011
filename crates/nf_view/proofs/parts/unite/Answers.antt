use Rattle.std.proofs.Common.{sym, ◌∙◌, arith}
use Rattle.nf_view.proofs.PartFacts.{united_ends}
use Rattle.nf_view.proofs.parts.unite.Goals as goal

pub returns-then-one-other-clause-one : goal.returns-then-one-other-clause-one
returns-then-one-other-clause-one c = λ part u q. (let (u1, e1, t1) = c.part_of-one.ensures.named part u in let (u2, e2, t2) = c.part_of-other.ensures.named part u1 in (sym e1 ∙ (c.if-one-other.true ∙ e2), u2))

pub returns-clause-two : goal.returns-clause-two
returns-clause-two c = λ part u q. (
    let (u1, e1, t1) = c.part_of-one.ensures.named part u in
    let (u2, e2, t2) = c.part_of-other.ensures.named part u1 in
    let begins = c.requires.begins in
    let ends = c.requires.ends in
    let low_one = c.part_of-one.ensures.within in
    let low_other = c.part_of-other.ensures.within in
    let room_one = c.part_of-one.ensures.room in
    let room_other = c.part_of-other.ensures.room in
    united_ends part c.part_of-other.new.above.items c.args.link c.part_of-one.result c.part_of-other.result c.min-low.result c.max-high.result u2 c.part_of-other.ensures.down e1 e2 t1 t2 c.if-one-other.false c.min-low.ensures c.max-high.ensures
    (omega arith)
    (omega arith)
    )
