use Rattle.nf_basis.proofs.Wanted.{basic_told, not_basic_told}
use Rattle.nf_test_simplex.proofs.restored.is_basic.Goals as goal

pub returns-in-Basic-clause-basic : goal.returns-in-Basic-clause-basic
returns-in-Basic-clause-basic c = λ _.
    let e = c.column_at.ensures in
    (basic_told c.args.p.now c.args.state.now c.column_at.result c.args.at c.place.result c.requires.state e.named e.column e.number c.requires.within (c.place.ensures.present c.args.p.now c.requires.state) (c.place.ensures.absent c.args.p.now c.requires.state) c.in-Basic.is).2

pub returns-in_default-clause-other : goal.returns-in_default-clause-other
returns-in_default-clause-other c = λ _.
    let e = c.column_at.ensures in
    not_basic_told c.args.p.now c.args.state.now c.column_at.result c.args.at c.place.result c.requires.state e.named e.column e.number c.requires.within (c.place.ensures.present c.args.p.now c.requires.state) (c.place.ensures.absent c.args.p.now c.requires.state) c.in_default.not-Basic
