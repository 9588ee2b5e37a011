use Rattle.nf_basis.proofs.Wanted.{told_present}
use Rattle.nf_test_simplex.proofs.start.is_present.Goals as goal

pub returns-in_default : goal.returns-in_default
returns-in_default c = λ _. told_present c.args.p.now c.args.state.now c.args.col c.place.result c.in_default.not-Absent (c.place.ensures.absent c.args.p.now c.requires.state)
