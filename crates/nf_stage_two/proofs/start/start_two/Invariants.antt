use Rattle.nf_basis.specs.Kept.{IsStateOf}
use Rattle.nf_stage_two.specs.Starting.{IsMidway}
use Rattle.nf_stage_two.proofs.start.start_two.Given as goal

abbrev pub invariant-loop-q : goal.invariant-loop-q
invariant-loop-q g l = IsStateOf l.p l.state × IsMidway l.p (g.B.Basis.standing l.basis) (g.B.Basis.values l.p l.basis) l.p.arcs l.p.nodes l.q l.state.standing
