use Rattle.std.proofs.Common.{Some, refl, ap}
use Rattle.nf_cons_sparse.proofs.first_round.Lines.name_variable.Goals as goal
use Rattle.nf_cons_sparse.proofs.first_round.Lines.name_variable.Goals.{in-Ok, in-Err}

pub returns : goal.returns
returns c = elim c.match-number.branch [
  | in-Ok w ↦ rw (← c.self.view_is, c.in-Is.is, w.result-is) (w.in-Ok.ensures.answer.clear, ap Some w.in-Ok.ensures.answer.is, rw w.in-Ok.ensures.answer.variables refl)
  | in-Err w ↦ rw (← c.self.view_is, c.in-Is.is, w.result-is) w.in-Err.ensures.answer
]
