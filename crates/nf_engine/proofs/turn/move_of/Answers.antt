use Rattle.nf_engine.proofs.turn.move_of.Goals as goal

pub limit-requires-clause-enters : goal.limit-requires-clause-enters
limit-requires-clause-enters g c = record { nonbasic = c.requires.nonbasic; enters = c.requires.enters }

pub returns-clause-limited : goal.returns-clause-limited
returns-clause-limited g c = (c.in_ok-answer.answer, c.in_ok-answer.ensures.answer, c.limited.ensures)
