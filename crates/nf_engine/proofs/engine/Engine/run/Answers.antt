use Rattle.std.proofs.Common.{subst}
use Rattle.nf_sums.proofs.Up.{handed_on}
use Rattle.nf_engine.specs.Point.{point}
use Rattle.nf_engine.specs.Run.{IsTurnTo}
use Rattle.nf_engine.specs.Run.GoesOn.{here, further}
use Rattle.nf_engine.proofs.RunFacts.{passes_later}
use Rattle.nf_engine.proofs.engine.Engine.run.Goals as goal

pub turns-init : goal.turns-init
turns-init g c = record { numbers = c.requires.numbers; feasible = c.requires.feasible; room = c.requires.room; met = λ e. absurd cc; goes = here }

pub returns-in_err-halt-clause-passed : goal.returns-in_err-halt-clause-passed
returns-in_err-halt-clause-passed g c =
    handed_on c.from_residual.result c.in_err-halt.field-0.0 _ c.from_residual.ensures.1
    (passes_later c.args.p.now c.args.rule c.args.most c.args.pauses.now (point g.B.Basis.standing c.args.self.now) (point g.B.Basis.standing c.turns.self) c.turn.new.self.pivots c.in_err-halt.field-0.0 c.turns.invariant.goes c.in_err-halt.ensures.passed)

pub turns-preserved : goal.turns-preserved
turns-preserved g c = record {
  numbers = c.in_ok-halt.ensures.numbers;
  feasible = c.in_ok-halt.ensures.feasible;
  room = c.in_ok-halt.ensures.room;
  met = c.in_ok-halt.ensures.met;
  goes = further (point g.B.Basis.standing c.turns.self) (point g.B.Basis.standing c.turn.new.self) c.turns.invariant.goes
      (subst (λ h. IsTurnTo c.args.p.now c.args.rule c.args.most c.args.pauses.now (point g.B.Basis.standing c.turns.self) h (point g.B.Basis.standing c.turn.new.self)) c.in_default.is c.in_ok-halt.ensures.turn);
}
