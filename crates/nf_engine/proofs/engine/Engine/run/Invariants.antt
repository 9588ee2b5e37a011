use Rattle.std.proofs.Common.{◌≡◌, ◌-◌, true, false}
use Rattle.nf_simplex.specs.Standing.{IsFeasibleState, rows_of}
use Rattle.nf_price.specs.Choice.{TellsShort}
use Rattle.nf_engine.specs.Point.{point}
use Rattle.nf_engine.specs.Run.{GoesOn}
use Rattle.nf_engine.proofs.engine.Engine.run.Given as goal

abbrev pub invariant-turns : goal.invariant-turns
invariant-turns g l = record {
  numbers : g.B.Basis.HasNumbers l.p l.self.basis;
  feasible : IsFeasibleState l.p (g.B.Basis.standing l.self.basis);
  room : l.self.room ≡ rows_of l.p (g.B.Basis.standing l.self.basis);
  met : l.met ≡ true → TellsShort l.p (g.B.Basis.standing l.self.basis) false;
  goes : GoesOn l.p l.rule l.most l.pauses (point g.B.Basis.standing l.fn.self) (point g.B.Basis.standing l.self);
}

abbrev pub decreases-turns : goal.decreases-turns
decreases-turns g l = l.most - l.self.pivots
