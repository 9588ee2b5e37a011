use Rattle.std.proofs.Common.{◌∙◌, ap, refl}
use Rattle.nf_simplex.specs.Standing.{Standing}
use Rattle.nf_engine.specs.Point.{point}
use Rattle.nf_run.proofs.RunFacts.{runs_of, runs_stage}
use Rattle.nf_run.proofs.stage.run_stage.Goals as goal

pub returns-clause-stage : goal.returns-clause-stage
returns-clause-stage g c =
    let at = point g.B.Basis.standing in
    let runs = runs_of c.args.p.now c.args.setting _ (at c.in-Ok.engine) (at c.run.new.self) _ _ c.in-Ok-run.halt c.in-Ok-run.ensures.run c.from-most.ensures (ap at c.in-Ok.ensures) refl in
    ap (λ (s : Standing). s.stage) (ap g.B.Basis.standing c.into_parts-basis.ensures.basis) ∙ runs_stage c.args.p.now c.args.setting _ _ c.in-Ok-run.halt runs
