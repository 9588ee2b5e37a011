use Rattle.std.proofs.Common.{subst}
use Rattle.std.proofs.lemmas.Result.{err_from_is_err_and}
use Rattle.nf_simplex.specs.StageOf.{StageTwo}
use Rattle.nf_basis.specs.declared.dense.DenseBasis.{DenseBasis}
use Rattle.nf_run.specs.Steps.{IsStageFault, point_at}
use Rattle.nf_run.proofs.RunFacts.{halt_in, telling_fails}
use Rattle.nf_run.proofs.TurnFacts.{stage_gives}
use Rattle.nf_run.proofs.run.run_two.Goals as goal

pub tell-requires-clause-halt : goal.tell-requires-clause-halt
tell-requires-clause-halt g c =
    let at = point_at {B = DenseBasis} (λ b. b.state.standing) in
    halt_in c.args.p.now c.setting_two-setting.result (at c.args.from) (at c.in_ok-halt.at) c.in_ok-halt.halt c.in_ok-halt.ensures.runs

pub returns-in_err-told-clause-fault : goal.returns-in_err-told-clause-fault
returns-in_err-told-clause-fault g c =
    let at = point_at {B = DenseBasis} (λ b. b.state.standing) in
    let q = err_from_is_err_and c.from_residual-in_err-told.result c.from_residual-in_err-told.ensures.1 in
    rw (q.1, q.2)
    (subst (λ w. IsStageFault c.args.p.now w (at c.args.from) c.in_err-told.field-0.0) c.setting_two-setting.ensures.value
    (telling_fails c.args.p.now c.setting_two-setting.result (at c.args.from) (at c.in_ok-halt.at) c.in_ok-halt.halt c.in_err-told.field-0.0 c.in_ok-halt.ensures.runs c.in_err-told.ensures.fault))

pub returns-clause-gives : goal.returns-clause-gives
returns-clause-gives g c =
    let at = point_at {B = DenseBasis} (λ b. b.state.standing) in
    (stage_gives c.args.p.now c.args.options.now StageTwo c.setting_two-setting.result c.args.earlier (at c.args.from) (at c.in_ok-halt.at) (at c.in_ok-told.told.at) c.in_ok-halt.halt c.in_ok-told.told.line c.in_ok-told.told.proof
    c.setting_two-setting.ensures.value c.requires.ready.stage c.in_ok-halt.ensures.runs c.in_ok-told.ensures.shows c.in_ok-told.ensures.at).0

pub returns-clause-proof : goal.returns-clause-proof
returns-clause-proof g c =
    let at = point_at {B = DenseBasis} (λ b. b.state.standing) in
    (stage_gives c.args.p.now c.args.options.now StageTwo c.setting_two-setting.result c.args.earlier (at c.args.from) (at c.in_ok-halt.at) (at c.in_ok-told.told.at) c.in_ok-halt.halt c.in_ok-told.told.line c.in_ok-told.told.proof
    c.setting_two-setting.ensures.value c.requires.ready.stage c.in_ok-halt.ensures.runs c.in_ok-told.ensures.shows c.in_ok-told.ensures.at).1

pub returns-clause-says : goal.returns-clause-says
returns-clause-says g c =
    let at = point_at {B = DenseBasis} (λ b. b.state.standing) in
    (stage_gives c.args.p.now c.args.options.now StageTwo c.setting_two-setting.result c.args.earlier (at c.args.from) (at c.in_ok-halt.at) (at c.in_ok-told.told.at) c.in_ok-halt.halt c.in_ok-told.told.line c.in_ok-told.told.proof
    c.setting_two-setting.ensures.value c.requires.ready.stage c.in_ok-halt.ensures.runs c.in_ok-told.ensures.shows c.in_ok-told.ensures.at).2
