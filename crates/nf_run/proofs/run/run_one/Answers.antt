use Rattle.std.proofs.Common.{inl}
use Rattle.std.proofs.lemmas.Result.{err_from_is_err_and}
use Rattle.nf_simplex.specs.StageOf.{StageOne}
use Rattle.nf_basis.specs.declared.dense.DenseBasis.{DenseBasis}
use Rattle.nf_run.specs.Steps.{point_at, spot_at}
use Rattle.nf_run.proofs.Answered.{if_err, if_ok}
use Rattle.nf_run.proofs.RunFacts.{halt_in, telling_fails}
use Rattle.nf_run.proofs.TurnFacts.{between_fails, over_gives, over_has_two, stage_fails, stage_gives, two_fails}
use Rattle.nf_run.proofs.run.run_one.Goals as goal

pub tell-requires-clause-halt : goal.tell-requires-clause-halt
tell-requires-clause-halt g c =
    let at = point_at g.B.Basis.standing in
    halt_in c.args.p.now c.setting_one-setting.result (at c.args.from) (at c.in_ok-halt.at) c.in_ok-halt.halt c.in_ok-halt.ensures.runs

pub start_stage_two-requires-clause-few : goal.start_stage_two-requires-clause-few
start_stage_two-requires-clause-few g c = c.requires.plain.few_rows (over_has_two c.args.p.now c.in_ok-halt.halt (c.is_over.ensures.0 c.if-is_over.true))

pub returns-in_err-second-clause-fault : goal.returns-in_err-second-clause-fault
returns-in_err-second-clause-fault g c =
    let at = point_at g.B.Basis.standing in
    let q = err_from_is_err_and c.from_residual-in_err-second.result c.from_residual-in_err-second.ensures.1 in
    rw (q.1, q.2) (between_fails c.args.p.now c.args.options.now c.setting_one-setting.result (at c.args.from) (at c.in_ok-halt.at) c.in_ok-halt.halt c.setting_one-setting.ensures.value c.requires.ready.stage c.in_ok-halt.ensures.runs (c.is_over.ensures.0 c.if-is_over.true) c.in_err-second.field-0.0 c.in_err-second.ensures.fault)

pub returns-then-is_over-clause-gives : goal.returns-then-is_over-clause-gives
returns-then-is_over-clause-gives g c =
    let at = point_at g.B.Basis.standing in
    let second = c.in_ok-second.second in
    if_ok c.run_two.result _ _
    (λ r h. over_gives c.args.p.now c.args.options.now c.setting_one-setting.result (at c.args.from) (at c.in_ok-halt.at) c.in_ok-halt.halt c.setting_one-setting.ensures.value c.requires.ready.stage c.in_ok-halt.ensures.runs (c.is_over.ensures.0 c.if-is_over.true) second.basis.state.standing (point_at {B = DenseBasis} (λ b. b.state.standing) second) r.0 (spot_at g.B.Basis.standing r.1.stage) c.in_ok-second.ensures.starts c.in_ok-second.ensures.started h)
    c.run_two.ensures.gives

pub returns-then-is_over-clause-fault : goal.returns-then-is_over-clause-fault
returns-then-is_over-clause-fault g c =
    let at = point_at g.B.Basis.standing in
    let second = c.in_ok-second.second in
    if_err c.run_two.result _ _
    (λ f h. two_fails c.args.p.now c.args.options.now c.setting_one-setting.result (at c.args.from) (at c.in_ok-halt.at) c.in_ok-halt.halt c.setting_one-setting.ensures.value c.requires.ready.stage c.in_ok-halt.ensures.runs (c.is_over.ensures.0 c.if-is_over.true) second.basis.state.standing (point_at {B = DenseBasis} (λ b. b.state.standing) second) f c.in_ok-second.ensures.ready.stage c.in_ok-second.ensures.starts c.in_ok-second.ensures.started h)
    c.run_two.ensures.fault

pub returns-in_err-told-clause-fault : goal.returns-in_err-told-clause-fault
returns-in_err-told-clause-fault g c =
    let at = point_at g.B.Basis.standing in
    let q = err_from_is_err_and c.from_residual-in_err-told.result c.from_residual-in_err-told.ensures.1 in
    let fails = telling_fails c.args.p.now c.setting_one-setting.result (at c.args.from) (at c.in_ok-halt.at) c.in_ok-halt.halt c.in_err-told.field-0.0 c.in_ok-halt.ensures.runs c.in_err-told.ensures.fault in
    rw (q.1, q.2) (stage_fails c.args.p.now c.args.options.now StageOne c.setting_one-setting.result 0 (at c.args.from) c.in_err-told.field-0.0 c.setting_one-setting.ensures.value c.requires.ready.stage fails)

pub returns-clause-gives : goal.returns-clause-gives
returns-clause-gives g c =
    let at = point_at g.B.Basis.standing in
    inl ((stage_gives c.args.p.now c.args.options.now StageOne c.setting_one-setting.result 0 (at c.args.from) (at c.in_ok-halt.at) (at c.in_ok-told.told.at) c.in_ok-halt.halt c.in_ok-told.told.line c.in_ok-told.told.proof
    c.setting_one-setting.ensures.value c.requires.ready.stage c.in_ok-halt.ensures.runs c.in_ok-told.ensures.shows c.in_ok-told.ensures.at).0)

pub returns-clause-proof : goal.returns-clause-proof
returns-clause-proof g c =
    let at = point_at g.B.Basis.standing in
    (stage_gives c.args.p.now c.args.options.now StageOne c.setting_one-setting.result 0 (at c.args.from) (at c.in_ok-halt.at) (at c.in_ok-told.told.at) c.in_ok-halt.halt c.in_ok-told.told.line c.in_ok-told.told.proof
    c.setting_one-setting.ensures.value c.requires.ready.stage c.in_ok-halt.ensures.runs c.in_ok-told.ensures.shows c.in_ok-told.ensures.at).1

pub returns-clause-says : goal.returns-clause-says
returns-clause-says g c =
    let at = point_at g.B.Basis.standing in
    (stage_gives c.args.p.now c.args.options.now StageOne c.setting_one-setting.result 0 (at c.args.from) (at c.in_ok-halt.at) (at c.in_ok-told.told.at) c.in_ok-halt.halt c.in_ok-told.told.line c.in_ok-told.told.proof
    c.setting_one-setting.ensures.value c.requires.ready.stage c.in_ok-halt.ensures.runs c.in_ok-told.ensures.shows c.in_ok-told.ensures.at).2
