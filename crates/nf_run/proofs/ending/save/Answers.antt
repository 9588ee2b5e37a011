use Rattle.std.proofs.Common.{◌∙◌, Err, Some, ap, inr, refl}
use Rattle.nf_run.proofs.Answered.{if_err, on_ok}
use Rattle.nf_run.proofs.Ended.{saved_due, write_fails}
use Rattle.nf_run.proofs.ending.save.Goals as goal

pub returns-in-Ok-store-clause-ok : goal.returns-in-Ok-store-clause-ok
returns-in-Ok-store-clause-ok g c =
    let bytes = c.bytes.result.now in
    let text = c.bytes-in-Ok-store.result.now in
    let due = saved_due c.args.p.now c.args.cert.now c.args.name.now c.in-Ok.saved.rows c.in-Ok.saved.text bytes c.in-Ok-saved_line.line text c.in-Ok.ensures c.bytes.ensures c.bytes-in-Ok-store.ensures c.in-Ok-saved_line.ensures in
    on_ok c.write.result _ _ (λ w. (Some bytes, text, due, w, c.in-Ok-store.ensures.ok)) c.write.ensures.ok

pub returns-in-Ok-store-clause-fault : goal.returns-in-Ok-store-clause-fault
returns-in-Ok-store-clause-fault g c =
    let bytes = c.bytes.result.now in
    let text = c.bytes-in-Ok-store.result.now in
    let due = saved_due c.args.p.now c.args.cert.now c.args.name.now c.in-Ok.saved.rows c.in-Ok.saved.text bytes c.in-Ok-saved_line.line text c.in-Ok.ensures c.bytes.ensures c.bytes-in-Ok-store.ensures c.in-Ok-saved_line.ensures in
    if_err c.write.result _ _ (λ f h. write_fails c.args.p.now (Some c.args.name.now) (Some c.args.cert.now) (Some bytes) text _ _ _ _ _ _ _ _ f due c.in-Ok-store.ensures.ok h) c.write.ensures.fault

pub returns-in-Err-Failed-clause-fault : goal.returns-in-Err-Failed-clause-fault
returns-in-Err-Failed-clause-fault g c =
    let bytes = c.bytes.result.now in
    let line = c.in-Ok-saved_line.line in
    let due = saved_due c.args.p.now c.args.cert.now c.args.name.now c.in-Ok.saved.rows c.in-Ok.saved.text bytes line line c.in-Ok.ensures c.bytes.ensures refl c.in-Ok-saved_line.ensures in
    let failed = c.in-Err-Failed.is ∙ ap Err c.in-Err-Failed.field-0-is in
    inr (c.store.ensures.cause.failed failed, refl, (bytes, line, due, c.store.ensures.failed failed))
