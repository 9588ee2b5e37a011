use Rattle.std.proofs.Common.{◌∙◌, Err, refl}
use Rattle.std.proofs.Math.Nat.{le_trans}
use Rattle.std.proofs.lemmas.Result.{err_from_is_err_and}
use Rattle.nf_delivery.proofs.StoreFacts.{store_fails, stores_next}
use Rattle.nf_delivery.proofs.delivery.store_all.Goals as goal

pub returns-in_err-store-clause-fault : goal.returns-in_err-store-clause-fault
returns-in_err-store-clause-fault g c =
    let inv = c.sets.invariant in
    let e = c.in_err-store.ensures in
    let q = err_from_is_err_and c.from_residual.result c.from_residual.ensures.1 in
    rw (q.1, q.2)
    (store_fails (Err c.in_err-store.field-0.0) c.args.sets.now c.sets.set-index c.set-item.result c.deref.result.now (g.D.Library.held c.args.library.now) (g.D.Library.held c.sets.library) (g.D.Library.held c.store.new.self)
    (g.D.Library.store_faults c.args.library.now) (g.D.Library.store_faults c.sets.library) (g.D.Library.store_faults c.store.new.self) _
    refl c.sets-test.true c.set-item.is c.deref.ensures inv.stores inv.stored e.cause e.failed e.no_memory)

pub sets-preserved : goal.sets-preserved
sets-preserved g c =
    let inv = c.sets.invariant in
    let e = c.in_ok-store.ensures in
    record {
      stored = stores_next c.args.sets.now c.sets.set-index c.set-item.result c.deref.result.now c.bytes.result.now (g.D.Library.held c.args.library.now) (g.D.Library.held c.sets.library) (g.D.Library.held c.store.new.self) c.sets-test.true c.set-item.is c.deref.ensures c.bytes.ensures inv.stored e.ok;
      stores = le_trans inv.stores e.cause.later;
      fetches = e.fetches ∙ inv.fetches;
      misses = λ q. e.misses q ∙ inv.misses q;
      quiet_fetches = e.quiet_fetches ∙ inv.quiet_fetches;
      quiet_stores = e.quiet_stores ∙ inv.quiet_stores;
      calm = λ h. e.calm (inv.quiet_stores ∙ h) ∙ inv.calm h;
    }
