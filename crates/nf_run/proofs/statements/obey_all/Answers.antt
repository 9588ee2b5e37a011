use Rattle.std.proofs.Common.{◌∙◌, [], None, arith, refl, subst, sym}
use Rattle.std.proofs.lemmas.Result.{err_from_is_err_and}
use Rattle.std.specs.Option.{option_copied}
use Rattle.nf_price.specs.Queue.{pricing}
use Rattle.nf_run.specs.Steps.{HasListed, session_at}
use Rattle.nf_run.proofs.Answered.{if_err, on_ok}
use Rattle.nf_run.proofs.Listed.{end_fails, ends_all, listed_next, listed_none, listed_whole, proof_lengths, stops_at, stops_opening}
use Rattle.nf_run.proofs.statements.obey_all.Goals as goal

pub returns-in_err-basis-clause-stops : goal.returns-in_err-basis-clause-stops
returns-in_err-basis-clause-stops g c =
    let q = err_from_is_err_and c.from_residual.result c.from_residual.ensures.1 in
    rw (q.1, q.2) (stops_opening c.args.p.now c.args.options.now c.args.acts.now _ (g.K.Sink.written c.args.listing.now) (g.K.Sink.faults c.args.listing.now) (g.D.Library.held c.args.library.now) (g.D.Library.store_faults c.args.library.now) _ c.in_err-basis.ensures.fault)

pub acts-init : goal.acts-init
acts-init g c =
    record {
      ready = record { numbers = c.in_ok-basis.ensures.numbers; feasible = c.in_ok-basis.ensures.feasible; stage = c.in_ok-basis.ensures.first.stage };
      later = omega arith;
      quiet = refl;
      calm = λ h. refl;
      listed = subst (λ q. HasListed c.args.p.now c.args.options.now [] (record { spot = record { point = record { standing = g.B.Basis.standing c.in_ok-basis.basis; pivots = 0; pricing = pricing 0 q }; earlier = 0 }; proof = None }) (g.K.Sink.written c.args.listing.now) (g.K.Sink.written c.args.listing.now)) (sym c.in-Ok.ensures)
          (listed_none c.args.p.now c.args.options.now (g.B.Basis.standing c.in_ok-basis.basis) (g.K.Sink.written c.args.listing.now) c.in_ok-basis.ensures.first);
    }

pub acts-preserved : goal.acts-preserved
acts-preserved g c =
    let inv = c.acts.invariant in
    let e = c.in_ok-session.ensures in
    record {
      ready = e.ready;
      later = omega (arith, inv.later, e.later);
      quiet = e.quiet ∙ inv.quiet;
      calm = λ h. e.calm (inv.quiet ∙ h) ∙ inv.calm h;
      listed = listed_next c.args.p.now c.args.options.now c.args.acts.now c.acts.act-index c.act-item.result (session_at g.B.Basis.standing c.acts.session) (session_at g.B.Basis.standing c.in_ok-session.session)
          (g.K.Sink.written c.args.listing.now) (g.K.Sink.written c.acts.listing) (g.K.Sink.written c.obey.new.listing) c.requires.acts c.acts-test.true c.act-item.is inv.listed e.obeys;
    }

pub returns-in_err-session-clause-stops : goal.returns-in_err-session-clause-stops
returns-in_err-session-clause-stops g c =
    let inv = c.acts.invariant in
    let q = err_from_is_err_and c.from_residual-in_err-session.result c.from_residual-in_err-session.ensures.1 in
    rw (q.1, q.2)
    (stops_at c.args.p.now c.args.options.now c.args.acts.now _ c.acts.act-index c.act-item.result (session_at g.B.Basis.standing c.acts.session)
    (g.K.Sink.written c.args.listing.now) (g.K.Sink.written c.acts.listing) (g.K.Sink.written c.obey.new.listing) (g.K.Sink.faults c.args.listing.now) (g.K.Sink.faults c.acts.listing) (g.K.Sink.faults c.obey.new.listing)
    (g.D.Library.held c.args.library.now) (g.D.Library.store_faults c.args.library.now) _
    c.acts-test.true c.act-item.is inv.later inv.listed c.in_err-session.ensures.fault)

pub end-requires : goal.end-requires
end-requires g c = let l = c.acts.invariant.listed in record { lengths = proof_lengths c.args.p.now l.1.events c.acts.session.proof l.2 }

pub returns-clause-ok : goal.returns-clause-ok
returns-clause-ok g c =
    let b = session_at g.B.Basis.standing c.acts.session in
    let old = g.K.Sink.written c.args.listing.now in
    let mid = g.K.Sink.written c.acts.listing in
    let l = listed_whole c.args.p.now c.args.options.now c.args.acts.now c.acts.act-index b old mid c.acts-test.false c.acts.auto.act-index-end c.acts.invariant.listed in
    on_ok c.end.result _ _ (λ h. ends_all c.args.p.now c.args.options.now c.args.acts.now (option_copied c.args.certout) b old mid l _ _ _ h) c.end.ensures.ok

pub returns-clause-stops : goal.returns-clause-stops
returns-clause-stops g c =
    let b = session_at g.B.Basis.standing c.acts.session in
    let old = g.K.Sink.written c.args.listing.now in
    let mid = g.K.Sink.written c.acts.listing in
    let l = listed_whole c.args.p.now c.args.options.now c.args.acts.now c.acts.act-index b old mid c.acts-test.false c.acts.auto.act-index-end c.acts.invariant.listed in
    if_err c.end.result _ _ (λ f h. end_fails c.args.p.now c.args.options.now c.args.acts.now (option_copied c.args.certout) b old mid l _ _ _ _ _ _ _ _ f c.acts.invariant.later h) c.end.ensures.fault
