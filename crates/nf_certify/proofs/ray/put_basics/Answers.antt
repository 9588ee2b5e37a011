use Rattle.std.proofs.Common.{◌≡◌, ◌<◌, ◌∙◌, ap, sym, subst}
use Rattle.std.proofs.lemmas.List.{get_or_read}
use Rattle.nf_num.specs.Rational.{neg_ℚ}
use Rattle.nf_simplex.specs.Standing.{rows_of}
use Rattle.nf_simplex.specs.Step.{signed}
use Rattle.nf_basis.specs.Kept.{number}
use Rattle.nf_certify.specs.Moving.{IsPutAt}
use Rattle.nf_certify.proofs.Moved.{put_none, put_more}
use Rattle.nf_certify.proofs.ray.put_basics.Goals as goal

pub loop-slot-init : goal.loop-slot-init
loop-slot-init g c = put_none c.args.p.now (g.B.Basis.slots c.args.basis.now) c.args.down c.args.entries.now c.args.moves.now

pub loop-slot-preserved : goal.loop-slot-preserved
loop-slot-preserved g c =
    let p = c.args.p.now in
    let s = g.B.Basis.standing c.args.basis.now in
    let rows : c.stage_rows-slot-end.result ≡ rows_of p s = c.stage_rows-slot-end.ensures.rows ∙ ap (rows_of p) c.state.ensures.standing in
    let below : c.loop-slot.slot < rows_of p s = subst (λ n. c.loop-slot.slot < n) rows c.loop-slot-test.true in
    let entry = get_or_read c.args.entries.now c.loop-slot.slot _ (subst (λ n. c.loop-slot.slot < n) (rows ∙ sym c.requires.entries) c.loop-slot-test.true) c.index-entries-slot.is _ in
    put_more p s (g.B.Basis.slots c.args.basis.now) c.args.down c.args.entries.now c.args.moves.now c.loop-slot.moves c.put.new.moves c.loop-slot.slot c.turned-moved.result
    (g.met.B.Basis.sound p c.args.basis.now c.requires.numbers).listed below (c.turned-moved.ensures ∙ ap (signed c.args.down) (c.neg.ensures ∙ ap neg_ℚ entry)) c.loop-slot.invariant
    (subst (λ d. IsPutAt (number p d) c.turned-moved.result c.loop-slot.moves c.put.new.moves) c.basic_at.ensures c.put.ensures.put)
