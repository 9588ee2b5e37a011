use Rattle.std.proofs.Common.{◌≡◌, ◌+◌, ◌-◌, ◌∙◌, ap, arith, sym}
use Rattle.nf_certify.proofs.Listed.{none, grown}
use Rattle.nf_certify.proofs.lists.given_values.Goals as goal

pub loop-j-init : goal.loop-j-init
loop-j-init g c = c.new-values.ensures ∙ sym (none (g.B.Basis.values c.args.p.now c.args.basis.now))

pub loop-j-preserved : goal.loop-j-preserved
loop-j-preserved g c =
    let f = g.B.Basis.values c.args.p.now c.args.basis.now in
    let same : c.loop-j.j + 1 - 1 ≡ c.loop-j.j = omega arith in
    grown c.loop-j.j f c.loop-j.values c.push.new.self c.value.result c.loop-j.invariant (c.value.ensures.number ∙ ap f same) c.in_ok-push.ensures.added
