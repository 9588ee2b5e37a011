use Rattle.std.proofs.Common.{◌≡◌, ◌+◌, ◌-◌, ◌∙◌, length, ap, arith}
use Rattle.nf_model.specs.Lists.{list_of}
use Rattle.nf_figures.proofs.Listed.{none, grown}
use Rattle.nf_figures.proofs.columns.flows.Goals as goal

pub loop-j-init : goal.loop-j-init
loop-j-init g c = none (g.B.Basis.values c.args.p.now c.args.basis.now) _ c.new-values.ensures

pub loop-j-preserved : goal.loop-j-preserved
loop-j-preserved g c =
    let f = g.B.Basis.values c.args.p.now c.args.basis.now in
    let same : c.loop-j.j + 1 - 1 ≡ c.loop-j.j = omega arith in
    grown c.loop-j.j f c.loop-j.values c.push.new.self c.value_of.result c.loop-j.invariant (c.value_of.ensures ∙ ap f same) c.in_ok-push.ensures.added

pub returns-clause-given : goal.returns-clause-given
returns-clause-given g c =
    let f = g.B.Basis.values c.args.p.now c.args.basis.now in
    let all : c.loop-j.j ≡ length c.args.p.now.columns = omega (arith, c.loop-j-test.false, c.loop-j.auto.j-end, c.columns-j-end.ensures.number) in
    (f, (g.met.B.Basis.sound c.args.p.now c.args.basis.now c.requires.numbers).values, c.loop-j.invariant ∙ ap (λ n. list_of n f) all)
