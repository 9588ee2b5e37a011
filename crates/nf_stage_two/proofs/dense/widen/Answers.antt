use Rattle.std.proofs.Common.{sym, subst}
use Rattle.nf_simplex.specs.Layout.{layout_of}
use Rattle.nf_simplex.specs.Starts.{second_rest}
use Rattle.nf_basis.specs.Numbers.{ListBasics}
use Rattle.nf_stage_two.specs.Wide.{AreWideValues, IsWideBelow}
use Rattle.nf_stage_two.proofs.WideSlots.{wide_listed}
use Rattle.nf_stage_two.proofs.WideInverse.{wide_inverse_is}
use Rattle.nf_stage_two.proofs.WideValues.{wide_parts}
use Rattle.nf_stage_two.proofs.dense.widen.Goals as goal

pub wide_values-requires-clause-listed : goal.wide_values-requires-clause-listed
wide_values-requires-clause-listed g c =
    let p = c.args.p.now in
    let b = g.met.B.Basis.sound p c.args.first.now c.requires.numbers in
    subst (ListBasics p c.args.state.standing) (sym c.as_slice.ensures.value)
    (wide_listed p (g.B.Basis.standing c.args.first.now) c.args.state.standing (g.B.Basis.values p c.args.first.now) b.problem c.requires.one c.requires.second (g.B.Basis.slots c.args.first.now) c.in_ok-slots.slots.items b.listed c.in_ok-slots.ensures)

pub wide_inverse-requires-clause-listed : goal.wide_inverse-requires-clause-listed
wide_inverse-requires-clause-listed g c =
    let p = c.args.p.now in
    let b = g.met.B.Basis.sound p c.args.first.now c.requires.numbers in
    subst (ListBasics p c.args.state.standing) (sym c.as_slice-2.ensures.value)
    (wide_listed p (g.B.Basis.standing c.args.first.now) c.args.state.standing (g.B.Basis.values p c.args.first.now) b.problem c.requires.one c.requires.second (g.B.Basis.slots c.args.first.now) c.in_ok-slots.slots.items b.listed c.in_ok-slots.ensures)

pub returns-clause-numbers : goal.returns-clause-numbers
returns-clause-numbers g c =
    let p = c.args.p.now in
    let s = g.B.Basis.standing c.args.first.now in
    let t = c.args.state.standing in
    let x = g.B.Basis.values p c.args.first.now in
    let first = g.B.Basis.slots c.args.first.now in
    let slots = c.in_ok-slots.slots.items in
    let b = g.met.B.Basis.sound p c.args.first.now c.requires.numbers in
    let are = c.in_ok-slots.ensures in
    let inverse = wide_inverse_is p s t x b.problem c.requires.one b.state c.requires.second first slots b.listed are b.basis.independent c.in_ok-inverse.inverse (subst (λ u. IsWideBelow p s t u p.nodes c.in_ok-inverse.inverse) c.as_slice-2.ensures.value c.in_ok-inverse.ensures.inverse) in
    let values = subst (λ u. AreWideValues p t x (second_rest (layout_of p) x) u c.in_ok-values.values.items) c.as_slice.ensures.value c.in_ok-values.ensures.values in
    c.in_ok-basis.ensures.numbers p c.requires.state (wide_parts p s t x b.problem c.requires.one b.state c.requires.second first slots b.listed are b.values c.in_ok-values.values.items values c.in_ok-inverse.inverse inverse)
