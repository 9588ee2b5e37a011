use Rattle.std.proofs.Common.{◌≡◌, ap, ap₂, ◌∙◌, subst, rules}
use Rattle.nf_num.specs.Rational.{ℚ, ◌-ℚ◌, ◌*ℚ◌}
use Rattle.nf_model.specs.Program.{at}
use Rattle.nf_sums.specs.Terms.{with_sign, PassesIn}
use Rattle.nf_sums.proofs.Up.{handed_on}
use Rattle.nf_inverse.specs.Causes.{FlipTerms}
use Rattle.nf_simplex.specs.Place as model
use Rattle.nf_simplex.specs.Layout.{layout_of}
use Rattle.nf_simplex.proofs.Moving.{flipped_state}
use Rattle.nf_simplex.proofs.Numbered.{number_within}
use Rattle.nf_basis.specs.Names.{col_of}
use Rattle.nf_basis.specs.Kept.{number}
use Rattle.nf_basis.proofs.Named.{nonbasic_rests, bounded_rests, lower_named, upper_named}
use Rattle.nf_basis.proofs.Arisen.{flip_arises, distance_arises}
use Rattle.nf_basis.proofs.Flipped.{parts_flipped}
use Rattle.nf_tree.proofs.Slotted.{some_inverse}
use Rattle.nf_tree.proofs.moving.shift.Goals as goal

pub returns-in_err-distance-clause-passed : goal.returns-in_err-distance-clause-passed
returns-in_err-distance-clause-passed g c =
    let p = c.args.p.now in
    let k = c.args.state.now in
    let e = c.args.entering in
    handed_on c.from_residual.result _ _ c.from_residual.ensures.1
    (distance_arises p k.standing (number p e) c.bound-lower.result c.bound-upper.result (number_within (layout_of p) k.standing.stage (col_of e) c.requires.state.problem.arcs_within c.requires.entering.nonbasic.0.1) (lower_named p k e _ c.requires.state c.requires.entering.nonbasic.0 c.bound-lower.ensures) (upper_named p k e _ c.requires.state c.requires.entering.nonbasic.0 c.bound-upper.ensures) _ c.in_err-distance.ensures.passed)

pub returns-in_err-flip_values-clause-passed : goal.returns-in_err-flip_values-clause-passed
returns-in_err-flip_values-clause-passed g c =
    let p = c.args.p.now in
    let k = c.args.state.now in
    let s = k.standing in
    let e = c.args.entering in
    let h = c.requires.held in
    let entries = c.entries_of.ensures.entries in
    let far : c.in_ok-distance.distance ≡ c.bound-upper.result -ℚ c.bound-lower.result = search rules in
    handed_on c.from_residual-in_err-flip_values.result _ _ c.from_residual-in_err-flip_values.ensures.1
    (flip_arises p s c.args.slots.now c.requires.state.problem h.listed c.args.values.now h.values e c.requires.entering.nonbasic.0 c.entries_of.new.out entries h.value_each c.bound-lower.result c.bound-upper.result
    (lower_named p k e _ c.requires.state c.requires.entering.nonbasic.0 c.bound-lower.ensures) (upper_named p k e _ c.requires.state c.requires.entering.nonbasic.0 c.bound-upper.ensures) c.goes_down-falls.result _
    (subst (λ d. PassesIn (FlipTerms c.args.values.now (at c.entries_of.new.out) c.goes_down-falls.result d) c.in_err-flip_values.field-0.0) far c.in_err-flip_values.ensures.passed))

pub returns-clause-held : goal.returns-clause-held
returns-clause-held g c =
    let p = c.args.p.now in
    let k = c.args.state.now in
    let s = k.standing in
    let e = c.args.entering in
    let h = c.requires.held in
    let entries = c.entries_of.ensures.entries in
    let place = c.place.ensures.present p c.requires.state c.requires.entering.nonbasic.0 in
    let far : c.in_ok-distance.distance ≡ c.bound-upper.result -ℚ c.bound-lower.result = search rules in
    let rests = nonbasic_rests p k e c.place.result c.requires.state c.requires.entering.nonbasic place in
    let bound = bounded_rests _ _ _ rests.0 rests.1 c.requires.entering.lower in
    let inverse = some_inverse p s c.args.slots.now c.requires.state.problem h.basis h.listed in
    (parts_flipped p s c.args.slots.now inverse.0 c.requires.state.problem c.requires.state.fits c.args.values.now (record { basics = h; inverse = inverse.1 }) e c.requires.entering.nonbasic (subst model.IsBound place bound) c.entries_of.new.out entries c.bound-lower.result c.bound-upper.result
    (lower_named p k e _ c.requires.state c.requires.entering.nonbasic.0 c.bound-lower.ensures) (upper_named p k e _ c.requires.state c.requires.entering.nonbasic.0 c.bound-upper.ensures)
    (flipped_state p s c.requires.state.problem.arcs_within c.requires.state.fits (col_of e) c.requires.entering.nonbasic.0.1 c.requires.entering.lower c.requires.entering.upper)
    c.flip_values.new.values (search rules)
    (λ i m. c.in_ok-flip_values.ensures.value i m ∙ ap₂ (λ (f : _) (d : ℚ). at c.args.values.now i -ℚ at c.entries_of.new.out i *ℚ with_sign f d) (c.goes_down-falls.ensures ∙ ap model.goes_down place) far)).basics
