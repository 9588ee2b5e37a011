use Rattle.std.proofs.Common.{◌<◌, subst, rules}
use Rattle.nf_model.specs.Program.{at}
use Rattle.nf_sums.proofs.Up.{handed_on}
use Rattle.nf_simplex.specs.Layout.{layout_of}
use Rattle.nf_simplex.specs.Columns.{col_lower, col_upper}
use Rattle.nf_simplex.specs.Numbers.{StandsAt}
use Rattle.nf_simplex.specs.Standing.{stage_of, rows_of}
use Rattle.nf_basis.specs.Names.{col_of, place_of}
use Rattle.nf_basis.specs.Kept.{number, place_in}
use Rattle.nf_basis.specs.Numbers.{in_slot}
use Rattle.nf_basis.proofs.Named.{nonbasic_rests, stands_named}
use Rattle.nf_basis.proofs.Arisen.{stands_bound, standing_here, values_arise}
use Rattle.nf_basis.proofs.Pivoted.{parts_after, entry_there}
use Rattle.nf_tree.proofs.Slotted.{some_exchange, some_inverse}
use Rattle.nf_tree.proofs.moving.exchange.Goals as goal

pub resting_number-from-requires-clause-place : goal.resting_number-from-requires-clause-place
resting_number-from-requires-clause-place g c = nonbasic_rests c.args.p.now c.args.state.now c.args.entering c.place-place.result c.requires.state c.requires.entering (c.place-place.ensures.present c.args.p.now c.requires.state c.requires.entering.0)

pub exchange_values-requires-clause-pivot : goal.exchange_values-requires-clause-pivot
exchange_values-requires-clause-pivot g c =
    let s = c.args.state.now.standing in
    let h = c.requires.held in
    entry_there c.args.p.now s c.args.slots.now c.args.entering c.args.slot _ c.entries_of.ensures.entries (subst (λ n. c.args.slot < n) h.listed.as_many c.requires.within) c.requires.entry

pub returns-in_err-exchange_values-clause-passed : goal.returns-in_err-exchange_values-clause-passed
returns-in_err-exchange_values-clause-passed g c =
    let p = c.args.p.now in
    let k = c.args.state.now in
    let s = k.standing in
    let h = c.requires.held in
    let within = subst (λ n. c.args.slot < n) h.listed.as_many c.requires.within in
    let entries = c.entries_of.ensures.entries in
    let from = stands_named p k c.args.entering _ c.resting_number-from.result c.requires.state c.requires.entering.0 c.resting_number-from.ensures in
    let until = stands_named p k (in_slot c.args.slots.now c.args.slot) _ c.bound-until.result c.requires.state (h.listed.present c.args.slot within) (subst (λ x. StandsAt (place_of c.args.to) (col_lower (layout_of p) (col_of x)) (col_upper (layout_of p) (col_of x)) c.bound-until.result) c.column_in-leaving.ensures c.bound-until.ensures) in
    let there : StandsAt (place_in p s c.args.entering) ((stage_of p s).lower (number p c.args.entering)) ((stage_of p s).upper (number p c.args.entering)) c.resting_number-from.result =
    subst (λ a. StandsAt a ((stage_of p s).lower (number p c.args.entering)) ((stage_of p s).upper (number p c.args.entering)) c.resting_number-from.result) (c.place-place.ensures.present p c.requires.state c.requires.entering.0) from in
    handed_on c.from_residual.result _ _ c.from_residual.ensures.1
    (values_arise p s c.args.slots.now c.requires.state.problem h.listed c.args.values.now h.values c.args.entering c.requires.entering.0 c.args.slot within c.entries_of.new.out entries
    (entry_there p s c.args.slots.now c.args.entering c.args.slot _ entries within c.requires.entry) c.bound-until.result c.resting_number-from.result h.value_each
    (stands_bound _ _ _ c.bound-until.result c.requires.bound.0 until) (standing_here p s c.args.slots.now c.requires.state.problem h.listed c.args.values.now h.values c.requires.state.fits c.args.entering c.requires.entering c.resting_number-from.result there) _ c.in_err-exchange_values.ensures.passed)

pub returns-clause-held : goal.returns-clause-held
returns-clause-held g c =
    let p = c.args.p.now in
    let k = c.args.state.now in
    let s = k.standing in
    let h = c.requires.held in
    let within = subst (λ n. c.args.slot < n) h.listed.as_many c.requires.within in
    let entries = c.entries_of.ensures.entries in
    let from = stands_named p k c.args.entering _ c.resting_number-from.result c.requires.state c.requires.entering.0 c.resting_number-from.ensures in
    let until = stands_named p k (in_slot c.args.slots.now c.args.slot) _ c.bound-until.result c.requires.state (h.listed.present c.args.slot within) (subst (λ x. StandsAt (place_of c.args.to) (col_lower (layout_of p) (col_of x)) (col_upper (layout_of p) (col_of x)) c.bound-until.result) c.column_in-leaving.ensures c.bound-until.ensures) in
    let there : StandsAt (place_in p s c.args.entering) ((stage_of p s).lower (number p c.args.entering)) ((stage_of p s).upper (number p c.args.entering)) c.resting_number-from.result =
    subst (λ a. StandsAt a ((stage_of p s).lower (number p c.args.entering)) ((stage_of p s).upper (number p c.args.entering)) c.resting_number-from.result) (c.place-place.ensures.present p c.requires.state c.requires.entering.0) from in
    let inverse = some_inverse p s c.args.slots.now c.requires.state.problem h.basis h.listed in
    let new = some_exchange (rows_of p s) inverse.0 (at c.entries_of.new.out) c.args.slot inverse.1.size within in
    (parts_after p s c.args.slots.now inverse.0 c.requires.state.problem c.requires.state.fits h.basis h.listed inverse.1 c.args.entering c.requires.entering c.args.slot within (place_of c.args.to) c.requires.bound c.entries_of.new.out entries
    (entry_there p s c.args.slots.now c.args.entering c.args.slot _ entries within c.requires.entry) new.0 new.1 new.2
    c.args.values.now c.exchange_values.new.values h.values h.value_each c.bound-until.result c.resting_number-from.result c.in_ok-exchange_values.ensures.value until there (search rules)).basics
