use Rattle.std.proofs.Common.{◌≡◌, ◌<◌, refl, sym, ap, ◌∙◌, subst, rules}
use Rattle.std.proofs.lemmas.List.{get_or_read}
use Rattle.nf_num.specs.Rational.{zero_ℚ}
use Rattle.nf_basis.specs.Names.{place_of}
use Rattle.nf_basis.specs.Kept.{number}
use Rattle.nf_basis.specs.Dense.{spread_values}
use Rattle.nf_basis.proofs.Spread.{value_found}
use Rattle.nf_tree.proofs.Places.{basic_listed}
use Rattle.nf_tree.proofs.Slotted.{rows_are}
use Rattle.nf_tree.proofs.tree.TreeBasis.value.Goals as goal

pub returns-in-Lower-clause-value : goal.returns-in-Lower-clause-value
returns-in-Lower-clause-value c =
    let b = c.args.self.now in
    let n : c.bound.result ≡ spread_values c.args.p.now b.state.standing b.slots.items b.values.items (number c.args.p.now c.args.col) = search rules in
    record { values = spread_values c.args.p.now b.state.standing b.slots.items b.values.items; are_values = c.requires.numbers.held.values; its = n }

pub returns-in-Upper-clause-value : goal.returns-in-Upper-clause-value
returns-in-Upper-clause-value c =
    let b = c.args.self.now in
    let n : c.bound-in-Upper.result ≡ spread_values c.args.p.now b.state.standing b.slots.items b.values.items (number c.args.p.now c.args.col) = search rules in
    record { values = spread_values c.args.p.now b.state.standing b.slots.items b.values.items; are_values = c.requires.numbers.held.values; its = n }

pub returns-in-Zero-clause-value : goal.returns-in-Zero-clause-value
returns-in-Zero-clause-value c =
    let b = c.args.self.now in
    let n : c.zero.result ≡ spread_values c.args.p.now b.state.standing b.slots.items b.values.items (number c.args.p.now c.args.col) = search rules in
    record { values = spread_values c.args.p.now b.state.standing b.slots.items b.values.items; are_values = c.requires.numbers.held.values; its = n }

pub returns-in-Absent-clause-value : goal.returns-in-Absent-clause-value
returns-in-Absent-clause-value c =
    let b = c.args.self.now in
    let n : c.zero-in-Absent.result ≡ spread_values c.args.p.now b.state.standing b.slots.items b.values.items (number c.args.p.now c.args.col) = search rules in
    record { values = spread_values c.args.p.now b.state.standing b.slots.items b.values.items; are_values = c.requires.numbers.held.values; its = n }

pub slot_at_ends-requires-clause-listed : goal.slot_at_ends-requires-clause-listed
slot_at_ends-requires-clause-listed c =
    let b = c.args.self.now in
    let h = c.requires.numbers in
    basic_listed c.args.p.now b.state.standing b.slots.items h.state.problem h.stage h.held.listed c.args.col c.requires.present
    (sym (c.place.ensures.present c.args.p.now h.state c.requires.present) ∙ ap place_of c.in-Basic.is)

pub returns-in-Basic-clause-number : goal.returns-in-Basic-clause-number
returns-in-Basic-clause-number c =
    let b = c.args.self.now in
    let h = c.requires.numbers in
    value_found c.args.p.now b.state.standing b.slots.items h.state.problem h.held.listed b.values.items c.args.col c.requires.present
    (sym (c.place.ensures.present c.args.p.now h.state c.requires.present) ∙ ap place_of c.in-Basic.is) b.slots.items b.values.items refl refl _ (λ k m f. (
      c.slot_at_ends.result,
      subst (λ n. c.slot_at_ends.result < n) (sym (h.held.listed.as_many ∙ rows_are c.args.p.now b.state.standing h.stage)) c.slot_at_ends.ensures.within,
      c.slot_at_ends.ensures.column,
      get_or_read b.values.items c.slot_at_ends.result _ (subst (λ n. c.slot_at_ends.result < n) (sym (h.held.value_each ∙ rows_are c.args.p.now b.state.standing h.stage)) c.slot_at_ends.ensures.within) c.index.ensures zero_ℚ,
    ))

pub returns-in-Basic-clause-value : goal.returns-in-Basic-clause-value
returns-in-Basic-clause-value c =
    let b = c.args.self.now in
    record { values = spread_values c.args.p.now b.state.standing b.slots.items b.values.items; are_values = c.requires.numbers.held.values; its = returns-in-Basic-clause-number c }
