use Rattle.std.proofs.Common.{◌≡◌, ◌<◌, ◌+◌, ◌-◌, [], length, get_or, sym, ap, ◌∙◌, arith}
use Rattle.nf_network.specs.Keys.{no_key}
use Rattle.nf_network.proofs.RepeatFacts.{of-at, of-length}
use Rattle.nf_network.proofs.keys.ArcKeys.name.Goals as goal

pub overflow_cast-i : goal.overflow_cast-i
overflow_cast-i c =
    let size = sym (of-length _ _ c.self.invariant.one_each) ∙ ap length c.self.view_is in
    omega (arith, size, c.requires, c.self.invariant.one_each, c.self.invariant.few)

pub overflow_add-i : goal.overflow_add-i
overflow_add-i c =
    let size = sym (of-length _ _ c.self.invariant.one_each) ∙ ap length c.self.view_is in
    omega (arith, size, c.requires, c.self.invariant.one_each, c.self.invariant.few)

pub column-requires : goal.column-requires
column-requires c =
    let size = sym (of-length _ _ c.self.invariant.one_each) ∙ ap length c.self.view_is in
    record { number = (omega arith, omega (arith, size, c.requires, c.self.invariant.one_each)) }

pub returns : goal.returns
returns c =
    let size = sym (of-length _ _ c.self.invariant.one_each) ∙ ap length c.self.view_is in
    let below : c.args.i < length c.self.inside.ends.items = omega (arith, size, c.requires) in
    let at : c.args.i + 1 - 1 ≡ c.args.i = omega arith in
    c.column.ensures.name ∙ ap (λ i. get_or c.self.inside.labels.columns i []) at
    ∙ sym (ap (λ k. k.name) (of-at _ _ c.args.i (0, 0) c.self.invariant.one_each below)) ∙ ap (λ ks. (get_or ks c.args.i no_key).name) c.self.view_is
