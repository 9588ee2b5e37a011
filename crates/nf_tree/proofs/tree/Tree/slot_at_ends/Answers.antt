use Rattle.std.proofs.Common.{◌≡◌, suc, ◌-◌, ◌<◌, ap, ◌∙◌, subst, sym, arith}
use Rattle.nf_basis.specs.Numbers.{in_slot}
use Rattle.nf_tree.proofs.Places.{at_head, no_and_yes}
use Rattle.nf_tree.proofs.tree.Tree.slot_at_ends.Goals as goal

pub overflow_sub-result-else-is_in_slot_of : goal.overflow_sub-result-else-is_in_slot_of
overflow_sub-result-else-is_in_slot_of c =
    let (k, l, e) = c.requires.listed in
    let b = c.args.self.now in
    let t = c.tail_of-tail.ensures.value in
    let h : c.head_of-head.result ≡ suc k =
    c.head_of-head.ensures.value
    ∙ at_head c.args.p.now b.state.standing b.slots.items b.span.grove.order.items b.span.grove.links c.requires.numbers.tree c.args.col k l e
    (λ some z. no_and_yes c.if-is_in_slot_of.false (c.is_in_slot_of.ensures.no (subst (λ n. 0 < n) (sym t) some) (ap (λ xs. in_slot xs (c.tail_of-tail.result - 1)) c.as_slice.ensures.value ∙ (ap (λ n. in_slot b.slots.items (n - 1)) t ∙ z)))) in
    omega arith

pub returns-else-is_in_slot_of-clause-column : goal.returns-else-is_in_slot_of-clause-column
returns-else-is_in_slot_of-clause-column c =
    let (k, l, e) = c.requires.listed in
    let b = c.args.self.now in
    let t = c.tail_of-tail.ensures.value in
    let h : c.head_of-head.result ≡ suc k =
    c.head_of-head.ensures.value
    ∙ at_head c.args.p.now b.state.standing b.slots.items b.span.grove.order.items b.span.grove.links c.requires.numbers.tree c.args.col k l e
    (λ some z. no_and_yes c.if-is_in_slot_of.false (c.is_in_slot_of.ensures.no (subst (λ n. 0 < n) (sym t) some) (ap (λ xs. in_slot xs (c.tail_of-tail.result - 1)) c.as_slice.ensures.value ∙ (ap (λ n. in_slot b.slots.items (n - 1)) t ∙ z)))) in
    let r : suc k - 1 ≡ k = omega arith in
    ap (λ n. in_slot b.slots.items (n - 1)) h ∙ (ap (in_slot b.slots.items) r ∙ e)
