use Rattle.std.proofs.Common.{◌≡◌, ◌<◌, ℕ, List, length, suc, get_or, sym, ap, ◌∙◌, subst}
use Rattle.nf_num.specs.Rational.{ℚ}
use Rattle.nf_model.specs.Program.{at}
use Rattle.nf_basis.specs.declared.col.Col.{Col}
use Rattle.nf_basis.specs.Numbers.{in_slot}
use Rattle.nf_grove.specs.declared.grove.Grove.{Grove}
use Rattle.nf_tree.specs.Links.{AreEndsOf, IsTreeOf, SpansKeys}
use Rattle.nf_tree.proofs.Slotted.{rows_are}
use Rattle.nf_tree.proofs.Planted.{joined_of_basis, held_planted, tree_planted}
use Rattle.nf_tree.proofs.tree.Tree.replant.Goals as goal

pub arrange-requires-clause-within : goal.arrange-requires-clause-within
arrange-requires-clause-within g c i l =
    let p = c.args.p.now in
    let b = c.args.self.now in
    let s = b.state.standing in
    let h = c.requires.held in
    let a = c.regrow-joined.ensures in
    let nodes = h.listed.as_many ∙ rows_are p s c.requires.stage in
    let e3 : c.as_slice-3.result.now ≡ c.copy.new.keys.items = c.as_slice-3.ensures.value in
    let e4 : c.as_slice-4.result.now ≡ c.copy.new.keys.items = c.as_slice-4.ensures.value in
    let many : length c.as_slice-4.result.now ≡ p.nodes = ap length e4 ∙ (c.copy.ensures.long_keys ∙ (ap length c.as_slice.ensures.value ∙ nodes)) in
    let keys_are = λ (q : ℕ) (m : q < p.nodes). ap (λ xs. in_slot xs q) e3
    ∙ (c.copy.ensures.keys q (subst (λ xs. q < length xs) (sym c.as_slice.ensures.value) (subst (λ n. q < n) (sym nodes) m)) ∙ ap (λ xs. in_slot xs q) c.as_slice.ensures.value) in
    let spans = a.tree (a.joined (joined_of_basis p s b.slots.items c.as_slice-3.result.now _ _ _ c.requires.state.problem c.requires.stage h.basis h.listed keys_are a.ends)) in
    subst (λ n. get_or c.as_slice-key.result.now (suc i) 0 < n) (a.room.tails ∙ sym many)
    (subst (λ xs. get_or xs (suc i) 0 < length c.regrow-joined.new.self.tails.items) (sym c.as_slice-key.ensures.value)
    (spans.tree.rooted.key_within i (subst (λ n. i < n) (many ∙ sym a.room.tails) l)))

pub arrange_numbers-requires-clause-within : goal.arrange_numbers-requires-clause-within
arrange_numbers-requires-clause-within g c i l =
    let p = c.args.p.now in
    let b = c.args.self.now in
    let s = b.state.standing in
    let h = c.requires.held in
    let a = c.regrow-joined.ensures in
    let nodes = h.listed.as_many ∙ rows_are p s c.requires.stage in
    let e3 : c.as_slice-3.result.now ≡ c.copy.new.keys.items = c.as_slice-3.ensures.value in
    let e5 : c.as_slice-5.result.now ≡ c.copy.new.work.items = c.as_slice-5.ensures.value in
    let many : length c.as_slice-5.result.now ≡ p.nodes = ap length e5 ∙ (c.copy.ensures.long_work ∙ (ap length c.as_slice.ensures.value ∙ nodes)) in
    let keys_are = λ (q : ℕ) (m : q < p.nodes). ap (λ xs. in_slot xs q) e3
    ∙ (c.copy.ensures.keys q (subst (λ xs. q < length xs) (sym c.as_slice.ensures.value) (subst (λ n. q < n) (sym nodes) m)) ∙ ap (λ xs. in_slot xs q) c.as_slice.ensures.value) in
    let spans = a.tree (a.joined (joined_of_basis p s b.slots.items c.as_slice-3.result.now _ _ _ c.requires.state.problem c.requires.stage h.basis h.listed keys_are a.ends)) in
    subst (λ n. get_or c.as_slice-key.result.now (suc i) 0 < n) (a.room.tails ∙ sym many)
    (subst (λ xs. get_or xs (suc i) 0 < length c.regrow-joined.new.self.tails.items) (sym c.as_slice-key.ensures.value)
    (spans.tree.rooted.key_within i (subst (λ n. i < n) (many ∙ sym a.room.tails) l)))

pub returns-clause-numbers : goal.returns-clause-numbers
returns-clause-numbers g c =
    let p = c.args.p.now in
    let b = c.args.self.now in
    let s = b.state.standing in
    let ok = c.requires.state.problem in
    let one = c.requires.stage in
    let h = c.requires.held in
    let a = c.regrow-joined.ensures in
    let z = c.arrange.ensures in
    let y = c.arrange_numbers.ensures in
    let nodes = h.listed.as_many ∙ rows_are p s c.requires.stage in
    let e3 : c.as_slice-3.result.now ≡ c.copy.new.keys.items = c.as_slice-3.ensures.value in
    let e4 : c.as_slice-4.result.now ≡ c.copy.new.keys.items = c.as_slice-4.ensures.value in
    let e5 : c.as_slice-5.result.now ≡ c.copy.new.work.items = c.as_slice-5.ensures.value in
    let many : length c.as_slice-4.result.now ≡ p.nodes = ap length e4 ∙ (c.copy.ensures.long_keys ∙ (ap length c.as_slice.ensures.value ∙ nodes)) in
    let many5 : length c.as_slice-5.result.now ≡ p.nodes = ap length e5 ∙ (c.copy.ensures.long_work ∙ (ap length c.as_slice.ensures.value ∙ nodes)) in
    let in_copy = λ (q : ℕ) (m : q < p.nodes). subst (λ xs. q < length xs) (sym c.as_slice.ensures.value) (subst (λ n. q < n) (sym nodes) m) in
    let keys_are = λ (q : ℕ) (m : q < p.nodes). c.copy.ensures.keys q (in_copy q m) ∙ ap (λ xs. in_slot xs q) c.as_slice.ensures.value in
    let work_are = λ (q : ℕ) (m : q < p.nodes). c.copy.ensures.work q (in_copy q m) ∙ ap (λ xs. at xs q) c.as_slice-2.ensures.value in
    let spans = a.tree (a.joined (joined_of_basis p s b.slots.items c.as_slice-3.result.now _ _ _ ok one h.basis h.listed (λ q m. ap (λ xs. in_slot xs q) e3 ∙ keys_are q m) a.ends)) in
    let spans2 = subst (λ (xs : List Col). SpansKeys p s xs c.regrow-joined.new.self) e3 spans in
    let slots_are = λ (i : ℕ) (m : i < p.nodes). z.slots i (subst (λ n. i < n) (sym many) m) ∙ (ap (λ (xs : List Col). in_slot xs (get_or c.as_slice-key.result.now (suc i) 0)) e4 ∙ ap (λ (ks : List ℕ). in_slot c.copy.new.keys.items (get_or ks (suc i) 0)) c.as_slice-key.ensures.value) in
    let values_are = λ (i : ℕ) (m : i < p.nodes). y.values i (subst (λ n. i < n) (sym many5) m) ∙ (ap (λ (xs : List ℚ). at xs (get_or c.as_slice-key.result.now (suc i) 0)) e5 ∙ ap (λ (ks : List ℕ). at c.copy.new.work.items (get_or ks (suc i) 0)) c.as_slice-key.ensures.value) in
    record {
      state = c.requires.state;
      stage = one;
      held = held_planted p s ok one b.slots.items c.copy.new.keys.items h.listed keys_are c.regrow-joined.new.self a.room spans2 c.arrange.new.slots.items (z.long ∙ many) slots_are
          b.values.items c.copy.new.work.items c.requires.held work_are c.arrange_numbers.new.values.items (y.long ∙ many5) values_are;
      tree = subst (λ (t : Grove). IsTreeOf p s c.arrange.new.slots.items t.order.items t.links) (sym c.follow.ensures.grove)
          (tree_planted p s ok one b.slots.items c.copy.new.keys.items h.listed keys_are c.regrow-joined.new.self a.room spans2 c.arrange.new.slots.items (z.long ∙ many) slots_are);
      ends = subst (λ (xs : List Col). AreEndsOf p s xs p.nodes c.follow.new.self.tails.items c.follow.new.self.heads.items c.follow.new.self.names.items) c.as_slice-slots.ensures.value c.follow.ensures.ends;
      one = c.requires.one;
      two = c.requires.two;
      room = record {
        span = c.follow.ensures.room;
        keys = c.copy.ensures.long_keys ∙ (ap length c.as_slice.ensures.value ∙ nodes);
        work = c.copy.ensures.long_work ∙ (ap length c.as_slice.ensures.value ∙ nodes);
        weights = c.requires.room.weights;
        trail = c.requires.room.trail;
      };
    }

pub follow-requires-clause-spans : goal.follow-requires-clause-spans
follow-requires-clause-spans g c =
    let p = c.args.p.now in
    let b = c.args.self.now in
    let s = b.state.standing in
    let h = c.requires.held in
    let a = c.regrow-joined.ensures in
    let nodes = h.listed.as_many ∙ rows_are p s c.requires.stage in
    let e3 : c.as_slice-3.result.now ≡ c.copy.new.keys.items = c.as_slice-3.ensures.value in
    let keys_are = λ (q : ℕ) (m : q < p.nodes). ap (λ xs. in_slot xs q) e3
    ∙ (c.copy.ensures.keys q (subst (λ xs. q < length xs) (sym c.as_slice.ensures.value) (subst (λ n. q < n) (sym nodes) m)) ∙ ap (λ xs. in_slot xs q) c.as_slice.ensures.value) in
    let spans = a.tree (a.joined (joined_of_basis p s b.slots.items c.as_slice-3.result.now _ _ _ c.requires.state.problem c.requires.stage h.basis h.listed keys_are a.ends)) in
    subst (λ (xs : List Col). SpansKeys p s xs c.regrow-joined.new.self) (e3 ∙ sym c.as_slice-keys.ensures.value) spans

pub follow-requires-clause-slots : goal.follow-requires-clause-slots
follow-requires-clause-slots g c i m =
    let p = c.args.p.now in
    let b = c.args.self.now in
    let s = b.state.standing in
    let nodes = c.requires.held.listed.as_many ∙ rows_are p s c.requires.stage in
    let e4 : c.as_slice-4.result.now ≡ c.copy.new.keys.items = c.as_slice-4.ensures.value in
    let many : length c.as_slice-4.result.now ≡ p.nodes = ap length e4 ∙ (c.copy.ensures.long_keys ∙ (ap length c.as_slice.ensures.value ∙ nodes)) in
    ap (λ (xs : List Col). in_slot xs i) c.as_slice-slots.ensures.value
    ∙ (c.arrange.ensures.slots i (subst (λ n. i < n) (sym many) m)
    ∙ (ap (λ (xs : List Col). in_slot xs (get_or c.as_slice-key.result.now (suc i) 0)) (e4 ∙ sym c.as_slice-keys.ensures.value)
    ∙ ap (λ (ks : List ℕ). in_slot c.as_slice-keys.result.now (get_or ks (suc i) 0)) c.as_slice-key.ensures.value))
