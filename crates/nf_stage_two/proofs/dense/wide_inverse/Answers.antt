use Rattle.std.proofs.Common.{◌≡◌, ℕ, Bool, ◌+◌, ◌-◌, ◌<◌, ◌∙◌, length, replicate, refl, sym, ap, subst, arith, rules}
use Rattle.std.proofs.lemmas.List.{with_items_is, get_or-replicate}
use Rattle.nf_num.specs.Rational.{zero_ℚ}
use Rattle.nf_model.specs.Program.{at}
use Rattle.nf_inverse.specs.Weights.{IsDiagonal}
use Rattle.nf_basis.specs.Numbers.{in_slot}
use Rattle.nf_basis.proofs.Wanted.{handed_as}
use Rattle.nf_stage_two.specs.Starting.{IsSecondFaultOf}
use Rattle.nf_stage_two.specs.Wide.{is_turned}
use Rattle.nf_stage_two.proofs.WideInverse.{wide_first, wide_next, sums_arise, told_column}
use Rattle.nf_stage_two.proofs.dense.wide_inverse.Goals as goal

back : (n : ℕ) → n + 1 - 1 ≡ n
back n = omega arith

pub loop-row-init : goal.loop-row-init
loop-row-init g c =
    let p = c.args.p.now in
    let n : ℕ → Bool = λ k. is_turned p c.args.state.now.standing (in_slot c.args.slots.now k) in
    let t : c.in_ok-spread.spread.items ≡ replicate c.columns.result c.zero-2.result = search rules in
    record {
      numbers = c.requires.numbers;
      standing = refl;
      slots = refl;
      values = refl;
      by_slot = sym c.in_ok-by_slot.by_slot.ok.0 ∙ (c.in_ok-by_slot.ensures.len ∙ c.nodes.ensures.number);
      spread = sym c.in_ok-spread.spread.ok.0 ∙ (c.in_ok-spread.ensures.len ∙ c.columns.ensures.number);
      off = λ j h none. ap (λ xs. at xs j) t ∙ (get_or-replicate c.columns.result j c.zero-2.result zero_ℚ (subst (λ m. j < m) (sym c.columns.ensures.number) h) ∙ c.zero-2.ensures);
      wide = wide_first p (g.B.Basis.standing c.args.first.now) c.args.state.now.standing c.args.slots.now c.in_ok-inverse.inverse (subst (λ m. IsDiagonal m n c.in_ok-inverse.inverse) c.rows.ensures.number (c.in_ok-inverse.ensures.weights n (λ k t h q. q)));
    }

pub returns-in_err-put_column-clause-fault : goal.returns-in_err-put_column-clause-fault
returns-in_err-put_column-clause-fault g c =
    let p = c.args.p.now in
    let s = g.B.Basis.standing c.args.first.now in
    let x = g.B.Basis.values p c.args.first.now in
    let b = g.met.B.Basis.sound p c.args.first.now c.requires.numbers in
    let i = c.loop-row.invariant in
    let row = c.loop-row.row in
    let out = c.inverse_column.new.out in
    let spread = c.spread_weights.new.spread in
    let l : length c.inverse_column.new.out ≡ c.loop-row.by_slot.len = search rules in
    let e = with_items_is c.loop-row.by_slot out l in
    let m : length c.spread_weights.new.spread ≡ c.loop-row.spread.len = search rules in
    let f = with_items_is c.loop-row.spread spread m in
    let told = told_column p s c.args.state.now.standing x b.problem c.requires.one b.state c.requires.second (g.B.Basis.slots c.args.first.now) c.args.slots.now b.listed c.requires.slots row (row + 1) (g.B.Basis.standing c.loop-row.first) (g.B.Basis.slots c.loop-row.first)
    out c.as_slice.result.now c.as_slice-in-loop-row.result.now spread c.as_slice-in-loop-row-2.result.now (back row) i.standing i.slots (c.as_slice.ensures.value ∙ e) (c.as_slice-in-loop-row.ensures.value ∙ e) (c.as_slice-in-loop-row-2.ensures.value ∙ f)
    (l ∙ (c.loop-row.by_slot.ok.0 ∙ i.by_slot)) c.in_ok-inverse_column.ensures.weights c.spread_weights.ensures in
    handed_as c.from_residual-in_err-put_column.result _ (IsSecondFaultOf p s) c.from_residual-in_err-put_column.ensures.1
    (sums_arise p s c.args.state.now.standing x b.problem c.requires.one b.state c.requires.second (g.B.Basis.slots c.args.first.now) c.args.slots.now b.listed c.requires.slots row told.weights told.are_weights (subst (λ z. row < z) c.nodes-row-end.ensures.number c.loop-row-test.true) c.as_slice-in-loop-row-2.result.now told.givens _ c.in_err-put_column.ensures.passed)

pub loop-row-preserved : goal.loop-row-preserved
loop-row-preserved g c =
    let p = c.args.p.now in
    let s = g.B.Basis.standing c.args.first.now in
    let x = g.B.Basis.values p c.args.first.now in
    let b = g.met.B.Basis.sound p c.args.first.now c.requires.numbers in
    let i = c.loop-row.invariant in
    let row = c.loop-row.row in
    let out = c.inverse_column.new.out in
    let spread = c.spread_weights.new.spread in
    let l : length c.inverse_column.new.out ≡ c.loop-row.by_slot.len = search rules in
    let e = with_items_is c.loop-row.by_slot out l in
    let m : length c.spread_weights.new.spread ≡ c.loop-row.spread.len = search rules in
    let f = with_items_is c.loop-row.spread spread m in
    let long : length c.inverse_column.new.out ≡ c.args.p.now.nodes = l ∙ (c.loop-row.by_slot.ok.0 ∙ i.by_slot) in
    let told = told_column p s c.args.state.now.standing x b.problem c.requires.one b.state c.requires.second (g.B.Basis.slots c.args.first.now) c.args.slots.now b.listed c.requires.slots row (row + 1) (g.B.Basis.standing c.loop-row.first) (g.B.Basis.slots c.loop-row.first)
    out c.as_slice.result.now c.as_slice-in-loop-row.result.now spread c.as_slice-in-loop-row-2.result.now (back row) i.standing i.slots (c.as_slice.ensures.value ∙ e) (c.as_slice-in-loop-row.ensures.value ∙ e) (c.as_slice-in-loop-row-2.ensures.value ∙ f)
    long c.in_ok-inverse_column.ensures.weights c.spread_weights.ensures in
    record {
      numbers = c.in_ok-inverse_column.ensures.numbers;
      standing = c.in_ok-inverse_column.ensures.standing ∙ i.standing;
      slots = c.in_ok-inverse_column.ensures.slots ∙ i.slots;
      values = c.in_ok-inverse_column.ensures.values ∙ i.values;
      by_slot = ap length e ∙ long;
      spread = ap length f ∙ c.spread_weights.ensures.as_many;
      off = λ j h none. ap (λ xs. at xs j) f ∙ c.spread_weights.ensures.others j h (λ k n. none k (subst (λ z. k < z) (ap length (c.as_slice.ensures.value ∙ e) ∙ long) n));
      wide = wide_next p s c.args.state.now.standing c.args.slots.now row c.loop-row.inverse c.put_column.new.inverse (subst (λ z. row < z) c.nodes-row-end.ensures.number c.loop-row-test.true) c.put_column.ensures.size c.put_column.ensures.others
          (record { weights = told.weights; are_weights = told.are_weights; each = c.in_ok-put_column.ensures.weights told.weights told.firsts told.givens }) i.wide;
    }
