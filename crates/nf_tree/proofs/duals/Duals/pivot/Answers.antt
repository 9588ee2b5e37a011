use Rattle.std.proofs.Common.{◌≡◌, ◌⊎◌, ◌<◌, ◌+◌, ◌-◌, suc, length, get_or, refl, sym, ap, ap₂, ◌∙◌, subst, arith, rules, true}
use Rattle.std.proofs.lemmas.List.{with_items_is}
use Rattle.nf_num.specs.Rational.{ℚ, one_ℚ, neg_ℚ, ◌*ℚ◌, inv_ℚ}
use Rattle.nf_model.specs.Program.{at}
use Rattle.nf_sums.proofs.Up.{handed_on}
use Rattle.nf_simplex.specs.Layout.{layout_of}
use Rattle.nf_simplex.specs.Standing.{stage_of, AreDualsOf}
use Rattle.nf_simplex.proofs.Numbered.{number_within}
use Rattle.nf_basis.specs.Names.{col_of, phase_of}
use Rattle.nf_basis.specs.Kept.{number}
use Rattle.nf_basis.specs.Numbers.{in_slot, slot_number}
use Rattle.nf_basis.specs.Duals.{after_pivot, less_paid}
use Rattle.nf_basis.proofs.Priced.{price_arises, price_is_reduced}
use Rattle.nf_tree.specs.Duals.{IsRaisedBelow, PassesRaised}
use Rattle.nf_tree.specs.Network.{turn}
use Rattle.nf_tree.specs.Vertices.{tail_at}
use Rattle.nf_tree.proofs.Slotted.{rows_are}
use Rattle.nf_tree.proofs.Moved.{duals_raised, duals_stay, entry_is_unit, raise_arises}
use Rattle.nf_tree.proofs.duals.Duals.pivot.Goals as goal

pub returns-in_err-d-clause-passed : goal.returns-in_err-d-clause-passed
returns-in_err-d-clause-passed g c =
    let p = c.args.p.now in
    let s = c.args.state.now.standing in
    let phase = phase_of c.args.phase in
    let same = c.as_slice.ensures.value in
    let known : c.args.self.now.known ≡ true = search rules in
    handed_on c.from_residual.result _ _ c.from_residual.ensures.1
    (price_arises p s phase c.as_slice.result.now (ap length same ∙ (c.requires.kept.one_each ∙ sym (rows_are p s c.requires.stage))) (number p c.args.entering) c.cost-paid.result c.cost-paid.ensures (number_within (layout_of p) s.stage (col_of c.args.entering) c.requires.state.problem.arcs_within c.requires.entering.0.1)
    (subst (λ ys. AreDualsOf p s phase (at ys)) (sym same) (c.requires.kept.are known)) _ c.in_err-d.ensures.passed)

pub returns-then-is_zero-clause-kept : goal.returns-then-is_zero-clause-kept
returns-then-is_zero-clause-kept g c to bound =
    let p = c.args.p.now in
    let s = c.args.state.now.standing in
    let phase = phase_of c.args.phase in
    let y = c.args.self.now.by_row.items in
    let e = number p c.args.entering in
    let r = c.requires in
    let known : c.args.self.now.known ≡ true = search rules in
    let nodes = rows_are p s r.stage in
    let d_is = c.in_ok-d.ensures.value ∙ (ap (λ ys. less_paid c.cost-paid.result ys ((stage_of p s).entry e)) c.as_slice.ensures.value ∙ price_is_reduced p s phase y (r.kept.one_each ∙ sym nodes) e c.cost-paid.result c.cost-paid.ensures) in
    record {
      one_each = r.kept.one_each;
      are = λ k. duals_stay p s c.args.slots.now r.state.problem r.stage r.listed c.args.order.now c.args.links.now r.tree r.state.fits r.basis c.args.entering r.entering c.args.slot (subst (λ n. c.args.slot < n) (sym nodes) r.within)
          c.args.entries.now r.entries r.entry phase y (r.kept.are known) c.in_ok-d.d d_is _ refl (c.is_zero.ensures.0 c.if-is_zero.true) to bound;
    }

pub over_unit-change-requires : goal.over_unit-change-requires
over_unit-change-requires g c =
    let p = c.args.p.now in
    let s = c.args.state.now.standing in
    let r = c.requires in
    record {
      unit = subst (λ a. (a ≡ one_ℚ) ⊎ (a ≡ neg_ℚ one_ℚ)) (sym c.number_in.ensures)
          (entry_is_unit p s c.args.slots.now r.state.problem r.stage r.listed c.args.order.now c.args.links.now r.tree r.state.fits r.basis c.args.entering r.entering c.args.slot (subst (λ n. c.args.slot < n) (sym (rows_are p s r.stage)) r.within)
          c.args.entries.now r.entries r.entry);
    }

pub returns-in_err-raise_below-clause-passed : goal.returns-in_err-raise_below-clause-passed
returns-in_err-raise_below-clause-passed g c =
    let p = c.args.p.now in
    let s = c.args.state.now.standing in
    let phase = phase_of c.args.phase in
    let y = c.args.self.now.by_row.items in
    let e = number p c.args.entering in
    let r = c.requires in
    let known : c.args.self.now.known ≡ true = search rules in
    let nodes = rows_are p s r.stage in
    let back : c.args.slot + 1 - 1 ≡ c.args.slot = omega arith in
    let d_is = c.in_ok-d.ensures.value ∙ (ap (λ ys. less_paid c.cost-paid.result ys ((stage_of p s).entry e)) c.as_slice.ensures.value ∙ price_is_reduced p s phase y (r.kept.one_each ∙ sym nodes) e c.cost-paid.result c.cost-paid.ensures) in
    let x_is = c.over_unit-change.ensures ∙ ap₂ (λ (a b : ℚ). a *ℚ inv_ℚ b) (c.turned.ensures ∙ ap (λ k. turn (tail_at p s) (slot_number p c.args.slots.now) k *ℚ c.in_ok-d.d) back) c.number_in.ensures in
    handed_on c.from_residual-in_err-raise_below.result _ _ c.from_residual-in_err-raise_below.ensures.1
    (raise_arises p s c.args.slots.now r.state.problem r.stage r.listed c.args.order.now c.args.links.now r.tree r.state.fits r.basis c.args.entering r.entering c.args.slot (subst (λ n. c.args.slot < n) (sym nodes) r.within)
    c.args.entries.now r.entries r.entry phase y (r.kept.are known) c.in_ok-d.d d_is c.over_unit-change.result x_is _
    (subst (λ ys. PassesRaised p.nodes ys c.over_unit-change.result c.in_err-raise_below.field-0.0) c.as_mut_slice.ensures.value c.in_err-raise_below.ensures.passed))

pub returns-clause-kept : goal.returns-clause-kept
returns-clause-kept g c to bound =
    let p = c.args.p.now in
    let s = c.args.state.now.standing in
    let phase = phase_of c.args.phase in
    let by_row = c.args.self.now.by_row in
    let y = by_row.items in
    let e = number p c.args.entering in
    let r = c.requires in
    let known : c.args.self.now.known ≡ true = search rules in
    let nodes = rows_are p s r.stage in
    let back : c.args.slot + 1 - 1 ≡ c.args.slot = omega arith in
    let top : c.args.slot + 1 ≡ suc c.args.slot = omega arith in
    let d_is = c.in_ok-d.ensures.value ∙ (ap (λ ys. less_paid c.cost-paid.result ys ((stage_of p s).entry e)) c.as_slice.ensures.value ∙ price_is_reduced p s phase y (r.kept.one_each ∙ sym nodes) e c.cost-paid.result c.cost-paid.ensures) in
    let x_is = c.over_unit-change.ensures ∙ ap₂ (λ (a b : ℚ). a *ℚ inv_ℚ b) (c.turned.ensures ∙ ap (λ k. turn (tail_at p s) (slot_number p c.args.slots.now) k *ℚ c.in_ok-d.d) back) c.number_in.ensures in
    let out = c.raise_below.new.out in
    let len : length out ≡ by_row.len = search rules in
    let same = with_items_is by_row out len in
    record {
      one_each = ap length same ∙ (len ∙ (by_row.ok.0 ∙ r.kept.one_each));
      are = λ k. subst (λ xs. AreDualsOf p (after_pivot p s c.args.entering (in_slot c.args.slots.now c.args.slot) to) phase (at xs)) (sym same)
          (duals_raised p s c.args.slots.now r.state.problem r.stage r.listed c.args.order.now c.args.links.now r.tree r.state.fits r.basis c.args.entering r.entering c.args.slot (subst (λ n. c.args.slot < n) (sym nodes) r.within)
          c.args.entries.now r.entries r.entry phase y (r.kept.are known) c.in_ok-d.d d_is c.over_unit-change.result x_is to bound out
          (subst (λ v. IsRaisedBelow p.nodes (λ u. get_or c.args.links.now.pred u 0) v c.over_unit-change.result y out) top
          (subst (λ ys. IsRaisedBelow p.nodes (λ u. get_or c.args.links.now.pred u 0) (c.args.slot + 1) c.over_unit-change.result ys out) c.as_mut_slice.ensures.value c.in_ok-raise_below.ensures.raised)));
    }
