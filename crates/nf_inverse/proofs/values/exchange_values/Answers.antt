use Rattle.std.proofs.Common.{◌<◌, length, refl, sym, ◌∙◌, ap₂, subst, arith, true, false}
use Rattle.std.proofs.lemmas.List.{get_or_read}
use Rattle.nf_num.specs.Rational.{one_ℚ, ◌-ℚ◌, ◌*ℚ◌, inv_ℚ}
use Rattle.nf_frac.specs.declared.Op.TheVariants.{Add}
use Rattle.nf_sums.specs.Terms.{Is}
use Rattle.nf_sums.specs.Rows.{update_terms}
use Rattle.nf_sums.proofs.Up.{handed_on}
use Rattle.nf_sums.proofs.Laws.{wider, update_passed, quotient_added, passes_from}
use Rattle.nf_inverse.specs.Causes.{RatioTerms, ValueTerms}
use Rattle.nf_inverse.specs.Causes.ValueTerms.{update, enter}
use Rattle.nf_inverse.specs.Weights.{at}
use Rattle.nf_inverse.proofs.Updates.{ratio_of_values}
use Rattle.nf_inverse.proofs.values.exchange_values.Goals as goal

pub returns-in_err-change-clause-passed : goal.returns-in_err-change-clause-passed
returns-in_err-change-clause-passed g c =
    let below : c.args.leaving < length c.args.entries.now = omega (arith, c.requires) in
    handed_on c.from_residual.result _ _ c.from_residual.ensures.1
    (wider (RatioTerms c.index-values-leaving.result c.args.bound c.index-entries-leaving.result) (ValueTerms c.args.values.now (at c.args.entries.now) c.args.leaving c.args.bound c.args.start) _
    (ratio_of_values c.args.values.now (at c.args.entries.now) c.args.leaving c.args.bound c.args.start _ _ (get_or_read c.args.values.now c.args.leaving _ c.requires.slot c.index-values-leaving.is _) (get_or_read c.args.entries.now c.args.leaving _ below c.index-entries-leaving.is _))
    c.in_err-change.ensures.passed)

pub returns-in_err-entered-clause-passed : goal.returns-in_err-entered-clause-passed
returns-in_err-entered-clause-passed g c =
    let below : c.args.leaving < length c.args.entries.now = omega (arith, c.requires) in
    let old = get_or_read c.args.values.now c.args.leaving _ c.requires.slot c.index-values-leaving.is _ in
    let pivot = get_or_read c.args.entries.now c.args.leaving _ below c.index-entries-leaving.is _ in
    handed_on c.from_residual-in_err-entered.result _ _ c.from_residual-in_err-entered.ensures.1
    (wider (Is (update_terms c.args.start false one_ℚ (at c.args.values.now c.args.leaving -ℚ c.args.bound) (at c.args.entries.now c.args.leaving))) (ValueTerms c.args.values.now (at c.args.entries.now) c.args.leaving c.args.bound c.args.start) _ (λ t e. subst (ValueTerms c.args.values.now (at c.args.entries.now) c.args.leaving c.args.bound c.args.start) (sym e) enter)
    (quotient_added c.args.start (at c.args.values.now c.args.leaving -ℚ c.args.bound) (at c.args.entries.now c.args.leaving) _ _ _ refl (c.in_ok-change.ensures.value ∙ ap₂ (λ v e. (v -ℚ c.args.bound) *ℚ inv_ℚ e) old pivot) c.in_err-entered.ensures.passed.0 (passes_from Add _ _ _ c.in_err-entered.ensures.passed.0 c.in_err-entered.ensures.passed.1)))

pub returns-in_err-sub_multiple-clause-passed : goal.returns-in_err-sub_multiple-clause-passed
returns-in_err-sub_multiple-clause-passed g c =
    let below : c.args.leaving < length c.args.entries.now = omega (arith, c.requires) in
    let old = get_or_read c.args.values.now c.args.leaving _ c.requires.slot c.index-values-leaving.is _ in
    let pivot = get_or_read c.args.entries.now c.args.leaving _ below c.index-entries-leaving.is _ in
    let step = c.in_err-sub_multiple.ensures.passed in
    let s = step.0 in
    handed_on c.from_residual-in_err-sub_multiple.result _ _ c.from_residual-in_err-sub_multiple.ensures.1
    (wider (Is (update_terms (at c.args.values.now s) true (at c.args.entries.now s) (at c.args.values.now c.args.leaving -ℚ c.args.bound) (at c.args.entries.now c.args.leaving))) (ValueTerms c.args.values.now (at c.args.entries.now) c.args.leaving c.args.bound c.args.start) _ (λ t e. subst (ValueTerms c.args.values.now (at c.args.entries.now) c.args.leaving c.args.bound c.args.start) (sym e) (update s step.1))
    (update_passed (at c.args.values.now s) (at c.args.entries.now s) (at c.args.values.now c.args.leaving -ℚ c.args.bound) (at c.args.entries.now c.args.leaving) _ _ _ _ refl refl (c.in_ok-change.ensures.value ∙ ap₂ (λ v e. (v -ℚ c.args.bound) *ℚ inv_ℚ e) old pivot) step.2))
