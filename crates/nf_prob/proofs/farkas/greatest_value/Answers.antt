use Rattle.std.proofs.Common.{◌≡◌, ◌∙◌, ◌<◌, ap, ap₂, subst, sym, length, arith}
use borrow.Author.Count.{below_more}
use Rattle.nf_num.specs.Rational.{◌+ℚ◌, ◌*ℚ◌}
use Rattle.nf_num.specs.Sum.{sum_ℚ}
use Rattle.nf_num.proofs.Sums.{sum-zero, sum_more}
use Rattle.nf_model.specs.Certificate.{combined}
use Rattle.nf_model.specs.Farkas.{ColumnIsBounded}
use Rattle.nf_model.specs.Program.{HoldsBelow}
use Rattle.nf_prob.specs.Greatest.{IsShare}
use Rattle.nf_prob.specs.Highest.{highest_at, highest_sum}
use Rattle.nf_prob.proofs.Answered.{greatest_found}
use Rattle.nf_prob.proofs.Arises.{combined_in_farkas, greatest_in_farkas}
use Rattle.nf_sums.proofs.Up.{handed_on}
use Rattle.nf_prob.proofs.farkas.greatest_value.Goals as goal

pub loop-j-init : goal.loop-j-init
loop-j-init g c = record { bounded = λ k h. absurd (omega arith); total = c.zero-total.ensures ∙ sym (sum-zero _) }

pub returns-in_err-share-clause-passed : goal.returns-in_err-share-clause-passed
returns-in_err-share-clause-passed g c = handed_on c.from_residual.result _ _ c.from_residual.ensures.1 (combined_in_farkas c.args.p.now c.args.y.now _ c.in_err-share.ensures.passed)

pub returns-in_err-total-clause-passed : goal.returns-in_err-total-clause-passed
returns-in_err-total-clause-passed g c =
    let s : IsShare c.args.p.now (combined c.args.p.now c.args.y.now) c.loop-j.j c.in-Some.share = rw c.in-Some.is at c.in_ok-share.ensures.value in
    let below : c.loop-j.j < length c.args.p.now.columns = omega arith in
    handed_on c.from_residual-in_err-total.result _ _ c.from_residual-in_err-total.ensures.1 (greatest_in_farkas c.args.p.now c.args.y.now c.loop-j.j _ _ _ _ below c.loop-j.invariant.total s.weight s.place c.in_err-total.ensures.passed)

pub loop-j-preserved : goal.loop-j-preserved
loop-j-preserved g c =
    let s : IsShare c.args.p.now (combined c.args.p.now c.args.y.now) c.loop-j.j c.in-Some.share = rw c.in-Some.is at c.in_ok-share.ensures.value in
    record {
      bounded = below_more (ColumnIsBounded c.args.p.now (combined c.args.p.now c.args.y.now)) _ c.loop-j.invariant.bounded s.bounded;
      total = c.in_ok-total.ensures.value ∙ ap₂ ◌+ℚ◌ c.loop-j.invariant.total (ap₂ ◌*ℚ◌ s.weight s.place) ∙ sym (sum_more _ _);
    }

pub returns-clause-value : goal.returns-clause-value
returns-clause-value g c =
    let whole : c.loop-j.j ≡ length c.args.p.now.columns = omega arith in
    let bounded : HoldsBelow (length c.args.p.now.columns) (ColumnIsBounded c.args.p.now (combined c.args.p.now c.args.y.now)) = subst (λ n. HoldsBelow n (ColumnIsBounded c.args.p.now (combined c.args.p.now c.args.y.now))) whole c.loop-j.invariant.bounded in
    let total : c.loop-j.total ≡ highest_sum c.args.p.now (combined c.args.p.now c.args.y.now) = c.loop-j.invariant.total ∙ ap (λ n. sum_ℚ n (λ k. combined c.args.p.now c.args.y.now k *ℚ highest_at c.args.p.now (combined c.args.p.now c.args.y.now) k)) whole in
    (greatest_found c.args.p.now (combined c.args.p.now c.args.y.now) _ c.columns-j-end.ensures.problem bounded total, total)
