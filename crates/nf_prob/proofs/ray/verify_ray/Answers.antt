use Rattle.std.proofs.Common.{subst, subst₂}
use Rattle.nf_num.specs.Rational.{◌≤ℚ◌, ◌<ℚ◌}
use Rattle.nf_prob.specs.declared.cert.Why.TheVariants.{Rate}
use Rattle.nf_prob.proofs.Answered.{ray_infeasible, ray_no, ray_yes}
use Rattle.nf_prob.proofs.Arises.{rate_in_ray, rest_in_ray, row_in_ray}
use Rattle.nf_prob.proofs.Signs.{not_less}
use Rattle.nf_sums.proofs.Up.{handed_on}
use Rattle.nf_prob.proofs.ray.verify_ray.Goals as goal

pub returns-in_err-why-clause-passed : goal.returns-in_err-why-clause-passed
returns-in_err-why-clause-passed g c = handed_on c.from_residual.result _ _ c.from_residual.ensures.1 (rest_in_ray c.args.p.now c.args.x.now c.args.r.now _ c.in_err-why.ensures.passed)

pub returns-in-Some-clause-value : goal.returns-in-Some-clause-value
returns-in-Some-clause-value g c = ray_infeasible c.args.p.now c.args.x.now c.args.r.now c.in-Some.why (rw c.in-Some.is at c.in_ok-why.ensures.value)

pub returns-in_err-i-clause-passed : goal.returns-in_err-i-clause-passed
returns-in_err-i-clause-passed g c = handed_on c.from_residual-in_err-i.result _ _ c.from_residual-in_err-i.ensures.1 (row_in_ray c.args.p.now c.args.x.now c.args.r.now _ c.in_err-i.ensures.passed)

pub returns-in_err-rate-clause-passed : goal.returns-in_err-rate-clause-passed
returns-in_err-rate-clause-passed g c = handed_on c.from_residual-in_err-rate.result _ _ c.from_residual-in_err-rate.ensures.1 (rate_in_ray c.args.p.now c.args.x.now c.args.r.now _ c.in_err-rate.ensures.passed)

pub returns-then-is_less-clause-value : goal.returns-then-is_less-clause-value
returns-then-is_less-clause-value g c =
    ray_yes c.args.p.now c.args.x.now c.args.r.now _ (record {
      feasible = rw c.in_default.is at c.in_ok-why.ensures.value;
      one_each = c.requires.ray;
      free = c.in_default-first_stopped.ensures;
      rows_keep = rw c.in_default-2.is at c.in_ok-i.ensures.value;
      lowers = subst₂ (λ a b. a <ℚ b) c.in_ok-rate.ensures.value c.zero.ensures (c.is_less.ensures.0 c.if-is_less.true);
    }) c.in_ok-rate.ensures.value

pub returns-else-is_less-clause-value : goal.returns-else-is_less-clause-value
returns-else-is_less-clause-value g c =
    ray_no c.args.p.now c.args.x.now c.args.r.now (Rate c.in_ok-rate.rate) (
      rw c.in_default.is at c.in_ok-why.ensures.value,
      c.in_default-first_stopped.ensures,
      rw c.in_default-2.is at c.in_ok-i.ensures.value,
      c.in_ok-rate.ensures.value,
      subst (λ z. z ≤ℚ c.in_ok-rate.rate) c.zero.ensures (not_less _ _ _ c.is_less.ensures c.if-is_less.false),
    )
