use Rattle.nf_prob.proofs.Answered.{best_infeasible, best_yes}
use Rattle.nf_prob.proofs.Arises.{rest_in_best, cost_in_best, total_in_best}
use Rattle.nf_sums.proofs.Up.{handed_on}
use Rattle.nf_prob.proofs.check.verify_best.Goals as goal

pub returns-in_err-why-clause-passed : goal.returns-in_err-why-clause-passed
returns-in_err-why-clause-passed g c = handed_on c.from_residual.result _ _ c.from_residual.ensures.1 (rest_in_best c.args.p.now c.args.x.now c.args.y.now _ c.in_err-why.ensures.passed)

pub returns-in-Some-clause-value : goal.returns-in-Some-clause-value
returns-in-Some-clause-value g c = best_infeasible c.args.p.now c.args.x.now c.args.y.now c.in-Some.why (rw c.in-Some.is at c.in_ok-why.ensures.value)

pub returns-in_err-j-clause-passed : goal.returns-in_err-j-clause-passed
returns-in_err-j-clause-passed g c = handed_on c.from_residual-in_err-j.result _ _ c.from_residual-in_err-j.ensures.1 (cost_in_best c.args.p.now c.args.x.now c.args.y.now _ c.in_err-j.ensures.passed)

pub returns-in_err-i-clause-passed : goal.returns-in_err-i-clause-passed
returns-in_err-i-clause-passed g c = handed_on c.from_residual-in_err-i.result _ _ c.from_residual-in_err-i.ensures.1 (rest_in_best c.args.p.now c.args.x.now c.args.y.now _ c.in_err-i.ensures.passed)

pub returns-in_err-cost-clause-passed : goal.returns-in_err-cost-clause-passed
returns-in_err-cost-clause-passed g c = handed_on c.from_residual-in_err-cost.result _ _ c.from_residual-in_err-cost.ensures.1 (total_in_best c.args.p.now c.args.x.now c.args.y.now _ c.in_err-cost.ensures.passed)

pub returns-clause-value : goal.returns-clause-value
returns-clause-value g c =
    best_yes c.args.p.now c.args.x.now c.args.y.now _ (record {
      feasible = rw c.in_default.is at c.in_ok-why.ensures.value;
      one_each = c.requires.duals;
      costs_fit = rw c.in_default-2.is at c.in_ok-j.ensures.value;
      duals_fit = rw c.in_default-3.is at c.in_ok-i.ensures.value;
    }) c.in_ok-cost.ensures.value
