use Rattle.nf_prob.proofs.Arises.{combined_in_cost, cost_passed}
use Rattle.nf_sums.proofs.Up.{handed_on}
use Rattle.nf_prob.proofs.check.reduced_cost_at.Goals as goal

pub returns-in_err-combination-clause-passed : goal.returns-in_err-combination-clause-passed
returns-in_err-combination-clause-passed g c = handed_on c.from_residual.result _ _ c.from_residual.ensures.1 (combined_in_cost c.args.p.now c.args.y.now _ c.in_err-combination.ensures.passed)

pub returns-in_err-d-clause-passed : goal.returns-in_err-d-clause-passed
returns-in_err-d-clause-passed g c = handed_on c.from_residual-in_err-d.result _ _ c.from_residual-in_err-d.ensures.1 (cost_passed c.args.p.now c.args.y.now c.args.j _ _ _ c.requires.within c.cost_at.ensures c.in_ok-combination.ensures.value c.in_err-d.ensures.passed)
