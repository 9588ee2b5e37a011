use Rattle.std.proofs.Common.{◌-◌, ◌<◌, length, arith}
use Rattle.nf_sums.proofs.Up.{handed_on}
use Rattle.nf_figures.proofs.Arising.{reduced-passed}
use Rattle.nf_figures.proofs.columns.present_cost.Goals as goal

pub returns-in_err-d-clause-passed : goal.returns-in_err-d-clause-passed
returns-in_err-d-clause-passed g c s places pricing =
    let within : c.args.j - 1 < length c.args.p.now.columns = omega (arith, c.requires.number.0, c.requires.number.1) in
    handed_on c.from_residual.result _ _ c.from_residual.ensures.1
    (reduced-passed c.args.p.now s c.args.duals.now (c.args.j - 1) _ c.columns-few.ensures.problem within places pricing c.in_err-d.ensures.passed)
