use Rattle.std.proofs.Common.{◌≡◌, ◌-◌, ◌<◌, length, sym, arith}
use Rattle.std.proofs.lemmas.List.{get_or_read_under}
use Rattle.nf_num.specs.Rational.{zero_ℚ}
use Rattle.nf_model.specs.Program.{at}
use Rattle.nf_sums.proofs.Up.{handed_on}
use Rattle.nf_figures.proofs.Arising.{cost-passed}
use Rattle.nf_figures.proofs.columns.flow_cost.Goals as goal

pub returns-in_err-cost-clause-passed : goal.returns-in_err-cost-clause-passed
returns-in_err-cost-clause-passed g c s given =
    let k = c.args.j - 1 in
    let within : c.args.j - 1 < length c.args.p.now.columns = omega (arith, c.requires.number.0, c.requires.number.1) in
    let here : c.args.j - 1 < length c.args.flows.now = omega (arith, within, c.requires.values) in
    handed_on c.from_residual.result _ _ c.from_residual.ensures.1
    (cost-passed c.args.p.now s c.args.flows.now given k c.own_cost.result c.index-flows-j.result _ within c.own_cost.ensures (get_or_read_under c.args.flows.now k (length c.args.flows.now) _ zero_ℚ c.index-flows-j.is here (omega arith)) c.in_err-cost.ensures.passed)
