use Rattle.std.proofs.Common.{◌∙◌, ap, ◌-◌, ◌<◌, length, arith}
use Rattle.nf_num.specs.Rational.{◌-ℚ◌}
use Rattle.nf_prob.proofs.ColumnSums.{combined_taken, weight_taken, value_taken}
use Rattle.nf_prob.proofs.ReducedSums.{reduced_passed}
use Rattle.nf_sums.proofs.Up.{handed_on}
use Rattle.nf_prob.proofs.reduced.reduced_by.Goals as goal

pub sub_products-requires : goal.sub_products-requires
sub_products-requires g c = record { given = λ k h. (h, (c.entries-entries.ensures.in_range k _ h).0) }

pub returns-in_err-d-clause-passed : goal.returns-in_err-d-clause-passed
returns-in_err-d-clause-passed g c =
    let e = c.entries-entries in
    let within : c.args.j - 1 < length c.args.p.now.columns = omega (arith, c.requires.number.0, c.requires.number.1) in
    handed_on c.from_residual.result _ _ c.from_residual.ensures.1 (reduced_passed c.args.p.now c.args.cost c.args.duals.now (c.args.j - 1) e.result.now _ e.ensures.problem within e.ensures.entries (c.in_err-d.ensures.passed (weight_taken c.args.duals.now e.result.now) (value_taken e.result.now) (λ k t h p. p)))

pub returns-clause-value : goal.returns-clause-value
returns-clause-value g c =
    let e = c.entries-entries in
    let within : c.args.j - 1 < length c.args.p.now.columns = omega (arith, c.requires.number.0, c.requires.number.1) in
    c.in_ok-d.ensures.value (weight_taken c.args.duals.now e.result.now) (value_taken e.result.now) (λ k t h p. p)
    ∙ ap (λ z. c.args.cost -ℚ z) (combined_taken c.args.p.now c.args.duals.now (c.args.j - 1) e.result.now e.ensures.problem within e.ensures.entries)
