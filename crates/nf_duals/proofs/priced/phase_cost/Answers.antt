use Rattle.std.proofs.Common.{◌≡◌, ◌∙◌, ◌+◌, ◌-◌, ◌<◌, ◌≤◌, ap, ap₂, subst, arith, length}
use Rattle.nf_num.specs.Rational.{neg_ℚ, ◌*ℚ◌, ◌-ℚ◌}
use Rattle.nf_model.specs.Certificate.{combined}
use Rattle.nf_model.specs.Program.{at, row}
use Rattle.nf_prob.specs.Reduced.{ReducedTerms}
use Rattle.nf_sums.specs.Terms.{PassesIn}
use Rattle.nf_sums.proofs.Up.{handed_on}
use Rattle.nf_simplex.specs.Columns.{slack_sign}
use Rattle.nf_simplex.specs.Standing.{costs_of}
use Rattle.nf_basis.specs.Names.{phase_of}
use Rattle.nf_duals.proofs.PricedFacts.{given_passed, reduced_given, reduced_slack}
use Rattle.nf_duals.proofs.priced.phase_cost.Goals as goal

pub returns-in_err-d-clause-passed : goal.returns-in_err-d-clause-passed
returns-in_err-d-clause-passed g c s d =
    let p = c.args.p.now in
    let y = c.args.duals.now in
    let cost = c.given_cost.result in
    let same : c.args.k + 1 - 1 ≡ c.args.k = omega arith in
    let within : c.args.k < length p.columns = omega (arith, c.if-k-columns.true, c.columns.ensures.number) in
    handed_on c.from_residual.result _ _ c.from_residual.ensures.1
    (given_passed p s c.args.phase y c.args.k cost _ c.columns.ensures.problem within d (c.given_cost.ensures ∙ ap (costs_of p (phase_of c.args.phase)) same) (subst (λ n. PassesIn (ReducedTerms p cost y n) c.in_err-d.field-0.0) same c.in_err-d.ensures.passed))

pub returns-then-k-columns-clause-value : goal.returns-then-k-columns-clause-value
returns-then-k-columns-clause-value g c s e =
    let p = c.args.p.now in
    let y = c.args.duals.now in
    let cost = c.given_cost.result in
    let same : c.args.k + 1 - 1 ≡ c.args.k = omega arith in
    let within : c.args.k < length p.columns = omega (arith, c.if-k-columns.true, c.columns.ensures.number) in
    reduced_given p s (phase_of c.args.phase) y c.args.k cost _ c.columns.ensures.problem within e (c.given_cost.ensures ∙ ap (costs_of p (phase_of c.args.phase)) same) (c.in_ok-d.ensures.value ∙ ap (λ n. cost -ℚ combined p y n) same)

pub returns-clause-value : goal.returns-clause-value
returns-clause-value g c s e =
    let p = c.args.p.now in
    let y = c.args.duals.now in
    let same : c.slack_row-row.result - 1 ≡ p.nodes + (c.args.k - length p.columns) = omega (arith, c.slack_row-row.ensures.row) in
    let past : length p.columns ≤ c.args.k = omega (arith, c.if-k-columns.false, c.columns.ensures.number) in
    c.slack_cost.ensures
    ∙ ap₂ (λ a b. neg_ℚ (a *ℚ slack_sign b)) (c.dual_at.ensures ∙ ap (at y) same) (c.kind.ensures ∙ ap (λ n. (row p n).kind) same)
    ∙ reduced_slack p s (phase_of c.args.phase) y c.args.k past c.requires.within e
