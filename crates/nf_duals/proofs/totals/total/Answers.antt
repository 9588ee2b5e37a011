use Rattle.std.proofs.Common.{◌∙◌, ap, ap₂, subst, sym, length}
use Rattle.nf_num.specs.Rational.{◌*ℚ◌}
use Rattle.nf_num.specs.Sum.{sum_ℚ}
use Rattle.nf_model.specs.Program.{column}
use Rattle.nf_sums.specs.Terms.{PassesIn, Is, with_sign}
use Rattle.nf_sums.specs.Rows.{product_terms, total_terms}
use Rattle.nf_sums.proofs.Laws.{wider}
use Rattle.nf_sums.proofs.Up.{handed_on}
use Rattle.nf_basis.specs.Arising.{StateTerms}
use Rattle.nf_basis.specs.Arising.StateTerms.{cost}
use Rattle.nf_duals.proofs.totals.total.Goals as goal

pub returns-in_err-cost-clause-passed : goal.returns-in_err-cost-clause-passed
returns-in_err-cost-clause-passed g c =
    let p = c.args.p.now in
    let s = g.B.Basis.standing c.args.basis.now in
    let x = g.B.Basis.values p c.args.basis.now in
    handed_on c.from_residual.result _ _ c.from_residual.ensures.1
    (wider (Is (total_terms (length p.columns) (λ j. (column p j).cost) x)) (StateTerms p s) c.in_err-cost.field-0.0 (λ t e. subst (StateTerms p s) (sym e) (cost x (g.met.B.Basis.sound p c.args.basis.now c.requires.numbers).values))
    (subst (λ n. PassesIn (Is (product_terms n (λ j. (column p j).cost) x)) c.in_err-cost.field-0.0) c.columns.ensures.number (c.in_err-cost.ensures.passed (λ j. (column p j).cost) x (λ k t h q. q))))

pub returns-clause-total : goal.returns-clause-total
returns-clause-total g c =
    let p = c.args.p.now in
    let x = g.B.Basis.values p c.args.basis.now in (
      x,
      (g.met.B.Basis.sound p c.args.basis.now c.requires.numbers).values,
      c.in_own_sense.ensures ∙ ap₂ with_sign c.maximize.ensures (c.in_ok-cost.ensures.value (λ j. (column p j).cost) x (λ k t h q. q) ∙ ap (λ n. sum_ℚ n (λ j. (column p j).cost *ℚ x j)) c.columns.ensures.number),
    )
