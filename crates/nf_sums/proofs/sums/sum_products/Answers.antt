use Rattle.std.proofs.Common.{sym, ◌∙◌, ap₂, arith, rules}
use Rattle.nf_num.specs.Rational.{◌+ℚ◌, ◌*ℚ◌}
use Rattle.nf_num.proofs.Sums.{sum-zero, sum_more}
use Rattle.nf_sums.specs.Terms.{PassesIn, Is}
use Rattle.nf_sums.specs.Rows.{product_terms}
use Rattle.nf_sums.proofs.Laws.{product_added}
use Rattle.nf_sums.proofs.sums.sum_products.Goals as goal

pub loop-k-init : goal.loop-k-init
loop-k-init g c = record { total = λ a b h. c.zero-total.ensures ∙ sym (sum-zero _); cost = omega arith }

pub returns-in_err-total-clause-passed : goal.returns-in_err-total-clause-passed
returns-in_err-total-clause-passed g c = λ a b h.
    let here = h c.loop-k.k c.factors-a.result c.loop-k-test.true c.factors-a.ensures in
    let p : PassesIn (Is (product_terms c.args.count a b)) c.in_err-total.field-0.0 = product_added c.args.count c.loop-k.k a b _ _ _ _ c.loop-k-test.true (c.loop-k.invariant.total a b h) here.0 here.1 c.in_err-total.ensures.passed in
    search rules

pub loop-k-preserved : goal.loop-k-preserved
loop-k-preserved g c = record {
  total = λ a b h.
      let here = h c.loop-k.k c.factors-a.result c.loop-k-test.true c.factors-a.ensures in
      c.in_ok-total.ensures.value ∙ ap₂ ◌+ℚ◌ (c.loop-k.invariant.total a b h) (ap₂ ◌*ℚ◌ here.0 here.1) ∙ sym (sum_more _ _);
  cost = omega (arith, c.loop-k.invariant.cost, c.add_product.ensures.cost);
}
