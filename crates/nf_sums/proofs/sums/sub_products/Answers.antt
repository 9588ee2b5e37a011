use Rattle.std.proofs.Common.{refl}
use Rattle.nf_frac.specs.declared.Op.TheVariants.{Sub}
use Rattle.nf_sums.specs.Rows.{product_terms, remainder_terms}
use Rattle.nf_sums.specs.Terms.{Is}
use Rattle.nf_sums.proofs.Laws.{in_part, passes_from, products_of_remainder, remainder_passed}
use Rattle.nf_sums.proofs.Up.{handed_on}
use Rattle.nf_sums.proofs.sums.sub_products.Goals as goal

pub returns-in_err-total-clause-passed : goal.returns-in_err-total-clause-passed
returns-in_err-total-clause-passed g c = λ a b h.
    handed_on c.from_residual.result _ _ c.from_residual.ensures.1
    (in_part (product_terms c.args.count a b) (remainder_terms c.args.first c.args.count a b) (Is (remainder_terms c.args.first c.args.count a b)) _ (products_of_remainder c.args.first c.args.count a b) refl (c.in_err-total.ensures.passed a b h))

pub returns-in_err-rest-clause-passed : goal.returns-in_err-rest-clause-passed
returns-in_err-rest-clause-passed g c = λ a b h.
    handed_on c.from_residual-in_err-rest.result _ _ c.from_residual-in_err-rest.ensures.1
    (remainder_passed c.args.first c.args.count a b _ _ _ refl (c.in_ok-total.ensures.value a b h) c.in_err-rest.ensures.passed.0 (passes_from Sub _ _ _ c.in_err-rest.ensures.passed.0 c.in_err-rest.ensures.passed.1))
