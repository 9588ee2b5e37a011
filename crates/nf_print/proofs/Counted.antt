-- Coefficients, one constraint more.
use Rattle.std.proofs.Common.{◌≡◌, ◌∙◌, ◌+◌, ◌-◌, ℕ, suc, refl, ap, sym, subst, arith}
use Rattle.std.specs.Prelude.{count_by}
use Rattle.nf_model.specs.Program.{LinearProgram}
use Rattle.nf_prob.specs.Numbers.{row_list}
use Rattle.nf_print.specs.Sizes.{coefficients_in, has_value}

pub none-counted : (p : LinearProgram) → coefficients_in p 0 ≡ 0
unfolding coefficients_in
none-counted p = refl

pub one-more : (p : LinearProgram) (k : ℕ) → coefficients_in p (k + 1) ≡ coefficients_in p k + count_by has_value (row_list p (p.nodes + k))
unfolding coefficients_in
one-more p k = subst (λ n. coefficients_in p n ≡ coefficients_in p k + count_by has_value (row_list p (p.nodes + k))) (let e : suc k ≡ k + 1 = omega arith in e) refl

pub counted-more : (p : LinearProgram) (nodes k total count sum : ℕ) → nodes ≡ p.nodes → count ≡ count_by has_value (row_list p (nodes + k + 1 - 1)) → total ≡ coefficients_in p k → sum ≡ total + count → sum ≡ coefficients_in p (k + 1)
counted-more p nodes k total count sum e c t is =
    is ∙ (ap (λ x. x + count) t
    ∙ (ap (λ y. coefficients_in p k + y) (c ∙ ap (λ i. count_by has_value (row_list p i)) (let d : nodes + k + 1 - 1 ≡ p.nodes + k = omega (arith, e) in d))
    ∙ sym (one-more p k)))
