-- Rows whose dual is 0 play no part in a reduced cost: what passes in it passes in the row without them.
use Rattle.std.proofs.Common.{◌≡◌, inl, inr, ⊎_elim, ℕ, zero, suc, ◌≤◌, ◌+◌, refl, ◌∙◌, ap, subst, arith, Bool, true, false}
use Rattle.std.specs.Prelude.{if◌then◌else◌}
use Rattle.nf_num.specs.Rational.{ℚ, zero_ℚ, ◌+ℚ◌, ◌*ℚ◌, neg_ℚ}
use Rattle.nf_num.specs.Sum.{sum_ℚ}
use Rattle.nf_num.proofs.Laws.{zero_mul}
use Rattle.nf_num.proofs.Rewrites.{add_zero}
use Rattle.nf_num.proofs.Sums.{sum-split, sum_of_zeros}
use Rattle.nf_frac.specs.declared.Op.{Op}
use Rattle.nf_frac.specs.declared.Op.TheVariants.{Add, Sub, Mul, Div}
use Rattle.nf_frac.specs.declared.Passed.{Passed}
use Rattle.nf_frac.specs.Range.{Passes}
use Rattle.nf_simplex.proofs.Orders.{less_or_not}
use Rattle.nf_simplex.proofs.Sum.{neg-zero}
use Rattle.nf_sums.specs.Terms.{Terms, value_of, chosen_sum, with_sign, IsUpToSign, AreFactors, AreSums, ArisesIn, PassesIn, Is}
use Rattle.nf_sums.specs.Rows.{reduced_cost_terms}
use Rattle.nf_duals.proofs.ZeroFits.{zero_fits, fits_zero}

-- a sum whose terms are 0 from m on
pub sum_cut : (m k : ℕ) (f : ℕ → ℚ) → ((i : ℕ) → m ≤ i → f i ≡ zero_ℚ) → sum_ℚ (m + k) f ≡ sum_ℚ m f
sum_cut m k f h = sum-split m k f ∙ ap (λ z. sum_ℚ m f +ℚ z) (sum_of_zeros k (λ i. f (m + i)) (λ i b. h (m + i) (omega arith))) ∙ add_zero (sum_ℚ m f)

negated_zero : (y : ℚ) → y ≡ zero_ℚ → neg_ℚ y ≡ zero_ℚ
negated_zero y e = ap neg_ℚ e ∙ neg-zero

zero_up_to_sign : (a x : ℚ) → a ≡ zero_ℚ → IsUpToSign a x → x ≡ zero_ℚ
zero_up_to_sign a x e (inl h) = h ∙ e
zero_up_to_sign a x e (inr h) = h ∙ negated_zero a e

-- the terms from the m-th row on are 0
term_zero : (c : ℚ) (n m : ℕ) (y a : ℕ → ℚ) → ((i : ℕ) → m ≤ i → y i ≡ zero_ℚ) → (chosen : ℕ → Bool) (k : ℕ) → suc m ≤ k → (if chosen k then value_of ((reduced_cost_terms c n y a).term k) else zero_ℚ) ≡ zero_ℚ
term_zero c n m y a h chosen zero b = absurd (omega arith)
term_zero c n m y a h chosen (suc i) b = sides (chosen (suc i))
  where
    sides : (d : Bool) → (if d then neg_ℚ (y i) *ℚ a i else zero_ℚ) ≡ zero_ℚ
    sides true = ap (λ z. z *ℚ a i) (negated_zero (y i) (h i (omega arith))) ∙ zero_mul (a i)
    sides false = refl

chosen_cut : (c : ℚ) (m k : ℕ) (y a : ℕ → ℚ) → ((i : ℕ) → m ≤ i → y i ≡ zero_ℚ) → (chosen : ℕ → Bool) → chosen_sum (reduced_cost_terms c (m + k) y a) chosen ≡ chosen_sum (reduced_cost_terms c m y a) chosen
chosen_cut c m k y a h chosen =
    ap (λ n. sum_ℚ n (λ i. if chosen i then value_of ((reduced_cost_terms c m y a).term i) else zero_ℚ)) (let e : suc (m + k) ≡ suc m + k = omega arith in e)
    ∙ sum_cut (suc m) k (λ i. if chosen i then value_of ((reduced_cost_terms c m y a).term i) else zero_ℚ) (term_zero c m m y a h chosen)

sums_cut : (c : ℚ) (m k : ℕ) (y a : ℕ → ℚ) → ((i : ℕ) → m ≤ i → y i ≡ zero_ℚ) → (u v : ℚ) → AreSums (reduced_cost_terms c (m + k) y a) u v → AreSums (reduced_cost_terms c m y a) u v
sums_cut c m k y a h u v s = record {
  some = s.some;
  others = s.others;
  apart = s.apart;
  turned = s.turned;
  left_is = s.left_is ∙ ap (with_sign s.turned) (chosen_cut c m k y a h s.some);
  right_is = s.right_is ∙ ap (with_sign s.turned) (chosen_cut c m k y a h s.others);
}

-- no product with a factor 0 passes
pub no_zero_factor : (a b u v : ℚ) → a ≡ zero_ℚ → AreFactors a b u v → Passes Mul u v → ⊥
no_zero_factor a b u v e (inl f) p = p (zero_fits u v (zero_up_to_sign a u e f.0))
no_zero_factor a b u v e (inr f) p = p (fits_zero u v (zero_up_to_sign a v e f.0))

arises_cut : (c : ℚ) (m k : ℕ) (y a : ℕ → ℚ) → ((i : ℕ) → m ≤ i → y i ≡ zero_ℚ) → (op : Op) (u v : ℚ) → Passes op u v → ArisesIn (reduced_cost_terms c (m + k) y a) op u v → ArisesIn (reduced_cost_terms c m y a) op u v
arises_cut c m k y a h Add u v p s = sums_cut c m k y a h u v s
arises_cut c m k y a h Sub u v p s = sums_cut c m k y a h u (neg_ℚ v) s
arises_cut c m k y a h Mul u v p (zero, b, f) = absurd f
arises_cut c m k y a h Mul u v p (suc i, b, f) = ⊎_elim (λ l. (suc i, l, f)) (λ l. absurd (no_zero_factor (neg_ℚ (y i)) (a i) u v (negated_zero (y i) (h i (omega arith))) f p)) (less_or_not (suc i) (suc m))
arises_cut c m k y a h Div u v p (zero, b, f) = absurd f
arises_cut c m k y a h Div u v p (suc i, b, f) = absurd f

pub trailing : (c : ℚ) (m k : ℕ) (y a : ℕ → ℚ) (q : Passed) → ((i : ℕ) → m ≤ i → y i ≡ zero_ℚ) → PassesIn (Is (reduced_cost_terms c (m + k) y a)) q → PassesIn (Is (reduced_cost_terms c m y a)) q
trailing c m k y a q h p = record {
  passes = p.passes;
  row = reduced_cost_terms c m y a;
  is_one = refl;
  arises = arises_cut c m k y a h q.op q.left q.right p.passes (subst (λ (t : Terms). ArisesIn t q.op q.left q.right) p.is_one p.arises);
}
