-- An operation that arises in a part of a row arises in the row.
use Rattle.std.proofs.Common.{◌≡◌, inl, inr, ⊎_elim, ℕ, ◌<◌, refl, sym, ◌∙◌, ap, subst, Bool, true, false, IsTrue, []}
use Rattle.std.specs.Prelude.{if◌then◌else◌}
use Rattle.nf_num.specs.Rational.{ℚ, zero_ℚ, ◌*ℚ◌, neg_ℚ}
use Rattle.nf_num.specs.Sum.{sum_ℚ}
use Rattle.nf_num.proofs.Sums.{sum_same, sum-neg}
use Rattle.nf_num.proofs.Rewrites.{neg_neg, neg_mul}
use Rattle.nf_num.proofs.Field.{ring, codes}
use Rattle.nf_num.proofs.Laws.{mul_comm}
use Rattle.nf_frac.specs.declared.Op.{Op}
use Rattle.nf_frac.specs.declared.Op.TheVariants.{Add, Sub, Mul, Div}
use Rattle.nf_sums.specs.Terms.{Term, Terms, value_of, IsUpToSign, IsOnFactors, chosen_sum, with_sign, AreSums, ArisesIn}
use Rattle.nf_sums.specs.Terms.Term.{Product}
use Rattle.nf_sums.proofs.Chosen.{hit, hit_from, sum_hit}

-- the terms are one, or each is the other negated, and their factors are the same up to signs
pub record IsTermOf (turned : Bool) (whole term : Term) : Type 0 where
  pub value : value_of term ≡ with_sign turned (value_of whole)
  pub factors : (op : Op) (x y : ℚ) → IsOnFactors term op x y → IsOnFactors whole op x y

-- term k of the part is term `place k` of the row, or all of them are turned, and no two have one place
pub record IsPartOf (part row : Terms) : Type 0 where
  pub place : ℕ → ℕ
  pub within : (k : ℕ) → k < part.count → place k < row.count
  pub apart : (j k : ℕ) → j < part.count → k < part.count → place j ≡ place k → j ≡ k
  pub turned : Bool
  pub term : (k : ℕ) → k < part.count → IsTermOf turned (row.term (place k)) (part.term k)

abbrev pub either_sign : Bool → Bool → Bool
either_sign true true = false
either_sign true false = true
either_sign false b = b

sign-sign : (s t : Bool) (v : ℚ) → with_sign s (with_sign t v) ≡ with_sign (either_sign s t) v
sign-sign true true v = neg_neg v
sign-sign true false v = refl
sign-sign false t v = refl

pub with_sign_back : (t : Bool) (v : ℚ) → with_sign t (with_sign t v) ≡ v
with_sign_back true v = neg_neg v
with_sign_back false v = refl

sum-sign : (t : Bool) (n : ℕ) (f : ℕ → ℚ) → sum_ℚ n (λ k. with_sign t (f k)) ≡ with_sign t (sum_ℚ n f)
sum-sign true n f = sum-neg n f
sum-sign false n f = refl

if-sign : (t b : Bool) (v w : ℚ) → v ≡ with_sign t w → (if b then v else zero_ℚ) ≡ with_sign t (if b then w else zero_ℚ)
if-sign t true v w e = e
if-sign true false v w e = ring [] (search codes) refl
if-sign false false v w e = refl

pub chosen_in_part : (part row : Terms) (p : IsPartOf part row) (chosen : ℕ → Bool) → chosen_sum part chosen ≡ with_sign p.turned (chosen_sum row (hit part.count p.place chosen))
chosen_in_part part row p chosen =
    sum_same part.count _ _ (λ k b. if-sign p.turned (chosen k) _ _ (p.term k b).value)
    ∙ sum-sign p.turned part.count (λ k. if chosen k then value_of (row.term (p.place k)) else zero_ℚ)
    ∙ ap (with_sign p.turned) (sym (sum_hit row.count part.count p.place chosen (λ j. value_of (row.term j)) p.within p.apart))

pub sums_in_part : (part row : Terms) → IsPartOf part row → (x y : ℚ) → AreSums part x y → AreSums row x y
sums_in_part part row p x y s = record {
  some = hit part.count p.place s.some;
  others = hit part.count p.place s.others;
  apart = λ j a b.
      let u = hit_from part.count p.place s.some j a in
      let v = hit_from part.count p.place s.others j b in
      s.apart u.0 u.3 (subst (λ k. IsTrue (s.others k)) (p.apart v.0 u.0 v.1 u.1 (v.2 ∙ sym u.2)) v.3);
  turned = either_sign s.turned p.turned;
  left_is = s.left_is ∙ ap (with_sign s.turned) (chosen_in_part part row p s.some) ∙ sign-sign s.turned p.turned _;
  right_is = s.right_is ∙ ap (with_sign s.turned) (chosen_in_part part row p s.others) ∙ sign-sign s.turned p.turned _;
}

pub arises_in_part : (part row : Terms) → IsPartOf part row → (op : Op) (x y : ℚ) → ArisesIn part op x y → ArisesIn row op x y
arises_in_part part row p Add x y s = sums_in_part part row p x y s
arises_in_part part row p Sub x y s = sums_in_part part row p x (neg_ℚ y) s
arises_in_part part row p Mul x y s = (p.place s.0, p.within s.0 s.1, (p.term s.0 s.1).factors Mul x y s.2)
arises_in_part part row p Div x y s = (p.place s.0, p.within s.0 s.1, (p.term s.0 s.1).factors Div x y s.2)

-- ---- terms that are one
pub same_term : (s t : Term) → s ≡ t → IsTermOf false s t
same_term s t e = subst (λ z. IsTermOf false s z) e (record { value = refl; factors = λ op x y h. h })

up-to-neg : (a x : ℚ) → IsUpToSign a x → IsUpToSign (neg_ℚ a) x
up-to-neg a x h = ⊎_elim (λ e. inr (e ∙ sym (neg_neg a))) (λ e. inl e) h

pub negated_product : (a b : ℚ) → IsTermOf true (Product (neg_ℚ a) b) (Product a b)
negated_product a b = record {
  value = sym (ap neg_ℚ (neg_mul a b) ∙ neg_neg (a *ℚ b));
  factors = factors;
}
  where
    factors : (op : Op) (x y : ℚ) → IsOnFactors (Product a b) op x y → IsOnFactors (Product (neg_ℚ a) b) op x y
    factors Mul x y h = ⊎_elim (λ f. inl (up-to-neg a x f.0, f.1)) (λ f. inr (up-to-neg a y f.0, f.1)) h
    factors Add x y h = h
    factors Sub x y h = h
    factors Div x y h = h

pub swapped_product : (a b : ℚ) → IsTermOf false (Product b a) (Product a b)
swapped_product a b = record { value = mul_comm a b; factors = factors }
  where
    factors : (op : Op) (x y : ℚ) → IsOnFactors (Product a b) op x y → IsOnFactors (Product b a) op x y
    factors Mul x y h = ⊎_elim (λ f. inr (f.1, f.0)) (λ f. inl (f.1, f.0)) h
    factors Add x y h = h
    factors Sub x y h = h
    factors Div x y h = h
