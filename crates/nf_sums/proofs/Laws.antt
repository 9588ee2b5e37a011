-- Operations of a sum that is taken term by term arise in its row.
use Rattle.std.proofs.Common.{◌≡◌, inl, inr, ⊎_elim, ℕ, zero, suc, ◌<◌, ◌+◌, ◌-◌, refl, sym, ◌∙◌, ap, ap₂, subst, arith, Bool, true, false, IsTrue, ne_eqb, lt-ltb, le-ltb}
use Rattle.std.specs.Prelude.{if◌then◌else◌, nat_lt, nat_eq, not}
use native.Mathlib.Decide.{ℕ_discrete}
use Rattle.nf_num.specs.Rational.{ℚ, zero_ℚ, one_ℚ, ◌+ℚ◌, ◌-ℚ◌, ◌*ℚ◌, neg_ℚ, inv_ℚ}
use Rattle.nf_num.specs.Sum.{sum_ℚ}
use Rattle.nf_num.proofs.Laws.{zero_add, one_mul, add_comm, add_assoc}
use Rattle.nf_num.proofs.Rewrites.{neg_neg, neg_mul}
use Rattle.nf_num.proofs.Field.{ring, codes}
use Rattle.std.proofs.Common.{[], ◌∷◌}
use Rattle.nf_num.proofs.Sums.{sum-suc, sum-zero, sum_same, sum-neg}
use Rattle.nf_frac.specs.declared.Op.{Op}
use Rattle.nf_frac.specs.declared.Op.TheVariants.{Add, Sub, Mul, Div}
use Rattle.nf_frac.specs.declared.Passed.{Passed}
use Rattle.nf_frac.specs.Range.{Passes}
use Rattle.nf_sums.specs.Terms.{Term, Terms, value_of, with_sign, IsUpToSign, AreSums, ArisesIn, PassesIn, Is}
use Rattle.nf_sums.specs.Terms.Term.{Number, Product, Scaled}
use Rattle.nf_sums.specs.Rows.{number_terms, product_terms, remainder_terms, reduced_cost_terms, arc_dual_terms, joined, gap_terms, first_then, update_terms, flip_terms, quotient_terms, difference_terms}
use Rattle.nf_sums.specs.Steps.{AddsProduct, SubtractsProduct}
use Rattle.nf_sums.proofs.Chosen.{sum_below, sum_only, hit, hit_from}
use Rattle.nf_sums.proofs.Part.{IsPartOf, IsTermOf, arises_in_part, chosen_in_part, with_sign_back, negated_product, same_term}

sum_first : (n : ℕ) (f : ℕ → ℚ) → sum_ℚ (suc n) f ≡ f 0 +ℚ sum_ℚ n (λ i. f (suc i))
unfolding sum_ℚ
sum_first zero f = add_comm zero_ℚ (f 0)
sum_first (suc n) f = ap (λ z. z +ℚ f (suc n)) (sum_first n f) ∙ add_assoc (f 0) (sum_ℚ n (λ i. f (suc i))) (f (suc n))

not_both : (i k : ℕ) → IsTrue (nat_lt i k) → IsTrue (nat_eq i k) → ⊥
not_both i k a b = elim (ℕ_discrete i k) [ yes e ↦ cc (le-ltb i k (omega arith)) | no d ↦ cc (ne_eqb i k d) ]

-- the sum of the terms below k, and term k
pub next_sums : (row : Terms) (k : ℕ) (t : Bool) (x y : ℚ) → k < row.count → x ≡ with_sign t (sum_ℚ k (λ i. value_of (row.term i))) → y ≡ with_sign t (value_of (row.term k)) → AreSums row x y
next_sums row k t x y h e d = record {
  some = λ i. nat_lt i k;
  others = λ i. nat_eq i k;
  apart = λ i a b. not_both i k a b;
  turned = t;
  left_is = e ∙ ap (with_sign t) (sym (sum_below row.count k (λ i. value_of (row.term i)) (omega arith)));
  right_is = d ∙ ap (with_sign t) (sym (sum_only row.count k (λ i. value_of (row.term i)) h));
}

-- an operation that is known
pub known : (R : Terms → Type 0) (op : Op) (x y : ℚ) (p : Passed) → p ≡ record { op = op; left = x; right = y } → Passes p.op p.left p.right → (row : Terms) → R row → ArisesIn row op x y → PassesIn R p
known R op x y p e h row r a = record { passes = h; row = row; is_one = r; arises = subst (λ (q : Passed). ArisesIn row q.op q.left q.right) (sym e) a }

-- more rows
pub wider : (R S : Terms → Type 0) (p : Passed) → ((row : Terms) → R row → S row) → PassesIn R p → PassesIn S p
wider R S p h a = record { passes = a.passes; row = a.row; is_one = h a.row a.is_one; arises = a.arises }

-- a row that this one is a part of
pub in_part : (part row : Terms) (R : Terms → Type 0) (p : Passed) → IsPartOf part row → R row → PassesIn (Is part) p → PassesIn R p
in_part part row R p q r a = record { passes = a.passes; row = row; is_one = r; arises = arises_in_part part row q p.op p.left p.right (subst (λ z. ArisesIn z p.op p.left p.right) a.is_one a.arises) }

-- the next product of a sum of products
pub product_added : (n k : ℕ) (f g : ℕ → ℚ) (total a b : ℚ) (p : Passed) → k < n → total ≡ sum_ℚ k (λ i. f i *ℚ g i) → a ≡ f k → b ≡ g k → AddsProduct total a b p → PassesIn (Is (product_terms n f g)) p
product_added n k f g total a b p h e d c s = ⊎_elim factor sum s.is_one
  where
    factor : p ≡ record { op = Mul; left = a; right = b } → PassesIn (Is (product_terms n f g)) p
    factor q = known (Is (product_terms n f g)) Mul a b p q s.passes (product_terms n f g) refl (k, h, inl (inl d, inl c))

    sum : p ≡ record { op = Add; left = total; right = a *ℚ b } → PassesIn (Is (product_terms n f g)) p
    sum q = known (Is (product_terms n f g)) Add total (a *ℚ b) p q s.passes (product_terms n f g) refl (next_sums (product_terms n f g) k false total (a *ℚ b) h e (ap₂ ◌*ℚ◌ d c))

-- the negated products are all terms of a remainder but the first
pub products_of_remainder : (first : ℚ) (n : ℕ) (f g : ℕ → ℚ) → IsPartOf (product_terms n f g) (remainder_terms first n f g)
products_of_remainder first n f g = record {
  place = λ k. suc k;
  within = λ k b. omega arith;
  apart = λ j k a b e. omega arith;
  turned = true;
  term = λ k b. negated_product (f k) (g k);
}

-- the next number of a sum of numbers
pub number_added : (n k : ℕ) (f : ℕ → ℚ) (total a : ℚ) (p : Passed) → k < n → total ≡ sum_ℚ k f → a ≡ f k → p ≡ record { op = Add; left = total; right = a } → Passes p.op p.left p.right → PassesIn (Is (number_terms n f)) p
number_added n k f total a p h e d q s = known (Is (number_terms n f)) Add total a p q s (number_terms n f) refl (next_sums (number_terms n f) k false total a h e d)

-- rows that these are parts of
pub carried : (R S : Terms → Type 0) (p : Passed) → ((part : Terms) → R part → (whole : Terms) × IsPartOf part whole × S whole) → PassesIn R p → PassesIn S p
carried R S p h a = let w = h a.row a.is_one in record { passes = a.passes; row = w.0; is_one = w.2; arises = arises_in_part a.row w.0 w.1 p.op p.left p.right a.arises }

pub total_of : Terms → ℚ
total_of row = sum_ℚ row.count (λ k. value_of (row.term k))

-- the sums of two parts that have no term in common
pub sums_apart : (a b row : Terms) (p : IsPartOf a row) (q : IsPartOf b row) → ((j k : ℕ) → j < a.count → k < b.count → p.place j ≡ q.place k → ⊥) → (x y : ℚ) → x ≡ with_sign p.turned (total_of a) → y ≡ with_sign q.turned (total_of b) → AreSums row x y
unfolding total_of
sums_apart a b row p q h x y e d = record {
  some = hit a.count p.place (λ _. true);
  others = hit b.count q.place (λ _. true);
  apart = λ k u v.
      let i = hit_from a.count p.place (λ _. true) k u in
      let j = hit_from b.count q.place (λ _. true) k v in
      h i.0 j.0 i.1 j.1 (i.2 ∙ sym j.2);
  turned = false;
  left_is = e ∙ ap (with_sign p.turned) (chosen_in_part a row p (λ _. true)) ∙ with_sign_back p.turned _;
  right_is = d ∙ ap (with_sign q.turned) (chosen_in_part b row q (λ _. true)) ∙ with_sign_back q.turned _;
}

pub left_of_joined : (a b : Terms) → IsPartOf a (joined a b)
left_of_joined a b = record {
  place = λ k. k;
  within = λ k h. omega arith;
  apart = λ j k g h e. e;
  turned = false;
  term = λ k h. same_term (if nat_lt k a.count then a.term k else b.term (k - a.count)) (a.term k) (ap (λ c. if c then a.term k else b.term (k - a.count)) (lt-ltb k a.count h));
}

-- the products of the second row, which is joined with its factors negated
pub right_of_gap : (m : ℕ) (y right : ℕ → ℚ) (n : ℕ) (f g : ℕ → ℚ) → IsPartOf (product_terms n f g) (gap_terms m y right n f g)
right_of_gap m y right n f g = record {
  place = λ k. m + k;
  within = λ k h. omega arith;
  apart = λ j k a b e. omega arith;
  turned = true;
  term = λ k h. subst (λ t. IsTermOf true t (Product (f k) (g k))) (sym (there k)) (negated_product (f k) (g k));
}
  where
    there : (k : ℕ) → (gap_terms m y right n f g).term (m + k) ≡ Product (neg_ℚ (f k)) (g k)
    there k =
        ap (λ c. if c then Product (y (m + k)) (right (m + k)) else Product (neg_ℚ (f (m + k - m))) (g (m + k - m))) (le-ltb (m + k) m (omega arith))
        ∙ ap (λ (i : ℕ). Product (neg_ℚ (f i)) (g i)) (let e : m + k - m ≡ k = omega arith in e)

pub left_of_gap : (m : ℕ) (y right : ℕ → ℚ) (n : ℕ) (f g : ℕ → ℚ) → IsPartOf (product_terms m y right) (gap_terms m y right n f g)
left_of_gap m y right n f g = left_of_joined (product_terms m y right) (product_terms n (λ j. neg_ℚ (f j)) g)

-- a total less another
pub gap_passed : (m : ℕ) (y right : ℕ → ℚ) (n : ℕ) (f g : ℕ → ℚ) (a b : ℚ) (p : Passed) → a ≡ sum_ℚ m (λ i. y i *ℚ right i) → b ≡ sum_ℚ n (λ j. f j *ℚ g j) → p ≡ record { op = Sub; left = a; right = b } → Passes p.op p.left p.right → PassesIn (Is (gap_terms m y right n f g)) p
unfolding total_of left_of_gap left_of_joined right_of_gap
gap_passed m y right n f g a b p e d q h =
    known (Is (gap_terms m y right n f g)) Sub a b p q h (gap_terms m y right n f g) refl
    (sums_apart (product_terms m y right) (product_terms n f g) (gap_terms m y right n f g) (left_of_gap m y right n f g) (right_of_gap m y right n f g) (λ j k u v w. omega arith) a (neg_ℚ b) e (ap neg_ℚ d))

-- ---- a number less a sum of products
one_number : (v : ℚ) → sum_ℚ 1 (λ k. v) ≡ v
one_number v = sum-suc 0 (λ k. v) ∙ ap (λ z. z +ℚ v) (sum-zero (λ k. v)) ∙ zero_add v

pub remainder_is : (first : ℚ) (n : ℕ) (f g : ℕ → ℚ) → sum_ℚ (suc n) (λ k. value_of (first_then first (λ k. Product (neg_ℚ (f k)) (g k)) k)) ≡ first -ℚ sum_ℚ n (λ k. f k *ℚ g k)
remainder_is first n f g =
    sum_first n (λ k. value_of (first_then first (λ k. Product (neg_ℚ (f k)) (g k)) k))
    ∙ ap (λ z. first +ℚ z) (sum_same n (λ k. neg_ℚ (f k) *ℚ g k) (λ k. neg_ℚ (f k *ℚ g k)) (λ k h. neg_mul (f k) (g k)) ∙ sum-neg n (λ k. f k *ℚ g k))

pub first_of_remainder : (first : ℚ) (n : ℕ) (f g : ℕ → ℚ) → IsPartOf (number_terms 1 (λ _. first)) (remainder_terms first n f g)
first_of_remainder first n f g = record { place = λ k. 0; within = λ k h. omega arith; apart = λ j k a b e. omega arith; turned = false; term = λ k h. same_term (Number first) (Number first) refl }

pub remainder_passed : (first : ℚ) (n : ℕ) (f g : ℕ → ℚ) (a b : ℚ) (p : Passed) → a ≡ first → b ≡ sum_ℚ n (λ k. f k *ℚ g k) → p ≡ record { op = Sub; left = a; right = b } → Passes p.op p.left p.right → PassesIn (Is (remainder_terms first n f g)) p
unfolding total_of first_of_remainder products_of_remainder
remainder_passed first n f g a b p e d q h =
    known (Is (remainder_terms first n f g)) Sub a b p q h (remainder_terms first n f g) refl
    (sums_apart (number_terms 1 (λ _. first)) (product_terms n f g) (remainder_terms first n f g) (first_of_remainder first n f g) (products_of_remainder first n f g) (λ j k u v w. omega arith) a (neg_ℚ b) (e ∙ sym (one_number first)) (ap neg_ℚ d))

-- ---- a dual along an arc
pub end_of_arc_dual : (dual : ℚ) (t : Bool) (cost : ℚ) (n : ℕ) (y a : ℕ → ℚ) → IsPartOf (number_terms 1 (λ _. with_sign t dual)) (arc_dual_terms dual t cost n y a)
end_of_arc_dual dual t cost n y a = record { place = λ k. 0; within = λ k h. omega arith; apart = λ j k a b e. omega arith; turned = false; term = λ k h. same_term (Number (with_sign t dual)) (Number (with_sign t dual)) refl }

pub cost_of_arc_dual : (dual : ℚ) (t : Bool) (cost : ℚ) (n : ℕ) (y a : ℕ → ℚ) → IsPartOf (reduced_cost_terms cost n y a) (arc_dual_terms dual t cost n y a)
cost_of_arc_dual dual t cost n y a = record { place = λ k. suc k; within = λ k h. omega arith; apart = λ j k a b e. omega arith; turned = false; term = λ k h. same_term _ _ refl }

-- the dual of one end, or minus it, and the arc's reduced cost over side rows
pub arc_dual_passed : (dual : ℚ) (t : Bool) (cost : ℚ) (n : ℕ) (y a : ℕ → ℚ) (u v : ℚ) (p : Passed) → u ≡ with_sign t dual → v ≡ cost -ℚ sum_ℚ n (λ k. y k *ℚ a k) → p ≡ record { op = Add; left = u; right = v } → Passes p.op p.left p.right → PassesIn (Is (arc_dual_terms dual t cost n y a)) p
unfolding total_of end_of_arc_dual cost_of_arc_dual
arc_dual_passed dual t cost n y a u v p e d q h =
    known (Is (arc_dual_terms dual t cost n y a)) Add u v p q h (arc_dual_terms dual t cost n y a) refl
    (sums_apart (number_terms 1 (λ _. with_sign t dual)) (reduced_cost_terms cost n y a) (arc_dual_terms dual t cost n y a) (end_of_arc_dual dual t cost n y a) (cost_of_arc_dual dual t cost n y a) (λ j k u v w. omega arith) u v (e ∙ sym (one_number (with_sign t dual))) (d ∙ sym (remainder_is cost n y a)))

-- ---- rows of a number and one term
pub first_and : ℚ → Term → Terms
first_and a t = record { count = 2; term = first_then a (λ k. t) }

first_sum : (a : ℚ) (f : ℕ → Term) → a ≡ sum_ℚ 1 (λ k. value_of (first_then a f k))
first_sum a f = sym (sum-suc 0 (λ k. value_of (first_then a f k)) ∙ ap (λ z. z +ℚ a) (sum-zero (λ k. value_of (first_then a f k))) ∙ zero_add a)

pub first_and_sums : (a : ℚ) (t : Term) (x y : ℚ) → x ≡ a → y ≡ value_of t → AreSums (first_and a t) x y
unfolding first_and
first_and_sums a t x y e d = next_sums (record { count = 2; term = first_then a (λ k. t) }) 1 false x y (omega arith) (e ∙ first_sum a (λ k. t)) d

-- n less a multiple of a quotient
pub update_passed : (n p q r total a b : ℚ) (c : Passed) → total ≡ n → a ≡ p → b ≡ q *ℚ inv_ℚ r → SubtractsProduct total a b c → PassesIn (Is (update_terms n true p q r)) c
unfolding first_and
update_passed n p q r total a b c e d f s = ⊎_elim factor sum s.is_one
  where
    factor : c ≡ record { op = Mul; left = a; right = b } → PassesIn (Is (update_terms n true p q r)) c
    factor g = known (Is (update_terms n true p q r)) Mul a b c g s.passes (update_terms n true p q r) refl (1, omega arith, inr (inl (inl (inr (d ∙ sym (neg_neg p)), inl f))))

    same : neg_ℚ (p *ℚ (q *ℚ inv_ℚ r)) ≡ neg_ℚ p *ℚ q *ℚ inv_ℚ r
    same = ring (p ∷ q ∷ inv_ℚ r ∷ []) (search codes depth 8) refl

    sum : c ≡ record { op = Sub; left = total; right = a *ℚ b } → PassesIn (Is (update_terms n true p q r)) c
    sum g = known (Is (update_terms n true p q r)) Sub total (a *ℚ b) c g s.passes (update_terms n true p q r) refl (first_and_sums n (Scaled (neg_ℚ p) q r) total (neg_ℚ (a *ℚ b)) e (ap₂ (λ x y. neg_ℚ (x *ℚ y)) d f ∙ same))

-- the same with the quotient first
pub scaled_passed : (n p q r total a b : ℚ) (c : Passed) → total ≡ n → a ≡ q *ℚ inv_ℚ r → b ≡ p → SubtractsProduct total a b c → PassesIn (Is (update_terms n true p q r)) c
unfolding first_and
scaled_passed n p q r total a b c e d f s = ⊎_elim factor sum s.is_one
  where
    factor : c ≡ record { op = Mul; left = a; right = b } → PassesIn (Is (update_terms n true p q r)) c
    factor g = known (Is (update_terms n true p q r)) Mul a b c g s.passes (update_terms n true p q r) refl (1, omega arith, inr (inl (inr (inr (f ∙ sym (neg_neg p)), inl d))))

    same : neg_ℚ (q *ℚ inv_ℚ r *ℚ p) ≡ neg_ℚ p *ℚ q *ℚ inv_ℚ r
    same = ring (p ∷ q ∷ inv_ℚ r ∷ []) (search codes depth 8) refl

    sum : c ≡ record { op = Sub; left = total; right = a *ℚ b } → PassesIn (Is (update_terms n true p q r)) c
    sum g = known (Is (update_terms n true p q r)) Sub total (a *ℚ b) c g s.passes (update_terms n true p q r) refl (first_and_sums n (Scaled (neg_ℚ p) q r) total (neg_ℚ (a *ℚ b)) e (ap₂ (λ x y. neg_ℚ (x *ℚ y)) d f ∙ same))

-- n and a multiple of a quotient
pub update_added : (n p q r total a b : ℚ) (c : Passed) → total ≡ n → a ≡ p → b ≡ q *ℚ inv_ℚ r → AddsProduct total a b c → PassesIn (Is (update_terms n false p q r)) c
unfolding first_and
update_added n p q r total a b c e d f s = ⊎_elim factor sum s.is_one
  where
    factor : c ≡ record { op = Mul; left = a; right = b } → PassesIn (Is (update_terms n false p q r)) c
    factor g = known (Is (update_terms n false p q r)) Mul a b c g s.passes (update_terms n false p q r) refl (1, omega arith, inr (inl (inl (inl d, inl f))))

    same : p *ℚ (q *ℚ inv_ℚ r) ≡ p *ℚ q *ℚ inv_ℚ r
    same = ring (p ∷ q ∷ inv_ℚ r ∷ []) (search codes depth 8) refl

    sum : c ≡ record { op = Add; left = total; right = a *ℚ b } → PassesIn (Is (update_terms n false p q r)) c
    sum g = known (Is (update_terms n false p q r)) Add total (a *ℚ b) c g s.passes (update_terms n false p q r) refl (first_and_sums n (Scaled p q r) total (a *ℚ b) e (ap₂ ◌*ℚ◌ d f ∙ same))

-- n and a quotient: where p is 1
pub quotient_added : (n q r total b : ℚ) (c : Passed) → total ≡ n → b ≡ q *ℚ inv_ℚ r → c ≡ record { op = Add; left = total; right = b } → Passes c.op c.left c.right → PassesIn (Is (update_terms n false one_ℚ q r)) c
unfolding first_and
quotient_added n q r total b c e f g h = known (Is (update_terms n false one_ℚ q r)) Add total b c g h (update_terms n false one_ℚ q r) refl (first_and_sums n (Scaled one_ℚ q r) total b e (f ∙ sym (ap (λ z. z *ℚ inv_ℚ r) (one_mul q))))

-- a number and a product
pub flip_added : (n a b total x y : ℚ) (c : Passed) → total ≡ n → x ≡ a → y ≡ b → AddsProduct total x y c → PassesIn (Is (flip_terms n false a b)) c
unfolding first_and
flip_added n a b total x y c e d f s = ⊎_elim factor sum s.is_one
  where
    factor : c ≡ record { op = Mul; left = x; right = y } → PassesIn (Is (flip_terms n false a b)) c
    factor g = known (Is (flip_terms n false a b)) Mul x y c g s.passes (flip_terms n false a b) refl (1, omega arith, inl (inl d, inl f))

    sum : c ≡ record { op = Add; left = total; right = x *ℚ y } → PassesIn (Is (flip_terms n false a b)) c
    sum g = known (Is (flip_terms n false a b)) Add total (x *ℚ y) c g s.passes (flip_terms n false a b) refl (first_and_sums n (Product a b) total (x *ℚ y) e (ap₂ ◌*ℚ◌ d f))

-- a number less a product, whose second factor may be negated
pub flip_passed : (n a b : ℚ) (t : Bool) (total x y : ℚ) (c : Passed) → total ≡ n → x ≡ a → y ≡ with_sign t b → SubtractsProduct total x y c → PassesIn (Is (flip_terms n (not t) a b)) c
unfolding first_and
flip_passed n a b t total x y c e d f s = ⊎_elim factor sum s.is_one
  where
    either : (t : Bool) → y ≡ with_sign t b → IsUpToSign b y
    either true h = inr h
    either false h = inl h

    negated : (t : Bool) → IsUpToSign (with_sign (not t) a) a
    negated true = inl refl
    negated false = inr (sym (neg_neg a))

    factor : c ≡ record { op = Mul; left = x; right = y } → PassesIn (Is (flip_terms n (not t) a b)) c
    factor g = known (Is (flip_terms n (not t) a b)) Mul x y c g s.passes (flip_terms n (not t) a b) refl (1, omega arith, inl (subst (λ z. IsUpToSign (with_sign (not t) a) z) (sym d) (negated t), either t f))

    same : (t : Bool) → neg_ℚ (a *ℚ with_sign t b) ≡ with_sign (not t) a *ℚ b
    same true = ring (a ∷ b ∷ []) (search codes depth 8) refl
    same false = ring (a ∷ b ∷ []) (search codes depth 8) refl

    sum : c ≡ record { op = Sub; left = total; right = x *ℚ y } → PassesIn (Is (flip_terms n (not t) a b)) c
    sum g = known (Is (flip_terms n (not t) a b)) Sub total (x *ℚ y) c g s.passes (flip_terms n (not t) a b) refl (first_and_sums n (Product (with_sign (not t) a) b) total (neg_ℚ (x *ℚ y)) e (ap₂ (λ u v. neg_ℚ (u *ℚ v)) d f ∙ same t))

pub quotient_passed : (a b x y : ℚ) (c : Passed) → x ≡ a → y ≡ b → c ≡ record { op = Div; left = x; right = y } → Passes c.op c.left c.right → PassesIn (Is (quotient_terms a b)) c
quotient_passed a b x y c e d g h = known (Is (quotient_terms a b)) Div x y c g h (quotient_terms a b) refl (0, omega arith, (inl e, inl d))

pub difference_passed : (a b x y : ℚ) (c : Passed) → x ≡ a → y ≡ b → c ≡ record { op = Sub; left = x; right = y } → Passes c.op c.left c.right → PassesIn (Is (difference_terms a b)) c
unfolding first_and
difference_passed a b x y c e d g h = known (Is (difference_terms a b)) Sub x y c g h (difference_terms a b) refl (first_and_sums a (Number (neg_ℚ b)) x (neg_ℚ y) e (ap neg_ℚ d))

-- what an operation of nf_frac says of its error
pub passes_from : (op : Op) (x y : ℚ) (c : Passed) → c ≡ record { op = op; left = x; right = y } → Passes op x y → Passes c.op c.left c.right
passes_from op x y c e h = subst (λ (z : Passed). Passes z.op z.left z.right) (sym e) h
