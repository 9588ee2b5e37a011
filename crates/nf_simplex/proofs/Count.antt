-- How many columns are basic: an exchange leaves it as it is.
use Rattle.std.proofs.Common.{◌≡◌, ◌≢◌, ℕ, zero, suc, ◌+◌, ◌<◌, ◌≤◌, cond, ◌==◌, eq-eqb, ne_eqb, ◌⊎◌, inl, inr, refl, sym, ap, ap₂, ◌∙◌, arith, add-suc, add-zero}
use Rattle.nf_num.specs.Rational.{}
use Rattle.nf_simplex.specs.Numbers.{IsBasis, IsIndependent}
use Rattle.nf_simplex.specs.Place.{Place, Lower, Upper, Zero, Absent, Basic, one_if_basic, count_basic}
use Rattle.nf_simplex.specs.Stage.{Stage}
use Rattle.nf_simplex.specs.Step.{IsExchange}
use Rattle.nf_simplex.proofs.Exchange.{bound_not_basic}
use Rattle.nf_simplex.proofs.Sum.{equal_or_not}

pub not_basic_none : (p : Place) → p ≢ Basic → one_if_basic p ≡ 0
not_basic_none Lower h = refl
not_basic_none Upper h = refl
not_basic_none Zero h = refl
not_basic_none Absent h = refl
not_basic_none Basic h = absurd (h refl)

-- f but for x at n
abbrev pub put_at : {A : Type 0} → ℕ → A → (ℕ → A) → ℕ → A
put_at n x f k = cond (k == n) x (f k)

pub put_same : {A : Type 0} (n : ℕ) (x : A) (f : ℕ → A) → put_at n x f n ≡ x
put_same n x f = ap (λ b. cond b x (f n)) (eq-eqb n n refl)

pub put_other : {A : Type 0} (n : ℕ) (x : A) (f : ℕ → A) (k : ℕ) → k ≢ n → put_at n x f k ≡ f k
put_other n x f k h = ap (λ b. cond b x (f k)) (ne_eqb k n h)

-- 1 where p is one of the numbers below n
abbrev below : ℕ → ℕ → ℕ
below p zero = 0
below p (suc n) = below p n + cond (p == n) 1 0

test_same : (p n : ℕ) → p ≡ n → ◌≡◌ {A = ℕ} (cond (p == n) 1 0) 1
test_same p n e = ap (λ b. cond b 1 0) (eq-eqb p n e)

test_other : (p n : ℕ) → p ≢ n → ◌≡◌ {A = ℕ} (cond (p == n) 1 0) 0
test_other p n e = ap (λ b. cond b 1 0) (ne_eqb p n e)

below_past : (p n : ℕ) → n ≤ p → below p n ≡ 0
below_past p zero h = refl
below_past p (suc n) h = let a = below_past p n (omega arith) in let b = test_other p n (omega arith) in omega arith

below_one : (p n : ℕ) → p < n → below p n ≡ 1
below_one p zero h = absurd (omega arith)
below_one p (suc n) h = of (equal_or_not p n) (below_one p n)
  where
    of : (p ≡ n) ⊎ (p ≢ n) → (p < n → below p n ≡ 1) → below p n + cond (p == n) 1 0 ≡ 1
    of (inl e) ih = let a = below_past p n (omega arith) in let b = test_same p n e in omega arith
    of (inr e) ih = let a = ih (omega arith) in let b = test_other p n e in omega arith

-- as many basic columns after one entered and one left
count_changes : (s t : ℕ → Place) (e l n : ℕ) → e ≢ l → s e ≢ Basic → t e ≡ Basic → s l ≡ Basic → t l ≢ Basic → ((j : ℕ) → j < n → j ≢ e → j ≢ l → t j ≡ s j)
    → count_basic n t + below l n ≡ count_basic n s + below e n
count_changes s t e l zero ne a b c d rest = refl
count_changes s t e l (suc n) ne a b c d rest =
    of (equal_or_not e n) (equal_or_not l n) (count_changes s t e l n ne a b c d (λ j h. rest j (omega arith)))
  where
    of : (e ≡ n) ⊎ (e ≢ n) → (l ≡ n) ⊎ (l ≢ n) → count_basic n t + below l n ≡ count_basic n s + below e n
        → (count_basic n t + one_if_basic (t n)) + (below l n + cond (l == n) 1 0) ≡ (count_basic n s + one_if_basic (s n)) + (below e n + cond (e == n) 1 0)
    of (inl p) (inl q) ih = absurd (ne (p ∙ sym q))
    of (inl p) (inr q) ih =
        let x = not_basic_none (s n) (λ r. a (ap s p ∙ r)) in
        let y : one_if_basic (t n) ≡ 1 = ap one_if_basic (ap t (sym p) ∙ b) in
        let z = test_same e n p in let w = test_other l n q in omega arith
    of (inr p) (inl q) ih =
        let x = not_basic_none (t n) (λ r. d (ap t q ∙ r)) in
        let y : one_if_basic (s n) ≡ 1 = ap one_if_basic (ap s (sym q) ∙ c) in
        let z = test_other e n p in let w = test_same l n q in omega arith
    of (inr p) (inr q) ih =
        let x : one_if_basic (t n) ≡ one_if_basic (s n) = ap one_if_basic (rest n (omega arith) (λ r. p (sym r)) (λ r. q (sym r))) in
        let z = test_other e n p in let w = test_other l n q in omega arith

pub count_exchanged : (s t : ℕ → Place) (e l n : ℕ) → e < n → l < n → e ≢ l → s e ≢ Basic → t e ≡ Basic → s l ≡ Basic → t l ≢ Basic → ((j : ℕ) → j < n → j ≢ e → j ≢ l → t j ≡ s j)
    → count_basic n t ≡ count_basic n s
count_exchanged s t e l n h k ne a b c d rest =
    let x = count_changes s t e l n ne a b c d rest in let y = below_one e n h in let z = below_one l n k in omega arith

pub count_same : (s t : ℕ → Place) (n : ℕ) → ((j : ℕ) → j < n → one_if_basic (t j) ≡ one_if_basic (s j)) → count_basic n t ≡ count_basic n s
count_same s t zero h = refl
count_same s t (suc n) h = ap₂ (λ x y. x + y) (count_same s t n (λ j l. h j (omega arith))) (h n (omega arith))

-- as many basic columns and one more after one entered
entered_changes : (s t : ℕ → Place) (e n : ℕ) → s e ≢ Basic → t e ≡ Basic → ((j : ℕ) → j < n → j ≢ e → one_if_basic (t j) ≡ one_if_basic (s j)) → count_basic n t ≡ count_basic n s + below e n
entered_changes s t e zero a b rest = refl
entered_changes s t e (suc n) a b rest = of (equal_or_not e n) (entered_changes s t e n a b (λ j h. rest j (omega arith)))
  where
    of : (e ≡ n) ⊎ (e ≢ n) → count_basic n t ≡ count_basic n s + below e n → count_basic n t + one_if_basic (t n) ≡ (count_basic n s + one_if_basic (s n)) + (below e n + cond (e == n) 1 0)
    of (inl p) ih =
        let x = not_basic_none (s n) (λ r. a (ap s p ∙ r)) in
        let y : one_if_basic (t n) ≡ 1 = ap one_if_basic (ap t (sym p) ∙ b) in
        let z = test_same e n p in omega arith
    of (inr p) ih =
        let x = rest n (omega arith) (λ r. p (sym r)) in
        let z = test_other e n p in omega arith

-- as many basic columns and k more after k columns entered
pub count_entered : (s t : ℕ → Place) (a : ℕ → ℕ) (n k : ℕ) → ((q : ℕ) → q < k → a q < n) → ((q p : ℕ) → q < k → p < k → a q ≡ a p → q ≡ p)
    → ((q : ℕ) → q < k → s (a q) ≢ Basic) → ((q : ℕ) → q < k → t (a q) ≡ Basic)
    → ((j : ℕ) → j < n → ((q : ℕ) → q < k → a q ≢ j) → one_if_basic (t j) ≡ one_if_basic (s j))
    → count_basic n t ≡ count_basic n s + k
count_entered s t a n zero within distinct was now rest = count_same s t n (λ j h. rest j h (λ q l. absurd (omega arith))) ∙ omega arith
count_entered s t a n (suc k) within distinct was now rest =
    let all = count_entered s less a n k (λ q h. within q (omega arith)) (λ q p h m e. distinct q p (omega arith) (omega arith) e) (λ q h. was q (omega arith))
    (λ q h. off (a q) (λ e. absurd (self q h e)) ∙ now q (omega arith)) (λ j h other. of j h other (equal_or_not j (a k))) in
    let one = entered_changes less t (a k) n (λ e. hidden (sym (put_same (a k) Lower t) ∙ e)) (now k (omega arith)) (λ j h ne. ap one_if_basic (sym (off j ne))) in
    let b = below_one (a k) n (within k (omega arith)) in
    omega arith
  where
    less : ℕ → Place
    less = put_at (a k) Lower t

    hidden : Lower ≡ Basic → ⊥
    hidden e = cc

    off : (j : ℕ) → j ≢ a k → less j ≡ t j
    off j ne = put_other (a k) Lower t j ne

    self : (q : ℕ) → q < k → a q ≡ a k → ⊥
    self q h e = let z = distinct q k (omega arith) (omega arith) e in omega arith

    of : (j : ℕ) → j < n → ((q : ℕ) → q < k → a q ≢ j) → (j ≡ a k) ⊎ (j ≢ a k) → one_if_basic (less j) ≡ one_if_basic (s j)
    of j h other (inl e) = ap one_if_basic (ap less e ∙ put_same (a k) Lower t) ∙ sym (not_basic_none (s j) (λ r. was k (omega arith) (ap s (sym e) ∙ r)))
    of j h other (inr ne) = ap one_if_basic (off j ne) ∙ rest j h (λ q l e. at q l e (last q l))
      where
        last : (q : ℕ) → q < suc k → (q < k) ⊎ (q ≡ k)
        last q l = grind arith

        at : (q : ℕ) → q < suc k → a q ≡ j → (q < k) ⊎ (q ≡ k) → ⊥
        at q l e (inl m) = other q m e
        at q l e (inr m) = ne (sym e ∙ ap a m)

-- whether j is one of the first k
pub found : (a : ℕ → ℕ) (k j : ℕ) → ((q : ℕ) × (q < k) × (a q ≡ j)) ⊎ ((q : ℕ) → q < k → a q ≢ j)
found a zero j = inr (λ q h. absurd (omega arith))
found a (suc k) j = of (found a k j) (equal_or_not (a k) j)
  where
    last : (q : ℕ) → q < suc k → (q < k) ⊎ (q ≡ k)
    last q l = grind arith

    of : ((q : ℕ) × (q < k) × (a q ≡ j)) ⊎ ((q : ℕ) → q < k → a q ≢ j) → (a k ≡ j) ⊎ (a k ≢ j) → ((q : ℕ) × (q < suc k) × (a q ≡ j)) ⊎ ((q : ℕ) → q < suc k → a q ≢ j)
    of (inl (q, h, e)) z = inl (q, omega arith, e)
    of (inr w) (inl e) = inl (k, omega arith, e)
    of (inr w) (inr ne) = inr (λ q h. at q (last q h))
      where
        at : (q : ℕ) → (q < k) ⊎ (q ≡ k) → a q ≢ j
        at q (inl m) e = w q m e
        at q (inr m) e = ne (ap a (sym m) ∙ e)

-- only the columns from g on are basic
pub count_from : (s : ℕ → Place) (g m : ℕ) → ((j : ℕ) → j < g → s j ≢ Basic) → ((i : ℕ) → i < m → s (g + i) ≡ Basic) → count_basic (g + m) s ≡ m
count_from s g zero none all = ap (λ k. count_basic k s) (add-zero g) ∙ nought g none
  where
    nought : (n : ℕ) → ((j : ℕ) → j < n → s j ≢ Basic) → count_basic n s ≡ 0
    nought zero h = refl
    nought (suc n) h = let a = nought n (λ j k. h j (omega arith)) in let b = not_basic_none (s n) (h n (omega arith)) in omega arith
count_from s g (suc m) none all =
    let a = count_from s g m none (λ i h. all i (omega arith)) in
    let b : one_if_basic (s (g + m)) ≡ 1 = ap one_if_basic (all m (omega arith)) in
    ap (λ k. count_basic k s) (add-suc g m) ∙ omega arith

-- The columns after an exchange that stays independent are a basis again.
pub exchanged_basis : (S : Stage) (s t : ℕ → Place) (e l : ℕ) → e < S.columns → s e ≢ Basic → IsExchange S s e l t → IsBasis S s → IsIndependent S t → IsBasis S t
exchanged_basis S s t e l h nb x p ind = record {
  as_many = count_exchanged s t e l S.columns h x.there (λ q. nb (ap s q ∙ x.was_basic)) nb x.enters x.was_basic (bound_not_basic (t l) x.leaves) x.rest ∙ p.as_many;
  independent = ind;
}
