-- Sums of chosen terms.
use Rattle.std.proofs.Common.{◌≡◌, ◌≢◌, ℕ, zero, suc, ◌<◌, ◌≤◌, refl, sym, ◌∙◌, ap, ap₂, arith, Bool, true, false, IsTrue, eq-eqb, ne_eqb, lt-ltb, le-ltb}
use Rattle.std.specs.Prelude.{nat_eq, nat_lt, if◌then◌else◌, ◌&&◌, ◌||◌}
use native.Mathlib.Decide.{ℕ_discrete}
use Rattle.nf_num.specs.Rational.{ℚ, zero_ℚ, ◌+ℚ◌}
use Rattle.nf_num.specs.Sum.{sum_ℚ}
use Rattle.nf_num.proofs.Sums.{sum_same, sum_one, sum-add, sum-zeros, sum-suc, sum-zero}
use Rattle.nf_num.proofs.Rewrites.{add_zero}
use Rattle.nf_num.proofs.Laws.{zero_add, add_comm}

pub kept : (b : Bool) (v : ℚ) → b ≡ true → (if b then v else zero_ℚ) ≡ v
kept b v e = ap (λ c. if c then v else zero_ℚ) e

pub dropped : (b : Bool) (v : ℚ) → b ≡ false → (if b then v else zero_ℚ) ≡ zero_ℚ
dropped b v e = ap (λ c. if c then v else zero_ℚ) e

-- the terms below k
pub sum_below : (n k : ℕ) (f : ℕ → ℚ) → k ≤ n → sum_ℚ n (λ i. if nat_lt i k then f i else zero_ℚ) ≡ sum_ℚ k f
unfolding sum_ℚ
sum_below zero k f h = ap (λ z. sum_ℚ z f) (let e : 0 ≡ k = omega arith in e)
sum_below (suc n) k f h = elim (ℕ_discrete k (suc n)) [ yes e ↦ whole e | no d ↦ less d (sum_below n k f) ]
  where
    whole : k ≡ suc n → sum_ℚ n (λ i. if nat_lt i k then f i else zero_ℚ) +ℚ (if nat_lt n k then f n else zero_ℚ) ≡ sum_ℚ k f
    whole e =
        ap₂ (λ a b. a +ℚ b) (sum_same n _ f (λ i b. kept (nat_lt i k) (f i) (lt-ltb i k (omega arith)))) (kept (nat_lt n k) (f n) (lt-ltb n k (omega arith)))
        ∙ sym (ap (λ z. sum_ℚ z f) e)

    less : k ≢ suc n → (k ≤ n → sum_ℚ n (λ i. if nat_lt i k then f i else zero_ℚ) ≡ sum_ℚ k f) → sum_ℚ n (λ i. if nat_lt i k then f i else zero_ℚ) +ℚ (if nat_lt n k then f n else zero_ℚ) ≡ sum_ℚ k f
    less d ih = ap₂ (λ a b. a +ℚ b) (ih (omega arith)) (dropped (nat_lt n k) (f n) (le-ltb n k (omega arith))) ∙ add_zero _

-- one term
pub sum_only : (n k : ℕ) (f : ℕ → ℚ) → k < n → sum_ℚ n (λ i. if nat_eq i k then f i else zero_ℚ) ≡ f k
sum_only n k f h =
    sum_one n k (λ i. if nat_eq i k then f i else zero_ℚ) h (λ i b d. dropped (nat_eq i k) (f i) (ne_eqb i k d))
    ∙ kept (nat_eq k k) (f k) (eq-eqb k k refl)

-- no term
pub sum_nothing : (n : ℕ) (f : ℕ → ℚ) → sum_ℚ n (λ i. if false then f i else zero_ℚ) ≡ zero_ℚ
sum_nothing n f = sum-zeros n

-- ---- the places of the chosen terms of a part
unfoldable pub hit : ℕ → (ℕ → ℕ) → (ℕ → Bool) → ℕ → Bool
hit zero place chosen j = false
hit (suc n) place chosen j = (chosen n && nat_eq (place n) j) || hit n place chosen j

pub eq_of_test : (a b : ℕ) → nat_eq a b ≡ true → a ≡ b
eq_of_test a b h = elim (ℕ_discrete a b) [ yes e ↦ e | no d ↦ cc (ne_eqb a b d) ]

-- a place that is hit is that of a chosen term
pub hit_from : (n : ℕ) (place : ℕ → ℕ) (chosen : ℕ → Bool) (j : ℕ) → IsTrue (hit n place chosen j) → (k : ℕ) × (k < n) × (place k ≡ j) × IsTrue (chosen k)
unfolding hit
hit_from zero place chosen j h = cc
hit_from (suc n) place chosen j h = go (chosen n) (nat_eq (place n) j) refl refl h (hit_from n place chosen j)
  where
    go : (c e : Bool) → chosen n ≡ c → nat_eq (place n) j ≡ e → IsTrue ((c && e) || hit n place chosen j) → (IsTrue (hit n place chosen j) → (k : ℕ) × (k < n) × (place k ≡ j) × IsTrue (chosen k)) → (k : ℕ) × (k < suc n) × (place k ≡ j) × IsTrue (chosen k)
    go true true c e h ih = (n, omega arith, eq_of_test (place n) j e, c)
    go true false c e h ih = let r = ih h in (r.0, omega arith, r.2, r.3)
    go false e' c e h ih = let r = ih h in (r.0, omega arith, r.2, r.3)

hit_not : (n : ℕ) (place : ℕ → ℕ) (chosen : ℕ → Bool) (j : ℕ) → ((k : ℕ) → k < n → place k ≢ j) → hit n place chosen j ≡ false
hit_not n place chosen j h = go (hit n place chosen j) refl
  where
    go : (b : Bool) → hit n place chosen j ≡ b → hit n place chosen j ≡ false
    go false e = e
    go true e = let r = hit_from n place chosen j e in absurd (h r.0 r.1 r.2)

-- the sum of the chosen terms of a part is that of the terms at their places
pub sum_hit : (m n : ℕ) (place : ℕ → ℕ) (chosen : ℕ → Bool) (f : ℕ → ℚ) → ((k : ℕ) → k < n → place k < m) → ((j k : ℕ) → j < n → k < n → place j ≡ place k → j ≡ k) → sum_ℚ m (λ j. if hit n place chosen j then f j else zero_ℚ) ≡ sum_ℚ n (λ k. if chosen k then f (place k) else zero_ℚ)
unfolding hit
sum_hit m zero place chosen f within apart = sum-zeros m ∙ sym (sum-zero _)
sum_hit m (suc n) place chosen f within apart =
    sum_same m _ _ (λ j b. point j)
    ∙ sum-add m (λ j. if chosen n && nat_eq (place n) j then f j else zero_ℚ) (λ j. if hit n place chosen j then f j else zero_ℚ)
    ∙ ap₂ (λ a b. a +ℚ b) last (sum_hit m n place chosen f (λ k b. within k (omega arith)) (λ j k a b. apart j k (omega arith) (omega arith)))
    ∙ swap _ _
    ∙ sym (sum-suc n (λ k. if chosen k then f (place k) else zero_ℚ))
  where
    swap : (a b : ℚ) → a +ℚ b ≡ b +ℚ a
    swap a b = add_comm a b

    point : (j : ℕ) → (if (chosen n && nat_eq (place n) j) || hit n place chosen j then f j else zero_ℚ) ≡ (if chosen n && nat_eq (place n) j then f j else zero_ℚ) +ℚ (if hit n place chosen j then f j else zero_ℚ)
    point j = go (chosen n && nat_eq (place n) j) (hit n place chosen j) refl refl
      where
        clash : chosen n && nat_eq (place n) j ≡ true → hit n place chosen j ≡ true → ⊥
        clash a b = let r = hit_from n place chosen j b in twice r.0 r.1 r.2 (second (chosen n) (nat_eq (place n) j) a)
          where
            second : (c e : Bool) → c && e ≡ true → e ≡ true
            second true e h = h
            second false e h = cc

            twice : (k : ℕ) → k < n → place k ≡ j → nat_eq (place n) j ≡ true → ⊥
            twice k b e t = let s : k ≡ n = apart k n (omega arith) (omega arith) (e ∙ sym (eq_of_test (place n) j t)) in absurd (omega arith)

        go : (a b : Bool) → chosen n && nat_eq (place n) j ≡ a → hit n place chosen j ≡ b → (if a || b then f j else zero_ℚ) ≡ (if a then f j else zero_ℚ) +ℚ (if b then f j else zero_ℚ)
        go true true p q = absurd (clash p q)
        go true false p q = sym (add_zero (f j))
        go false true p q = sym (zero_add (f j))
        go false false p q = sym (add_zero zero_ℚ)

    last : sum_ℚ m (λ j. if chosen n && nat_eq (place n) j then f j else zero_ℚ) ≡ (if chosen n then f (place n) else zero_ℚ)
    last = go (chosen n)
      where
        go : (c : Bool) → sum_ℚ m (λ j. if c && nat_eq (place n) j then f j else zero_ℚ) ≡ (if c then f (place n) else zero_ℚ)
        go false = sum-zeros m
        go true =
            sum_one m (place n) (λ j. if nat_eq (place n) j then f j else zero_ℚ) (within n (omega arith)) (λ j b d. dropped (nat_eq (place n) j) (f j) (ne_eqb (place n) j (λ e. d (sym e))))
            ∙ kept (nat_eq (place n) (place n)) (f (place n)) (eq-eqb (place n) (place n) refl)
