-- The first that is there of a row of answers: one step on, found, and in parts.
use Rattle.std.proofs.Common.{◌≡◌, ◌⊎◌, ◌≤◌, ◌<◌, ◌+◌, ℕ, zero, suc, Option, Some, None, refl, inl, inr, arith}
use Rattle.std.proofs.lemmas.Bool.{cases_lt}
use native.Mathlib.Numerals.{unary_clauses}
use Rattle.nf_cert.specs.First.{first_below, or_else}

module _ {A : Type 0} where
  pub none-none : (f : ℕ → Option A) → first_below 0 f ≡ None
  unfolding first_below
  none-none f = refl

  pub none-more : (i : ℕ) (f : ℕ → Option A) → first_below i f ≡ None → f i ≡ None → first_below (i + 1) f ≡ None
  unfolding first_below
  none-more i f n m = let s : i + 1 ≡ suc i = omega arith in rw (s, n) m

  pub none-below : (n : ℕ) (f : ℕ → Option A) → ((i : ℕ) → i < n → f i ≡ None) → first_below n f ≡ None
  unfolding first_below
  none-below zero f h = refl
  none-below (suc n) f h = rw (none-below n f (λ i below. h i (omega (arith, below)))) (h n (omega arith))

  pub found : (n i : ℕ) (f : ℕ → Option A) (x : A) → first_below i f ≡ None → f i ≡ Some x → i < n → first_below n f ≡ Some x
  unfolding first_below
  found zero i f x none h below = absurd (omega arith)
  found (suc n) i f x none h below = by_cases (cases_lt i n) (found n i f x none h)
    where
      by_cases : (i < n) ⊎ (n ≤ i) → (i < n → first_below n f ≡ Some x) → or_else (first_below n f) (f n) ≡ Some x
      by_cases (inl less) before = rw (before less) refl
      by_cases (inr more) before =
          let same : i ≡ n = omega arith in
          rw (← same, none) h

  -- the same answers have the same first
  pub same-below : (n : ℕ) (f g : ℕ → Option A) → ((i : ℕ) → i < n → f i ≡ g i) → first_below n f ≡ first_below n g
  unfolding first_below
  same-below zero f g h = refl
  same-below (suc n) f g h = rw (same-below n f g (λ i below. h i (omega (arith, below))), h n (omega arith)) refl

  -- below m there is none, and the first of the n behind is what counts
  pub behind : (m n : ℕ) (f : ℕ → Option A) → first_below m f ≡ None → first_below (m + n) f ≡ first_below n (λ i. f (m + i))
  unfolding first_below
  behind m zero f none = simp unary_clauses none
  behind m (suc n) f none = simp unary_clauses (rw (behind m n f none) refl)

  -- what is found below m is found below more
  pub found-below : (m n : ℕ) (f : ℕ → Option A) (x : A) → first_below m f ≡ Some x → first_below (m + n) f ≡ Some x
  unfolding first_below
  found-below m zero f x h = simp unary_clauses h
  found-below m (suc n) f x h = simp unary_clauses (rw (found-below m n f x h) refl)
