-- Lists that are appended, mapped and numbered: what stands after a list, and the first that passes a test.
use Rattle.std.proofs.Common.{◌≡◌, ◌∙◌, ◌<◌, ◌≤◌, ◌+◌, ◌++◌, ◌∷◌, ◌⊎◌, inl, inr, ℕ, zero, suc, Bool, true, false, List, [], length, map, get_or, Some, refl, ap, ap₂, sym, arith}
use Rattle.std.specs.Prelude.{slice_get}
use Rattle.std.specs.List.{list_any, position_or_len, range_with_len}
use Rattle.std.proofs.lemmas.Bool.{cases_Bool}

-- ---- numbers
pub add-zero : (k : ℕ) → k + 0 ≡ k
add-zero k = omega arith

pub one-more : (k : ℕ) → k + 1 ≡ suc k
one-more k = omega arith

-- ---- after a list
module _ {A : Type 0} where
  pub slice-behind : (xs ys : List A) (i : ℕ) → slice_get (xs ++ ys) (length xs + i) ≡ slice_get ys i
  slice-behind [] ys i = ap (λ n. slice_get ys n) (let e : 0 + i ≡ i = omega arith in e)
  slice-behind (x ∷ xs) ys i = ap (λ n. slice_get (x ∷ (xs ++ ys)) n) (let e : suc (length xs) + i ≡ suc (length xs + i) = omega arith in e) ∙ slice-behind xs ys i

  pub get-behind : (xs ys : List A) (i : ℕ) (d : A) → get_or (xs ++ ys) (length xs + i) d ≡ get_or ys i d
  get-behind [] ys i d = ap (λ n. get_or ys n d) (let e : 0 + i ≡ i = omega arith in e)
  get-behind (x ∷ xs) ys i d = ap (λ n. get_or (x ∷ (xs ++ ys)) n d) (let e : suc (length xs) + i ≡ suc (length xs + i) = omega arith in e) ∙ get-behind xs ys i d

  pub any-append : (test : A → Bool) (xs ys : List A) → list_any test xs ≡ false → list_any test ys ≡ false → list_any test (xs ++ ys) ≡ false
  any-append test [] ys h k = k
  any-append test (x ∷ xs) ys h k = of (cases_Bool (test x)) (λ g. any-append test xs ys g k)
    where
      of : (test x ≡ true) ⊎ (test x ≡ false) → (list_any test xs ≡ false → list_any test (xs ++ ys) ≡ false) → list_any test (x ∷ (xs ++ ys)) ≡ false
      of (inl t) again = absurd (let e : true ≡ false = (rw t at h) in cc)
      of (inr f) again = rw f (again (rw f at h))

  pub first-behind : (test : A → Bool) (xs ys : List A) → list_any test xs ≡ false → position_or_len test (xs ++ ys) ≡ length xs + position_or_len test ys
  first-behind test [] ys h = omega arith
  first-behind test (x ∷ xs) ys h = of (cases_Bool (test x)) (λ g. first-behind test xs ys g)
    where
      of : (test x ≡ true) ⊎ (test x ≡ false) → (list_any test xs ≡ false → position_or_len test (xs ++ ys) ≡ length xs + position_or_len test ys) → position_or_len test (x ∷ (xs ++ ys)) ≡ length (x ∷ xs) + position_or_len test ys
      of (inl t) again = absurd (let e : true ≡ false = (rw t at h) in cc)
      of (inr f) again = let e : position_or_len test (xs ++ ys) ≡ length xs + position_or_len test ys = again (rw f at h) in rw f (omega (arith, e))

  pub any-false : (test : A → Bool) (xs : List A) (i : ℕ) (d : A) → list_any test xs ≡ false → i < length xs → test (get_or xs i d) ≡ false
  any-false test [] i d h b = absurd (omega (arith, b))
  any-false test (x ∷ xs) i d h b = of (cases_Bool (test x)) i b (λ j g c. any-false test xs j d g c)
    where
      of : (test x ≡ true) ⊎ (test x ≡ false) → (i : ℕ) → i < length (x ∷ xs) → ((j : ℕ) → list_any test xs ≡ false → j < length xs → test (get_or xs j d) ≡ false) → test (get_or (x ∷ xs) i d) ≡ false
      of (inl t) i b again = absurd (let e : true ≡ false = (rw t at h) in cc)
      of (inr f) zero b again = f
      of (inr f) (suc i) b again = again i (rw f at h) (omega (arith, b))

-- ---- rows by number
module _ {X : Type 0} where
  pub length-numbered : (f : ℕ → X) (a n : ℕ) → length (map f (range_with_len a n)) ≡ n
  length-numbered f a zero = refl
  length-numbered f a (suc n) = ap suc (length-numbered f (a + 1) n)

  pub slice-numbered : (f : ℕ → X) (a n i : ℕ) → i < n → slice_get (map f (range_with_len a n)) i ≡ Some (f (a + i))
  slice-numbered f a zero i h = absurd (omega (arith, h))
  slice-numbered f a (suc n) zero h = ap (λ k. Some (f k)) (sym (add-zero a))
  slice-numbered f a (suc n) (suc i) h = slice-numbered f (a + 1) n i (omega (arith, h)) ∙ ap (λ k. Some (f k)) (let e : a + 1 + i ≡ a + suc i = omega arith in e)

  pub numbered-same : {Y : Type 0} (f : X → Y) (g : ℕ → X) (h : ℕ → Y) (a n : ℕ) → ((i : ℕ) → a ≤ i → i < a + n → f (g i) ≡ h i) → map f (map g (range_with_len a n)) ≡ map h (range_with_len a n)
  numbered-same f g h a zero same = refl
  numbered-same f g h a (suc n) same = ap₂ (λ y ys. y ∷ ys) (same a (omega arith) (omega arith)) (numbered-same f g h (a + 1) n (λ i b c. same i (omega (arith, b)) (omega (arith, c))))
