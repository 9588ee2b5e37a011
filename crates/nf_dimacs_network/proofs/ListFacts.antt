-- Tests, lists of which each member has a property, and items that are numbered.
use Rattle.std.proofs.Common.{◌≡◌, ℕ, zero, suc, ◌+◌, ◌<◌, ◌&&◌, Bool, true, false, List, [], ◌∷◌, ◌++◌, length, take, get_or, refl, sym, ◌∙◌, ap, arith}
use Rattle.std.specs.List.{AllByRecursion}
use Rattle.nf_dimacs.specs.Tables.{numbered}

-- ---- tests
pub both : (a b : Bool) → a && b ≡ true → (a ≡ true) × (b ≡ true)
both true true e = (refl, refl)
both true false e = absurd cc
both false b e = absurd cc

pub false-from : (b : Bool) → (b ≡ true → ⊥) → b ≡ false
false-from true never = absurd (never refl)
false-from false never = refl

-- ---- items numbered from k on
module _ {A B : Type 0} (f : ℕ → A → B) where
  pub numbered-take : (i k : ℕ) (xs : List A) → take i (numbered f k xs) ≡ numbered f k (take i xs)
  unfolding numbered
  numbered-take zero k xs = refl
  numbered-take (suc i) k [] = refl
  numbered-take (suc i) k (x ∷ xs) = ap (λ ys. f k x ∷ ys) (numbered-take i (suc k) xs)

  pub numbered-at : (i k : ℕ) (xs : List A) (d : A) (e : B) → i < length xs → get_or (numbered f k xs) i e ≡ f (k + i) (get_or xs i d)
  unfolding numbered
  numbered-at i k [] d e within = absurd (omega arith)
  numbered-at zero k (x ∷ xs) d e within = ap (λ m. f m x) (let z : k ≡ k + 0 = omega arith in z)
  numbered-at (suc i) k (x ∷ xs) d e within = numbered-at i (suc k) xs d e (omega arith) ∙ ap (λ m. f m (get_or xs i d)) (let z : suc k + i ≡ k + suc i = omega arith in z)

  pub length-numbered : (k : ℕ) (xs : List A) → length (numbered f k xs) ≡ length xs
  unfolding numbered
  length-numbered k [] = refl
  length-numbered k (x ∷ xs) = ap suc (length-numbered (suc k) xs)

-- ---- lists of which each member has a property
pub all-take : {A : Type 0} (P : A → Type 0) (i : ℕ) (xs : List A) → AllByRecursion P xs → AllByRecursion P (take i xs)
all-take P zero xs all = tt
all-take P (suc i) [] all = tt
all-take P (suc i) (x ∷ xs) all = (all.0, all-take P i xs all.1)

pub all-at : {A : Type 0} (P : A → Type 0) (i : ℕ) (xs : List A) (d : A) → i < length xs → AllByRecursion P xs → P (get_or xs i d)
all-at P i [] d within all = absurd (omega arith)
all-at P zero (x ∷ xs) d within all = all.0
all-at P (suc i) (x ∷ xs) d within all = all-at P i xs d (omega arith) all.1

pub all-push : {A : Type 0} (P : A → Type 0) (xs : List A) (x : A) → AllByRecursion P xs → P x → AllByRecursion P (xs ++ x ∷ [])
all-push P [] x all p = (p, tt)
all-push P (y ∷ xs) x all p = (all.0, all-push P xs x all.1 p)

pub all-append : {A : Type 0} (P : A → Type 0) (xs ys : List A) → AllByRecursion P xs → AllByRecursion P ys → AllByRecursion P (xs ++ ys)
all-append P [] ys all more = more
all-append P (x ∷ xs) ys all more = (all.0, all-append P xs ys all.1 more)

pub all-both : {A : Type 0} (P Q : A → Type 0) (xs : List A) → AllByRecursion P xs → AllByRecursion Q xs → AllByRecursion (λ x. P x × Q x) xs
all-both P Q [] p q = tt
all-both P Q (x ∷ xs) p q = ((p.0, q.0), all-both P Q xs p.1 q.1)
