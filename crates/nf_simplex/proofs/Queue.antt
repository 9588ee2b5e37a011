-- A queue is tidied in one way, and so has one front.
use Rattle.std.proofs.Common.{◌≡◌, ◌≢◌, ◌⊎◌, inl, inr, ℕ, zero, suc, List, [], ◌∷◌, refl, sym, ◌∙◌, subst, arith}
use Rattle.nf_simplex.specs.Queue.{PricingState, OfNumber, ComesBefore, AreKept, AreFirst, IsTidied, IsFirstMember, IsFirstNumber, IsFront}

-- ---- lists
pub head_same : (x y : ℕ) (xs ys : List ℕ) → x ∷ xs ≡ y ∷ ys → x ≡ y
head_same x y xs ys e = cc

pub tail_same : (x y : ℕ) (xs ys : List ℕ) → x ∷ xs ≡ y ∷ ys → xs ≡ ys
tail_same x y xs ys e = cc

with_both : (x y : ℕ) (xs ys : List ℕ) → x ≡ y → xs ≡ ys → x ∷ xs ≡ y ∷ ys
with_both x y xs ys e f = cc

-- ---- the members that are kept
pub kept_once : (P : ℕ → Type 0) (xs ys zs : List ℕ) → AreKept P xs ys → AreKept P xs zs → ys ≡ zs
kept_once P [] ys zs a b = a ∙ sym b
kept_once P (x ∷ xs) [] [] a b = refl
kept_once P (x ∷ xs) [] (z ∷ zs) a (inl b) = absurd (a.0 b.0)
kept_once P (x ∷ xs) [] (z ∷ zs) a (inr b) = kept_once P xs [] (z ∷ zs) a.1 b.1
kept_once P (x ∷ xs) (y ∷ ys) [] (inl a) b = absurd (b.0 a.0)
kept_once P (x ∷ xs) (y ∷ ys) [] (inr a) b = kept_once P xs (y ∷ ys) [] a.1 b.1
kept_once P (x ∷ xs) (y ∷ ys) (z ∷ zs) (inl a) (inl b) = with_both y z ys zs (a.1 ∙ sym b.1) (kept_once P xs ys zs a.2 b.2)
kept_once P (x ∷ xs) (y ∷ ys) (z ∷ zs) (inl a) (inr b) = absurd (b.0 a.0)
kept_once P (x ∷ xs) (y ∷ ys) (z ∷ zs) (inr a) (inl b) = absurd (a.0 b.0)
kept_once P (x ∷ xs) (y ∷ ys) (z ∷ zs) (inr a) (inr b) = kept_once P xs (y ∷ ys) (z ∷ zs) a.1 b.1

pub kept_same : (P Q : ℕ → Type 0) → ((i : ℕ) → P i → Q i) → ((i : ℕ) → Q i → P i) → (xs ys : List ℕ) → AreKept P xs ys → AreKept Q xs ys
kept_same P Q to back [] ys a = a
kept_same P Q to back (x ∷ xs) [] a = ((λ q. a.0 (back x q)), kept_same P Q to back xs [] a.1)
kept_same P Q to back (x ∷ xs) (y ∷ ys) (inl a) = inl (to x a.0, a.1, kept_same P Q to back xs ys a.2)
kept_same P Q to back (x ∷ xs) (y ∷ ys) (inr a) = inr ((λ q. a.0 (back x q)), kept_same P Q to back xs (y ∷ ys) a.1)

-- ---- the first ones
one_order : (cursor a b : ℕ) → ComesBefore cursor a b → ComesBefore cursor b a → ⊥
one_order cursor a b (inl x) (inl y) = let u = x.0 in let w = y.1 in omega (arith, u, w)
one_order cursor a b (inl x) (inr (l, inl y)) = let u = x.1 in omega (arith, u, y)
one_order cursor a b (inl x) (inr (l, inr y)) = let u = x.0 in omega (arith, u, y)
one_order cursor a b (inr (l, inl x)) (inl y) = let u = y.1 in omega (arith, u, x)
one_order cursor a b (inr (l, inr x)) (inl y) = let u = y.0 in omega (arith, u, x)
one_order cursor a b (inr x) (inr y) = let u = x.0 in let w = y.0 in omega (arith, u, w)

one_first : (cursor : ℕ) (P : ℕ → Type 0) (a b : ℕ) → IsFirstNumber cursor P a → IsFirstNumber cursor P b → a ≡ b
one_first cursor P a b (p, f) (q, g) = of (f b q) (g a p)
  where
    of : (b ≡ a) ⊎ ComesBefore cursor a b → (a ≡ b) ⊎ ComesBefore cursor b a → a ≡ b
    of (inl e) y = sym e
    of (inr x) (inl e) = e
    of (inr x) (inr y) = absurd (one_order cursor a b x y)

number_same : (cursor : ℕ) (P Q : ℕ → Type 0) → ((i : ℕ) → P i → Q i) → ((i : ℕ) → Q i → P i) → (y : ℕ) → IsFirstNumber cursor P y → IsFirstNumber cursor Q y
number_same cursor P Q to back y (p, f) = (to y p, λ i q. f i (back i q))

pub first_same : (cursor size : ℕ) (P Q : ℕ → Type 0) → ((i : ℕ) → P i → Q i) → ((i : ℕ) → Q i → P i) → (ys : List ℕ) → AreFirst cursor size P ys → AreFirst cursor size Q ys
first_same cursor size P Q to back [] (inl a) = inl a
first_same cursor size P Q to back [] (inr a) = inr (λ i q. a i (back i q))
first_same cursor zero P Q to back (y ∷ ys) a = absurd a
first_same cursor (suc size) P Q to back (y ∷ ys) (f, a) =
    (number_same cursor P Q to back y f, first_same cursor size (λ i. P i × (i ≢ y)) (λ i. Q i × (i ≢ y)) (λ i q. (to i q.0, q.1)) (λ i q. (back i q.0, q.1)) ys a)

pub first_once : (cursor size : ℕ) (P : ℕ → Type 0) (ys zs : List ℕ) → AreFirst cursor size P ys → AreFirst cursor size P zs → ys ≡ zs
first_once cursor size P [] [] a b = refl
first_once cursor zero P [] (z ∷ zs) a b = absurd b
first_once cursor zero P (y ∷ ys) zs a b = absurd a
first_once cursor (suc size) P [] (z ∷ zs) (inl a) b = absurd (let e : suc size ≡ 0 = a in cc)
first_once cursor (suc size) P [] (z ∷ zs) (inr a) b = absurd (a z b.0.0)
first_once cursor (suc size) P (y ∷ ys) [] a (inl b) = absurd (let e : suc size ≡ 0 = b in cc)
first_once cursor (suc size) P (y ∷ ys) [] a (inr b) = absurd (b y a.0.0)
first_once cursor (suc size) P (y ∷ ys) (z ∷ zs) (f, a) (g, b) = with_both y z ys zs same (first_once cursor size (λ i. P i × (i ≢ y)) ys zs a (subst (λ n. AreFirst cursor size (λ i. P i × (i ≢ n)) zs) (sym same) b))
  where
    same : y ≡ z
    same = one_first cursor P y z f g

-- ---- the tidied queue
of_number_same : (P Q : ℕ → Type 0) → ((i : ℕ) → P i → Q i) → (n : ℕ) → OfNumber P n → OfNumber Q n
of_number_same P Q to zero h = h
of_number_same P Q to (suc j) h = to j h

pub tidied_same : (size : ℕ) (at : PricingState) (P Q : ℕ → Type 0) → ((i : ℕ) → P i → Q i) → ((i : ℕ) → Q i → P i) → (ys : List ℕ) → IsTidied size at P ys → IsTidied size at Q ys
tidied_same size at P Q to back ys (inl a) = inl (kept_same (OfNumber P) (OfNumber Q) (of_number_same P Q to) (of_number_same Q P back) at.queue ys a.0, a.1)
tidied_same size at P Q to back ys (inr a) =
    inr (kept_same (OfNumber P) (OfNumber Q) (of_number_same P Q to) (of_number_same Q P back) at.queue [] a.0, first_same at.cursor size (OfNumber P) (OfNumber Q) (of_number_same P Q to) (of_number_same Q P back) ys a.1)

pub tidied_once : (size : ℕ) (at : PricingState) (P : ℕ → Type 0) (ys zs : List ℕ) → IsTidied size at P ys → IsTidied size at P zs → ys ≡ zs
tidied_once size at P ys zs (inl a) (inl b) = kept_once (OfNumber P) at.queue ys zs a.0 b.0
tidied_once size at P ys zs (inl a) (inr b) = absurd (a.1 (kept_once (OfNumber P) at.queue ys [] a.0 b.0))
tidied_once size at P ys zs (inr a) (inl b) = absurd (b.1 (kept_once (OfNumber P) at.queue zs [] b.0 a.0))
tidied_once size at P ys zs (inr a) (inr b) = first_once at.cursor size (OfNumber P) ys zs a.1 b.1

-- ---- the front
member_once : (P : ℕ → Type 0) (xs : List ℕ) (y z : ℕ) → IsFirstMember P xs y → IsFirstMember P xs z → y ≡ z
member_once P [] y z a b = absurd a
member_once P (x ∷ xs) y z (inl a) (inl b) = a.1 ∙ sym b.1
member_once P (x ∷ xs) y z (inl a) (inr b) = absurd (b.0 a.0)
member_once P (x ∷ xs) y z (inr a) (inl b) = absurd (a.0 b.0)
member_once P (x ∷ xs) y z (inr a) (inr b) = member_once P xs y z a.1 b.1

member_same : (P Q : ℕ → Type 0) → ((i : ℕ) → P i → Q i) → ((i : ℕ) → Q i → P i) → (xs : List ℕ) (y : ℕ) → IsFirstMember P xs y → IsFirstMember Q xs y
member_same P Q to back [] y a = absurd a
member_same P Q to back (x ∷ xs) y (inl a) = inl (to x a.0, a.1)
member_same P Q to back (x ∷ xs) y (inr a) = inr ((λ q. a.0 (back x q)), member_same P Q to back xs y a.1)

no_member : (P : ℕ → Type 0) (xs : List ℕ) (y : ℕ) → AreKept P xs [] → IsFirstMember P xs y → ⊥
no_member P [] y a b = b
no_member P (x ∷ xs) y a (inl b) = a.0 b.0
no_member P (x ∷ xs) y a (inr b) = no_member P xs y a.1 b.1

pub front_once : (at : PricingState) (P : ℕ → Type 0) (j k : ℕ) → IsFront at P j → IsFront at P k → j ≡ k
front_once at P j k (inl a) (inl b) = let e : suc j ≡ suc k = member_once (OfNumber P) at.queue (suc j) (suc k) a b in omega (arith, e)
front_once at P j k (inl a) (inr b) = absurd (no_member (OfNumber P) at.queue (suc j) b.0 a)
front_once at P j k (inr a) (inl b) = absurd (no_member (OfNumber P) at.queue (suc k) a.0 b)
front_once at P j k (inr a) (inr b) = let e : suc j ≡ suc k = one_first at.cursor (OfNumber P) (suc j) (suc k) a.1 b.1 in omega (arith, e)

pub front_same : (at : PricingState) (P Q : ℕ → Type 0) → ((i : ℕ) → P i → Q i) → ((i : ℕ) → Q i → P i) → (j : ℕ) → IsFront at P j → IsFront at Q j
front_same at P Q to back j (inl a) = inl (member_same (OfNumber P) (OfNumber Q) (of_number_same P Q to) (of_number_same Q P back) at.queue (suc j) a)
front_same at P Q to back j (inr a) =
    inr (kept_same (OfNumber P) (OfNumber Q) (of_number_same P Q to) (of_number_same Q P back) at.queue [] a.0, number_same at.cursor (OfNumber P) (OfNumber Q) (of_number_same P Q to) (of_number_same Q P back) (suc j) a.1)

-- The first of the members that are kept is the first member.
kept_first : (P : ℕ → Type 0) (xs : List ℕ) (y : ℕ) (ys : List ℕ) → AreKept P xs (y ∷ ys) → IsFirstMember P xs y
kept_first P [] y ys a = absurd (let e : y ∷ ys ≡ [] = a in cc)
kept_first P (x ∷ xs) y ys (inl a) = inl (a.0, a.1)
kept_first P (x ∷ xs) y ys (inr a) = inr (a.0, kept_first P xs y ys a.1)

first_of_all : (cursor size : ℕ) (P : ℕ → Type 0) (y : ℕ) (ys : List ℕ) → AreFirst cursor size P (y ∷ ys) → IsFirstNumber cursor P y
first_of_all cursor zero P y ys a = absurd a
first_of_all cursor (suc size) P y ys a = a.0

-- What is picked from a queue is the front of the tidied one.
pub front_of_tidied : (size : ℕ) (at : PricingState) (P : ℕ → Type 0) (j : ℕ) (ys : List ℕ) → IsTidied size at P (suc j ∷ ys) → IsFront at P j
front_of_tidied size at P j ys (inl a) = inl (kept_first (OfNumber P) at.queue (suc j) ys a.0)
front_of_tidied size at P j ys (inr a) = inr (a.0, first_of_all at.cursor size (OfNumber P) (suc j) ys a.1)
