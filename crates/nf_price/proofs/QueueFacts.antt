-- What is kept of a queue, and what is found in turn, member by member.
use Rattle.std.proofs.Common.{◌≡◌, ◌≢◌, ◌⊎◌, inl, inr, ℕ, zero, suc, ◌+◌, ◌<◌, ◌≤◌, ◌==◌, ◌||◌, Bool, true, false, List, [], ◌∷◌, ◌++◌, length, take, MatchBool, Option, Some, None, refl, sym, ◌∙◌, subst, arith}
use Rattle.std.specs.Prelude.{slice_index_or, IfSome}
use Rattle.std.proofs.lemmas.List.{take_all, take_more}
use Rattle.nf_simplex.specs.Queue.{ComesBefore, AreKept, AreFirst, IsFirstMember, IsFirstNumber, IsFront}
use Rattle.nf_num.specs.Rational.{ℚ}
use Rattle.nf_model.specs.Program.{LinearProgram}
use Rattle.nf_simplex.specs.Standing.{Standing}
use Rattle.nf_basis.specs.declared.col.Phase.{Phase}
use Rattle.nf_price.specs.declared.candidate.Candidate.{Candidate}
use Rattle.nf_price.specs.Wanted.{Wants, WantsNoMember, WantsNumber}
use Rattle.nf_price.specs.Queue.{IsAmong, AreDistinct, pricing}
use Rattle.nf_price.specs.Cost.{has_member}

-- ---- distinct numbers
pub among_more : (n m : ℕ) (xs : List ℕ) → IsAmong n (xs ++ m ∷ []) → IsAmong n xs ⊎ (n ≡ m)
among_more n m [] (inl e) = inr e
among_more n m [] (inr e) = absurd e
among_more n m (x ∷ xs) (inl e) = inl (inl e)
among_more n m (x ∷ xs) (inr h) = of (among_more n m xs h)
  where
    of : IsAmong n xs ⊎ (n ≡ m) → IsAmong n (x ∷ xs) ⊎ (n ≡ m)
    of (inl a) = inl (inr a)
    of (inr e) = inr e

pub distinct_more : (n : ℕ) (xs : List ℕ) → AreDistinct xs → (IsAmong n xs → ⊥) → AreDistinct (xs ++ n ∷ [])
distinct_more n [] d f = ((λ a. a), tt)
distinct_more n (x ∷ xs) d f = (not_among, distinct_more n xs d.1 (λ a. f (inr a)))
  where
    not_among : IsAmong x (xs ++ n ∷ []) → ⊥
    not_among a = of (among_more x n xs a)
      where
        of : IsAmong x xs ⊎ (x ≡ n) → ⊥
        of (inl b) = d.0 b
        of (inr e) = f (inl (sym e))

pub distinct_rest : (x : ℕ) (xs : List ℕ) → AreDistinct (x ∷ xs) → AreDistinct xs
distinct_rest x xs d = d.1

among_take : (n k : ℕ) (xs : List ℕ) → IsAmong n (take k xs) → IsAmong n xs
among_take n zero xs a = absurd a
among_take n (suc k) [] a = absurd a
among_take n (suc k) (x ∷ xs) (inl e) = inl e
among_take n (suc k) (x ∷ xs) (inr a) = inr (among_take n k xs a)

among_at : (k d : ℕ) (xs : List ℕ) → k < length xs → IsAmong (slice_index_or xs k d) xs
among_at k d [] h = absurd (omega (arith, h))
among_at zero d (x ∷ xs) h = inl refl
among_at (suc k) d (x ∷ xs) h = inr (among_at k d xs (omega (arith, h)))

-- A member is not among those before it.
pub not_before_itself : (k d : ℕ) (xs : List ℕ) → AreDistinct xs → k < length xs → IsAmong (slice_index_or xs k d) (take k xs) → ⊥
not_before_itself k d [] q h a = omega (arith, h)
not_before_itself zero d (x ∷ xs) q h a = a
not_before_itself (suc k) d (x ∷ xs) q h (inl e) = q.0 (subst (λ n. IsAmong n xs) e (among_at k d xs (omega (arith, h))))
not_before_itself (suc k) d (x ∷ xs) q h (inr a) = not_before_itself k d xs q.1 (omega (arith, h)) a

pub next_taken : (k d : ℕ) (xs : List ℕ) → k < length xs → take (k + 1) xs ≡ take k xs ++ slice_index_or xs k d ∷ []
next_taken k d xs h = take_more xs k d h

pub taken_length : (k : ℕ) (xs : List ℕ) → length (take k xs) ≤ k
taken_length zero xs = omega arith
taken_length (suc k) [] = omega arith
taken_length (suc k) (x ∷ xs) = let h = taken_length k xs in omega (arith, h)

pub taken_whole : (k : ℕ) (xs : List ℕ) → length xs ≤ k → take k xs ≡ xs
taken_whole k xs h = take_all k xs h

-- What the test of membership says.
pub member_among : (n : ℕ) (xs : List ℕ) → has_member xs n ≡ true → IsAmong n xs
member_among n [] e = absurd (let z : false ≡ true = e in cc)
member_among n (x ∷ xs) e = of (x == n) refl e (member_among n xs)
  where
    of : (b : Bool) → (x == n) ≡ b → (b || has_member xs n) ≡ true → (has_member xs n ≡ true → IsAmong n xs) → IsAmong n (x ∷ xs)
    of true q h rest = inl (grind (arith, q))
    of false q h rest = inr (rest h)

module _ (P : ℕ → Type 0) where
  -- ---- the members that are kept
  kept_empty : (xs : List ℕ) (y : ℕ) (ys : List ℕ) → AreKept P xs (y ∷ ys) → xs ≡ [] → ⊥
  kept_empty [] y ys a e = absurd (let z : y ∷ ys ≡ [] = a in cc)
  kept_empty (x ∷ xs) y ys a e = absurd (let z : x ∷ xs ≡ [] = e in cc)

  pub kept_more : (n : ℕ) (xs ys : List ℕ) → AreKept P xs ys → P n → AreKept P (xs ++ n ∷ []) (ys ++ n ∷ [])
  kept_more n [] [] a h = inl (h, refl, refl)
  kept_more n [] (y ∷ ys) a h = absurd (let z : y ∷ ys ≡ [] = a in cc)
  kept_more n (x ∷ xs) [] a h = inr (a.0, kept_more n xs [] a.1 h)
  kept_more n (x ∷ xs) (y ∷ ys) (inl a) h = inl (a.0, a.1, kept_more n xs ys a.2 h)
  kept_more n (x ∷ xs) (y ∷ ys) (inr a) h = inr (a.0, kept_more n xs (y ∷ ys) a.1 h)

  pub kept_skip : (n : ℕ) (xs ys : List ℕ) → AreKept P xs ys → (P n → ⊥) → AreKept P (xs ++ n ∷ []) ys
  kept_skip n [] [] a h = (h, refl)
  kept_skip n [] (y ∷ ys) a h = absurd (let z : y ∷ ys ≡ [] = a in cc)
  kept_skip n (x ∷ xs) [] a h = (a.0, kept_skip n xs [] a.1 h)
  kept_skip n (x ∷ xs) (y ∷ ys) (inl a) h = inl (a.0, a.1, kept_skip n xs ys a.2 h)
  kept_skip n (x ∷ xs) (y ∷ ys) (inr a) h = inr (a.0, kept_skip n xs (y ∷ ys) a.1 h)

  pub kept_among : (n : ℕ) (xs ys : List ℕ) → AreKept P xs ys → IsAmong n ys → IsAmong n xs
  kept_among n xs [] a b = absurd b
  kept_among n [] (y ∷ ys) a b = absurd (let z : y ∷ ys ≡ [] = a in cc)
  kept_among n (x ∷ xs) (y ∷ ys) (inl a) (inl e) = inl (e ∙ a.1)
  kept_among n (x ∷ xs) (y ∷ ys) (inl a) (inr b) = inr (kept_among n xs ys a.2 b)
  kept_among n (x ∷ xs) (y ∷ ys) (inr a) b = inr (kept_among n xs (y ∷ ys) a.1 b)

  pub kept_length : (xs ys : List ℕ) → AreKept P xs ys → length ys ≤ length xs
  kept_length xs [] a = omega arith
  kept_length [] (y ∷ ys) a = absurd (let z : y ∷ ys ≡ [] = a in cc)
  kept_length (x ∷ xs) (y ∷ ys) (inl a) = let h = kept_length xs ys a.2 in omega (arith, h)
  kept_length (x ∷ xs) (y ∷ ys) (inr a) = let h = kept_length xs (y ∷ ys) a.1 in omega (arith, h)

  -- After members without P, the next one with P is the first.
  pub member_found : (k d : ℕ) (xs : List ℕ) → k < length xs → AreKept P (take k xs) [] → P (slice_index_or xs k d) → IsFirstMember P xs (slice_index_or xs k d)
  member_found k d [] h a q = absurd (omega (arith, h))
  member_found zero d (x ∷ xs) h a q = inl (q, refl)
  member_found (suc k) d (x ∷ xs) h a q = inr (a.0, member_found k d xs (omega (arith, h)) a.1 q)

  -- Where no member has P, a number with P is no member.
  pub not_member : (n : ℕ) (xs : List ℕ) → AreKept P xs [] → P n → IsAmong n xs → ⊥
  not_member n [] a q b = b
  not_member n (x ∷ xs) a q (inl e) = a.0 (subst P e q)
  not_member n (x ∷ xs) a q (inr b) = not_member n xs a.1 q b

-- ---- the first ones
irreflexive : (cursor n : ℕ) → ComesBefore cursor n n → ⊥
irreflexive cursor n (inl h) = let a = h.0 in let b = h.1 in omega (arith, a, b)
irreflexive cursor n (inr h) = let a = h.0 in omega (arith, a)

pub first_among : (cursor size : ℕ) (P : ℕ → Type 0) (n : ℕ) (ys : List ℕ) → AreFirst cursor size P ys → IsAmong n ys → P n
first_among cursor size P n [] a b = absurd b
first_among cursor zero P n (y ∷ ys) a b = absurd a
first_among cursor (suc size) P n (y ∷ ys) a (inl e) = subst P (sym e) a.0.0
first_among cursor (suc size) P n (y ∷ ys) a (inr b) = (first_among cursor size (λ i. P i × (i ≢ y)) n ys a.1 b).0

-- One more number, after all others.
pub first_more : (cursor size : ℕ) (P Q : ℕ → Type 0) (n : ℕ) (ys : List ℕ) → length ys < size → ((i : ℕ) → P i → Q i) → ((i : ℕ) → Q i → P i ⊎ (i ≡ n)) → Q n
    → ((i : ℕ) → P i → ComesBefore cursor i n) → AreFirst cursor size P ys → AreFirst cursor size Q (ys ++ n ∷ [])
first_more cursor zero P Q n ys h to back q after a = absurd (omega (arith, h))
first_more cursor (suc size) P Q n [] h to back q after a = ((q, λ i r. only i (back i r)), inr (λ i r. absurd (r.1 (the_one i (back i r.0)))))
  where
    none : (i : ℕ) → P i → ⊥
    none i x = of a
      where
        of : (suc size ≡ 0) ⊎ ((j : ℕ) → P j → ⊥) → ⊥
        of (inl e) = (let z : suc size ≡ 0 = e in cc)
        of (inr f) = f i x

    the_one : (i : ℕ) → P i ⊎ (i ≡ n) → i ≡ n
    the_one i (inl x) = absurd (none i x)
    the_one i (inr e) = e

    only : (i : ℕ) → P i ⊎ (i ≡ n) → (i ≡ n) ⊎ ComesBefore cursor n i
    only i x = inl (the_one i x)
first_more cursor (suc size) P Q n (y ∷ ys) h to back q after a =
    ((to y a.0.0, λ i r. in_order i (back i r)), first_more cursor size (λ i. P i × (i ≢ y)) (λ i. Q i × (i ≢ y)) n ys (omega (arith, h)) (λ i x. (to i x.0, x.1)) (λ i x. apart i x.1 (back i x.0)) (q, other) (λ i x. after i x.0) a.1)
  where
    other : n ≢ y
    other e = irreflexive cursor y (subst (λ z. ComesBefore cursor y z) e (after y a.0.0))

    in_order : (i : ℕ) → P i ⊎ (i ≡ n) → (i ≡ y) ⊎ ComesBefore cursor y i
    in_order i (inl x) = a.0.1 i x
    in_order i (inr e) = inr (subst (λ z. ComesBefore cursor y z) (sym e) (after y a.0.0))

    apart : (i : ℕ) → i ≢ y → P i ⊎ (i ≡ n) → (P i × (i ≢ y)) ⊎ (i ≡ n)
    apart i ne (inl x) = inl (x, ne)
    apart i ne (inr e) = inr e

-- There are enough: no number after them counts.
pub first_full : (cursor size : ℕ) (P Q : ℕ → Type 0) (ys : List ℕ) → size ≤ length ys → ((i : ℕ) → P i → Q i) → ((i : ℕ) → Q i → P i ⊎ ((j : ℕ) → P j → ComesBefore cursor j i))
    → AreFirst cursor size P ys → AreFirst cursor size Q ys
first_full cursor size P Q [] h to back a = inl (omega (arith, h))
first_full cursor zero P Q (y ∷ ys) h to back a = absurd a
first_full cursor (suc size) P Q (y ∷ ys) h to back a =
    ((to y a.0.0, λ i r. in_order i (back i r)), first_full cursor size (λ i. P i × (i ≢ y)) (λ i. Q i × (i ≢ y)) ys (omega (arith, h)) (λ i x. (to i x.0, x.1)) (λ i x. apart i x.1 (back i x.0)) a.1)
  where
    in_order : (i : ℕ) → P i ⊎ ((j : ℕ) → P j → ComesBefore cursor j i) → (i ≡ y) ⊎ ComesBefore cursor y i
    in_order i (inl x) = a.0.1 i x
    in_order i (inr f) = inr (f y a.0.0)

    apart : (i : ℕ) → i ≢ y → P i ⊎ ((j : ℕ) → P j → ComesBefore cursor j i) → (P i × (i ≢ y)) ⊎ ((j : ℕ) → P j × (j ≢ y) → ComesBefore cursor j i)
    apart i ne (inl x) = inl (x, ne)
    apart i ne (inr f) = inr (λ j x. f j x.0)

-- The members that are kept, by whether the next one has P.
module _ (P : ℕ → Type 0) (n : ℕ) (xs ys zs : List ℕ) where
  pub kept_by : (b : Bool) → MatchBool b (P n) (P n → ⊥) → (b ≡ true → zs ≡ ys ++ n ∷ []) → (b ≡ false → zs ≡ ys) → AreKept P xs ys → AreKept P (xs ++ n ∷ []) zs
  kept_by true w added kept a = subst (AreKept P (xs ++ n ∷ [])) (sym (added refl)) (kept_more P n xs ys a w)
  kept_by false w added kept a = subst (AreKept P (xs ++ n ∷ [])) (sym (kept refl)) (kept_skip P n xs ys a w)

-- The front of the tidied queue where no member is wanted.
pub front_after : (p : LinearProgram) (s : Standing) (phase : Phase) (y1 y2 : List ℚ) (cursor : ℕ) (queue : List ℕ) (r : Option Candidate) → WantsNoMember p s phase y1 y2 queue
    → IfSome r (λ c. IsFirstNumber cursor (WantsNumber p s phase y1 y2) (suc c.number)) → IfSome r (λ c. IsFront (pricing cursor queue) (Wants p s phase y1 y2) c.number)
front_after p s phase y1 y2 cursor queue None none h = tt
front_after p s phase y1 y2 cursor queue (Some c) none h = inr (none, h)
