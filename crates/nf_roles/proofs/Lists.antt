-- Facts on the first of some numbers, on all that pass a test, and on the first of a list.
use Rattle.std.proofs.Common.{◌≡◌, ◌+◌, ◌++◌, ◌⊎◌, ◌<◌, ◌≤◌, ℕ, zero, suc, Bool, true, false, List, [], ◌∷◌, Option, Some, None, IfSome, cond, length, take, drop, get_or, refl, sym, ap, ◌∙◌, inl, inr, arith}
use Rattle.std.proofs.lemmas.Bool.{cases_lt}
use Rattle.std.proofs.lemmas.List.{append-nil, length-append, take-append-drop, take_more}
use Rattle.std.proofs.lemmas.List.Elements.{All-append, All-cons, All-nil, All-weaker}
use Rattle.std.proofs.lemmas.List.Folds.{find-append}
use Rattle.std.proofs.lemmas.List.Concat.{flat_map-append}
use Rattle.std.proofs.lemmas.List.Quantifiers.{all_pairs_push}
use Rattle.std.specs.List.{All, AllPairs, find, flat_map}
use Rattle.nf_roles.specs.First.{or_else, first_below, number_if, first_with, all_with}

-- One number more that gives nothing.
pub none-more : {A : Type 0} (i : ℕ) (f : ℕ → Option A) → first_below i f ≡ None → f i ≡ None → first_below (i + 1) f ≡ None
unfolding first_below
none-more i f n m = let s : i + 1 ≡ suc i = omega arith in rw (s, n) m

-- The first that gives something.
pub found : {A : Type 0} (n i : ℕ) (f : ℕ → Option A) (x : A) → first_below i f ≡ None → f i ≡ Some x → i < n → first_below n f ≡ Some x
unfolding first_below
found zero i f x none h below = absurd (omega arith)
found (suc n) i f x none h below = by_cases (cases_lt i n) (found n i f x none h)
  where
    by_cases : (i < n) ⊎ (n ≤ i) → (i < n → first_below n f ≡ Some x) → or_else (first_below n f) (f n) ≡ Some x
    by_cases (inl less) before = rw (before less) refl
    by_cases (inr more) before =
        let same : i ≡ n = omega arith in
        rw (← same, none) h

pub none-yet : {A : Type 0} (f : ℕ → Option A) → first_below 0 f ≡ None
unfolding first_below
none-yet f = refl

pub with-none : (i : ℕ) (p : ℕ → Bool) → first_with i p ≡ None → p i ≡ false → first_with (i + 1) p ≡ None
with-none i p n h = none-more i (number_if p) n (rw h refl)

pub with-found : (n i : ℕ) (p : ℕ → Bool) → first_with i p ≡ None → p i ≡ true → i < n → first_with n p ≡ Some i
with-found n i p none h below = found n i (number_if p) i none (rw h refl) below

-- The first that passes a test is below the end.
pub with-below : (n : ℕ) (p : ℕ → Bool) → IfSome (first_with n p) (λ k. k < n)
unfolding first_below
with-below zero p = tt
with-below (suc n) p = by_cases (first_with n p) (with-below n p)
  where
    weaker : (o : Option ℕ) → IfSome o (λ k. k < n) → IfSome o (λ k. k < suc n)
    weaker None h = tt
    weaker (Some k) h = omega (arith, h)

    by_test : (b : Bool) → IfSome (cond b (Some n) None) (λ k. k < suc n)
    by_test true = omega arith
    by_test false = tt

    by_cases : (o : Option ℕ) → IfSome o (λ k. k < n) → IfSome (or_else o (number_if p n)) (λ k. k < suc n)
    by_cases None h = by_test (p n)
    by_cases (Some k) h = weaker (Some k) h

-- All that pass a test, with one number more.
pub all-none : (p : ℕ → Bool) → all_with 0 p ≡ []
unfolding all_with
all-none p = refl

pub all-more : (i : ℕ) (p : ℕ → Bool) (b : Bool) (now next : List ℕ) → now ≡ all_with i p → p i ≡ b → next ≡ now ++ cond b (i ∷ []) [] → next ≡ all_with (i + 1) p
unfolding all_with
all-more i p b now next h t e = let s : i + 1 ≡ suc i = omega arith in rw (s, t) (e ∙ ap (λ l. l ++ cond b (i ∷ []) []) h)

pub all-below : (n : ℕ) (p : ℕ → Bool) → All (λ c. c < n) (all_with n p)
unfolding all_with
all-below zero p = All-nil (λ c. c < 0)
all-below (suc n) p =
    All-append (λ c. c < suc n) (all_with n p) (cond (p n) (n ∷ []) []) (All-weaker (λ c. c < n) (λ c. c < suc n) (λ c h. omega (arith, h)) (all_with n p) (all-below n p)) (by_test (p n))
  where
    by_test : (b : Bool) → All (λ c. c < suc n) (cond b (n ∷ []) [])
    by_test true = All-cons (λ c. c < suc n) n [] (omega arith) (All-nil (λ c. c < suc n))
    by_test false = All-nil (λ c. c < suc n)

pub all-from-left : (n : ℕ) (p : ℕ → Bool) → AllPairs (λ a b. a < b) (all_with n p)
unfolding all_with
all-from-left zero p = λ i j d before within. absurd (omega (arith, within))
all-from-left (suc n) p = by_test (p n) (all-from-left n p)
  where
    by_test : (t : Bool) → AllPairs (λ a b. a < b) (all_with n p) → AllPairs (λ a b. a < b) (all_with n p ++ cond t (n ∷ []) [])
    by_test true h = all_pairs_push (λ a b. a < b) (all_with n p) n h (λ k d below. all-below n p k d below)
    by_test false h = rw (append-nil (all_with n p)) h

-- ---- the first of a list
pub more : {A : Type 0} (xs : List A) (i : ℕ) (x : A) → i < length xs → x ≡ get_or xs i x → take (i + 1) xs ≡ take i xs ++ x ∷ []
more xs i x below is = take_more xs i x below ∙ ap (λ y. take i xs ++ y ∷ []) (sym is)

pub find-next : {A : Type 0} (p : A → Bool) (xs : List A) (i : ℕ) (x : A) → i < length xs → x ≡ get_or xs i x → find p (take i xs) ≡ None → p x ≡ false → find p (take (i + 1) xs) ≡ None
find-next p xs i x below is none h = rw (more xs i x below is, find-append p (take i xs) (x ∷ []), none, h) refl

pub find-here : {A : Type 0} (p : A → Bool) (xs : List A) (i : ℕ) (x : A) → i < length xs → x ≡ get_or xs i x → find p (take i xs) ≡ None → p x ≡ true → find p xs ≡ Some x
find-here p xs i x below is none h =
    let here : find p (take (i + 1) xs) ≡ Some x = rw (more xs i x below is, find-append p (take i xs) (x ∷ []), none, h) refl in
    ap (find p) (sym (take-append-drop (i + 1) xs)) ∙ rw (find-append p (take (i + 1) xs) (drop (i + 1) xs), here) refl

-- ---- joined lists, with one part more
pub flat-more : {A B : Type 0} (f : A → List B) (xs : List A) (i : ℕ) (x : A) (now next : List B) → i < length xs → x ≡ get_or xs i x
    → now ≡ flat_map f (take i xs) → next ≡ now ++ f x → next ≡ flat_map f (take (i + 1) xs)
flat-more f xs i x now next below is h e =
    rw (more xs i x below is, flat_map-append f (take i xs) (x ∷ []), append-nil (f x)) (e ∙ ap (λ l. l ++ f x) h)

-- No more numbers pass a test than there are.
pub all-short : (n : ℕ) (p : ℕ → Bool) → length (all_with n p) ≤ n
unfolding all_with
all-short zero p = omega arith
all-short (suc n) p = by_test (p n) (all-short n p)
  where
    by_test : (b : Bool) → length (all_with n p) ≤ n → length (all_with n p ++ cond b (n ∷ []) []) ≤ suc n
    by_test true h = let l = length-append (all_with n p) (n ∷ []) in omega (arith, l, h)
    by_test false h = rw (append-nil (all_with n p)) (omega (arith, h))
