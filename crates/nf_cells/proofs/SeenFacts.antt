-- Facts on lists of names, each once.
use Rattle.std.proofs.Common.{◌≡◌, ◌≢◌, ◌<◌, ◌||◌, ◌+◌, ◌++◌, ◌⊎◌, ℕ, suc, Bool, true, false, not, List, [], ◌∷◌, Some, None, length, get_or, filter, refl, sym, ap, ◌∙◌, inl, inr, arith}
use Rattle.std.proofs.lemmas.Bool.{false≢true}
use Rattle.std.proofs.lemmas.Slice.Eq.{bytes_eq-Decides}
use Rattle.std.proofs.lemmas.List.{append-nil}
use Rattle.std.proofs.lemmas.List.Elements.{filter-append}
use Rattle.std.proofs.lemmas.List.Folds.{list_any-append}
use Rattle.std.proofs.lemmas.Map.Views.{any-filter_same}
use Rattle.std.specs.Str.{bytes_eq}
use Rattle.nf_cells.specs.Names.{Name, has_name, number_of, place_of, with_name, first_seen, is_once}

pub same : (a b : Name) → bytes_eq a b ≡ true → a ≡ b
same a b h = (bytes_eq-Decides a b).0 h

pub eq-self : (a : Name) → bytes_eq a a ≡ true
eq-self a = (bytes_eq-Decides a a).1 refl

either : (b : Bool) → (b ≡ true) ⊎ (b ≡ false)
either true = inl refl
either false = inr refl

pub differs-sym : (a b : Name) → bytes_eq a b ≡ false → bytes_eq b a ≡ false
differs-sym a b h = by_cases (either (bytes_eq b a))
  where
    by_cases : (bytes_eq b a ≡ true) ⊎ (bytes_eq b a ≡ false) → bytes_eq b a ≡ false
    by_cases (inl e) =
        let s : bytes_eq a b ≡ true = rw (same b a e) (eq-self a) in
        absurd (false≢true (sym h ∙ s))
    by_cases (inr e) = e

-- a name other than n is in a list where it is in the list without n
has-others : (n x : Name) (ks : List Name) → bytes_eq n x ≡ false → has_name x (filter (λ m. not (bytes_eq n m)) ks) ≡ has_name x ks
has-others n x ks d =
    any-filter_same (bytes_eq x) (λ m. not (bytes_eq n m)) true (λ k h. ap (λ m. not (bytes_eq n m)) (sym (same x k h)) ∙ ap not d) ks

-- the name that comes next is added if it is new
step : (n x : Name) (ks : List Name) → n ∷ filter (λ m. not (bytes_eq n m)) (with_name ks x) ≡ with_name (n ∷ filter (λ m. not (bytes_eq n m)) ks) x
step n x ks = by_cases (either (bytes_eq n x)) (either (has_name x ks))
  where
    by_cases : (bytes_eq n x ≡ true) ⊎ (bytes_eq n x ≡ false) → (has_name x ks ≡ true) ⊎ (has_name x ks ≡ false)
        → n ∷ filter (λ m. not (bytes_eq n m)) (with_name ks x) ≡ with_name (n ∷ filter (λ m. not (bytes_eq n m)) ks) x
    by_cases (inl e) (inl h) =
        let s : bytes_eq x n ≡ true = rw (← same n x e) (eq-self n) in
        rw (h, s) refl
    by_cases (inl e) (inr h) =
        let s : bytes_eq x n ≡ true = rw (← same n x e) (eq-self n) in
        rw (h, s, filter-append, e) (ap (λ r. n ∷ r) (append-nil _))
    by_cases (inr d) (inl h) = rw (h, has-others n x ks d, h, differs-sym n x d) refl
    by_cases (inr d) (inr h) = rw (h, has-others n x ks d, h, differs-sym n x d, filter-append, d) refl

pub first_seen-push : (xs : List Name) (x : Name) → first_seen (xs ++ x ∷ []) ≡ with_name (first_seen xs) x
unfolding first_seen
first_seen-push [] x = refl
first_seen-push (n ∷ ns) x = rw (first_seen-push ns x) (step n x (first_seen ns))

-- ---- a name that is there
pub place-less : (x : Name) (ks : List Name) → has_name x ks ≡ true → place_of x ks < length ks
place-less x [] h = absurd (false≢true h)
place-less x (k ∷ ks) h = by_cases (either (bytes_eq x k)) (place-less x ks)
  where
    by_cases : (bytes_eq x k ≡ true) ⊎ (bytes_eq x k ≡ false) → (has_name x ks ≡ true → place_of x ks < length ks) → place_of x (k ∷ ks) < length (k ∷ ks)
    by_cases (inl e) before = rw e (omega arith)
    by_cases (inr e) before =
        let rest : has_name x ks ≡ true = rw e at h in
        let below = before rest in
        rw e (omega arith)

pub at-place : (x : Name) (ks : List Name) (d : Name) → has_name x ks ≡ true → get_or ks (place_of x ks) d ≡ x
at-place x [] d h = absurd (false≢true h)
at-place x (k ∷ ks) d h = by_cases (either (bytes_eq x k)) (at-place x ks d)
  where
    by_cases : (bytes_eq x k ≡ true) ⊎ (bytes_eq x k ≡ false) → (has_name x ks ≡ true → get_or ks (place_of x ks) d ≡ x) → get_or (k ∷ ks) (place_of x (k ∷ ks)) d ≡ x
    by_cases (inl e) before = rw e (sym (same x k e))
    by_cases (inr e) before =
        let rest : has_name x ks ≡ true = rw e at h in
        let s : 1 + place_of x ks ≡ suc (place_of x ks) = omega arith in
        rw (e, s) (before rest)

absent : (x : Name) (ks : List Name) → has_name x ks ≡ false → place_of x ks ≡ length ks
absent x [] h = refl
absent x (k ∷ ks) h = by_cases (either (bytes_eq x k)) (absent x ks)
  where
    by_cases : (bytes_eq x k ≡ true) ⊎ (bytes_eq x k ≡ false) → (has_name x ks ≡ false → place_of x ks ≡ length ks) → place_of x (k ∷ ks) ≡ length (k ∷ ks)
    by_cases (inl e) before = absurd (false≢true (sym h ∙ ap (λ b. b || has_name x ks) e))
    by_cases (inr e) before =
        let rest : has_name x ks ≡ false = rw e at h in
        let all = before rest in
        rw (e, all) (omega arith)

-- a name that has a number is there
pub there : (x : Name) (ks : List Name) (i : ℕ) → number_of x ks ≡ Some i → (i ≡ place_of x ks) × (has_name x ks ≡ true)
there x ks i h = by_cases (either (has_name x ks))
  where
    by_cases : (has_name x ks ≡ true) ⊎ (has_name x ks ≡ false) → (i ≡ place_of x ks) × (has_name x ks ≡ true)
    by_cases (inl e) =
        let below = place-less x ks e in
        let is : number_of x ks ≡ Some (place_of x ks) = grind (arith, below) in
        let s : Some i ≡ Some (place_of x ks) = sym h ∙ is in
        ((cc), e)
    by_cases (inr e) =
        let all = absent x ks e in
        let is : number_of x ks ≡ None = grind (arith, all) in
        let s : Some i ≡ None = sym h ∙ is in
        absurd (cc)

pub place-end : (x : Name) (ks : List Name) → place_of x ks ≡ length ks → has_name x ks ≡ false
place-end x ks h = by_cases (either (has_name x ks))
  where
    by_cases : (has_name x ks ≡ true) ⊎ (has_name x ks ≡ false) → has_name x ks ≡ false
    by_cases (inl e) = absurd (omega (arith, place-less x ks e))
    by_cases (inr e) = e

pub place-other : (x : Name) (ks : List Name) → place_of x ks ≢ length ks → has_name x ks ≡ true
place-other x ks h = by_cases (either (has_name x ks))
  where
    by_cases : (has_name x ks ≡ true) ⊎ (has_name x ks ≡ false) → has_name x ks ≡ true
    by_cases (inl e) = e
    by_cases (inr e) = absurd (h (absent x ks e))

-- ---- names that are seen
has-append : (x : Name) (ks ls : List Name) → has_name x (ks ++ ls) ≡ (has_name x ks || has_name x ls)
has-append x ks ls = list_any-append (bytes_eq x) ks ls

-- a name is there after it was added, and those that were there still are
pub has-added : (x : Name) (ks : List Name) → has_name x (with_name ks x) ≡ true
has-added x ks = by_cases (either (has_name x ks))
  where
    by_cases : (has_name x ks ≡ true) ⊎ (has_name x ks ≡ false) → has_name x (with_name ks x) ≡ true
    by_cases (inl e) = rw e e
    by_cases (inr e) = rw (e, has-append x ks (x ∷ []), e, eq-self x) refl

pub has-still : (x y : Name) (ks : List Name) → has_name x ks ≡ true → has_name x (with_name ks y) ≡ true
has-still x y ks h = by_cases (either (has_name y ks))
  where
    by_cases : (has_name y ks ≡ true) ⊎ (has_name y ks ≡ false) → has_name x (with_name ks y) ≡ true
    by_cases (inl e) = rw e h
    by_cases (inr e) = rw (e, has-append x ks (y ∷ []), h) refl

-- ---- each name stands once
once-added : (ks : List Name) (x : Name) → has_name x ks ≡ false → is_once ks ≡ true → is_once (ks ++ x ∷ []) ≡ true
unfolding is_once
once-added [] x h o = refl
once-added (k ∷ ks) x h o = by_cases (either (has_name k ks)) (either (bytes_eq x k)) (once-added ks x)
  where
    by_cases : (has_name k ks ≡ true) ⊎ (has_name k ks ≡ false) → (bytes_eq x k ≡ true) ⊎ (bytes_eq x k ≡ false)
        → (has_name x ks ≡ false → is_once ks ≡ true → is_once (ks ++ x ∷ []) ≡ true) → is_once ((k ∷ ks) ++ x ∷ []) ≡ true
    by_cases (inl e) d before = absurd (false≢true (rw e at o))
    by_cases (inr e) (inl d) before = absurd (false≢true (sym (rw d at h)))
    by_cases (inr e) (inr d) before =
        let rest : has_name x ks ≡ false = rw d at h in
        let once : is_once ks ≡ true = rw e at o in
        rw (has-append k ks (x ∷ []), e, differs-sym x k d, before rest once) refl

pub once-with : (ks : List Name) (x : Name) → is_once ks ≡ true → is_once (with_name ks x) ≡ true
once-with ks x o = by_cases (either (has_name x ks))
  where
    by_cases : (has_name x ks ≡ true) ⊎ (has_name x ks ≡ false) → is_once (with_name ks x) ≡ true
    by_cases (inl e) = rw e o
    by_cases (inr e) = rw e (once-added ks x e o)
