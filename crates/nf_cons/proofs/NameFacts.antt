-- Facts on lists of names: which are there, where they stand, and values at their places.
use Rattle.std.proofs.Common.{◌≡◌, ◌||◌, ◌+◌, ◌++◌, ◌⊎◌, suc, Bool, true, false, not, List, [], ◌∷◌, length, map, filter, set, refl, sym, ap, ◌∙◌, inl, inr, arith}
use Rattle.std.proofs.lemmas.Bool.{false≢true, cases_Bool}
use Rattle.std.proofs.lemmas.List.Folds.{list_any-append}
use Rattle.std.proofs.lemmas.Map.Views.{any-filter_same}
use Rattle.std.specs.Str.{bytes_eq}
use Rattle.nf_cells.specs.Names.{Name, first_seen, has_name, is_once, place_of}
use Rattle.nf_cells.proofs.SeenFacts.{same, eq-self, differs-sym}

-- ---- which names are there
has-others : (n x : Name) (ks : List Name) → bytes_eq n x ≡ false → has_name x (filter (λ m. not (bytes_eq n m)) ks) ≡ has_name x ks
has-others n x ks d =
    any-filter_same (bytes_eq x) (λ m. not (bytes_eq n m)) true (λ k h. ap (λ m. not (bytes_eq n m)) (sym (same x k h)) ∙ ap not d) ks

-- A name is seen where it is there.
pub has-seen : (x : Name) (ns : List Name) → has_name x (first_seen ns) ≡ has_name x ns
unfolding first_seen
has-seen x [] = refl
has-seen x (n ∷ ns) = by_cases (cases_Bool (bytes_eq x n)) (has-seen x ns)
  where
    by_cases : (bytes_eq x n ≡ true) ⊎ (bytes_eq x n ≡ false) → has_name x (first_seen ns) ≡ has_name x ns → has_name x (first_seen (n ∷ ns)) ≡ has_name x (n ∷ ns)
    by_cases (inl e) before = rw e refl
    by_cases (inr d) before = rw (d, has-others n x (first_seen ns) (differs-sym x n d)) before

or-true : (b : Bool) → (b || true) ≡ true
or-true true = refl
or-true false = refl

-- A name of the rest is one of all.
pub has-rest : (x k : Name) (ks : List Name) → has_name x ks ≡ true → has_name x (k ∷ ks) ≡ true
has-rest x k ks h = rw h (or-true (bytes_eq x k))

pub has-end : (x : Name) (ks : List Name) → has_name x (ks ++ x ∷ []) ≡ true
has-end x ks = rw (list_any-append (bytes_eq x) ks (x ∷ []), eq-self x) (or-true (has_name x ks))

pub has-front : (x : Name) (ks ls : List Name) → has_name x ks ≡ true → has_name x (ks ++ ls) ≡ true
has-front x ks ls h = rw (list_any-append (bytes_eq x) ks ls, h) refl

pub has-back : (x : Name) (ks ls : List Name) → has_name x ls ≡ true → has_name x (ks ++ ls) ≡ true
has-back x ks ls h = rw (list_any-append (bytes_eq x) ks ls, h) (or-true (has_name x ks))

pub not-same : (ks : List Name) (n x : Name) → has_name n ks ≡ false → has_name x ks ≡ true → bytes_eq n x ≡ false
not-same ks n x u h = by_cases (cases_Bool (bytes_eq n x))
  where
    by_cases : (bytes_eq n x ≡ true) ⊎ (bytes_eq n x ≡ false) → bytes_eq n x ≡ false
    by_cases (inl e) = absurd (false≢true (sym u ∙ rw (sym (same n x e)) at h))
    by_cases (inr e) = e

-- ---- values at the places of names
pub agree : {A : Type 0} (f g : Name → A) (ks : List Name) → ((x : Name) → has_name x ks ≡ true → g x ≡ f x) → map f ks ≡ map g ks
agree f g [] o = refl
agree f g (k ∷ ks) o =
    let head : g k ≡ f k = o k (rw (eq-self k) refl) in
    rw (agree f g ks (λ x h. o x (has-rest x k ks h)), head) refl

pub set-at : {A : Type 0} (f g : Name → A) (n : Name) (v : A) (ks : List Name) → is_once ks ≡ true → has_name n ks ≡ true → g n ≡ v
    → ((x : Name) → has_name x ks ≡ true → bytes_eq n x ≡ false → g x ≡ f x) → set (map f ks) (place_of n ks) v ≡ map g ks
unfolding is_once
set-at f g n v [] once h is o = absurd (false≢true h)
set-at f g n v (k ∷ ks) once h is o = by_cases (cases_Bool (bytes_eq n k)) (cases_Bool (has_name k ks)) (set-at f g n v ks)
  where
    by_cases : (bytes_eq n k ≡ true) ⊎ (bytes_eq n k ≡ false) → (has_name k ks ≡ true) ⊎ (has_name k ks ≡ false)
        → (is_once ks ≡ true → has_name n ks ≡ true → g n ≡ v → ((x : Name) → has_name x ks ≡ true → bytes_eq n x ≡ false → g x ≡ f x) → set (map f ks) (place_of n ks) v ≡ map g ks)
        → set (map f (k ∷ ks)) (place_of n (k ∷ ks)) v ≡ map g (k ∷ ks)
    by_cases d (inl r) before = absurd (false≢true (rw r at once))
    by_cases (inl e) (inr r) before =
        let k_is : n ≡ k = same n k e in
        let absent : has_name n ks ≡ false = rw (← k_is) at r in
        let head : g k ≡ v = rw (← k_is) is in
        rw (e, head, agree f g ks (λ x hx. o x (has-rest x k ks hx) (not-same ks n x absent hx))) refl
    by_cases (inr e) (inr r) before =
        let rest : has_name n ks ≡ true = rw e at h in
        let after : is_once ks ≡ true = rw r at once in
        let s : 1 + place_of n ks ≡ suc (place_of n ks) = omega arith in
        let head : g k ≡ f k = o k (rw (eq-self k) refl) e in
        rw (e, s, before after rest is (λ x hx d. o x (has-rest x k ks hx) d), head) refl

-- ---- places
-- The place of a name that is there, where more names come behind.
pub place-front : (x : Name) (ks ls : List Name) → has_name x ks ≡ true → place_of x (ks ++ ls) ≡ place_of x ks
place-front x [] ls h = absurd (false≢true h)
place-front x (k ∷ ks) ls h = by_cases (cases_Bool (bytes_eq x k)) (place-front x ks ls)
  where
    by_cases : (bytes_eq x k ≡ true) ⊎ (bytes_eq x k ≡ false) → (has_name x ks ≡ true → place_of x (ks ++ ls) ≡ place_of x ks) → place_of x ((k ∷ ks) ++ ls) ≡ place_of x (k ∷ ks)
    by_cases (inl e) before = rw e refl
    by_cases (inr e) before =
        let rest : has_name x ks ≡ true = rw e at h in
        rw (e, before rest) refl

-- The place of a name that is not there.
pub place-back : (x : Name) (ks ls : List Name) → has_name x ks ≡ false → place_of x (ks ++ ls) ≡ length ks + place_of x ls
place-back x [] ls h = omega arith
place-back x (k ∷ ks) ls h = by_cases (cases_Bool (bytes_eq x k)) (place-back x ks ls)
  where
    by_cases : (bytes_eq x k ≡ true) ⊎ (bytes_eq x k ≡ false) → (has_name x ks ≡ false → place_of x (ks ++ ls) ≡ length ks + place_of x ls) → place_of x ((k ∷ ks) ++ ls) ≡ length (k ∷ ks) + place_of x ls
    by_cases (inl e) before = absurd (false≢true (sym (rw e at h)))
    by_cases (inr e) before =
        let rest : has_name x ks ≡ false = rw e at h in
        let next = before rest in
        rw (e, next) (omega arith)

pub place-self : (x : Name) → place_of x (x ∷ []) ≡ 0
place-self x = rw (eq-self x) refl

pub place-none : (x : Name) (ks : List Name) → has_name x ks ≡ false → place_of x (ks ++ x ∷ []) ≡ length ks
place-none x ks h = place-back x ks (x ∷ []) h ∙ rw (place-self x) (omega arith)
