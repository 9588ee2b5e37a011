-- Facts on the keys of arcs.
use Rattle.std.proofs.Common.{◌≡◌, ◌++◌, ◌⊎◌, true, false, cond, List, [], ◌∷◌, map, get_or, nat_eq, refl, sym, ap, ◌∙◌, inl, inr}
use Rattle.std.proofs.lemmas.Bool.{false≢true, cases_Bool}
use Rattle.std.proofs.lemmas.Bool.Decides.{Decides-eqb}
use Rattle.std.proofs.lemmas.List.{map-append}
use Rattle.std.specs.List.{list_any}
use Rattle.std.specs.Str.{bytes_eq}
use Rattle.nf_cells.specs.Names.{Name, has_name, place_of, with_name}
use Rattle.nf_cells.proofs.SeenFacts.{same, eq-self, at-place, has-still}
use Rattle.nf_network.specs.Rows.{ArcRow}
use Rattle.nf_network.specs.Arcs.{tail_of, head_of, same_arc}
use Rattle.nf_network.specs.Pass.{AreNamed}
use Rattle.nf_network.specs.Keys.{Key, same_key, has_key, key_in}

pub any-map : {A : Type 0} (f : A → Key) (k : Key) (ks : List A) → has_key k (map f ks) ≡ list_any (λ a. same_key k (f a)) ks
any-map f k [] = refl
any-map f k (a ∷ ks) = rw (any-map f k ks) refl

pub key-added : {A : Type 0} (f : A → Key) (a : A) (ks : List A) → has_key (f a) (map f ks) ≡ false
    → map f (cond (list_any (λ b. same_key (f a) (f b)) ks) ks (ks ++ a ∷ [])) ≡ map f ks ++ f a ∷ []
key-added f a ks h =
    let e : list_any (λ b. same_key (f a) (f b)) ks ≡ false = sym (any-map f (f a) ks) ∙ h in
    rw e (map-append f ks (a ∷ []))

-- ---- places tell names
pub place-tells : (x y : Name) (ks : List Name) → has_name x ks ≡ true → has_name y ks ≡ true → nat_eq (place_of x ks) (place_of y ks) ≡ bytes_eq x y
place-tells x y ks hx hy = by_cases (cases_Bool (bytes_eq x y)) (cases_Bool (nat_eq (place_of x ks) (place_of y ks)))
  where
    by_cases : (bytes_eq x y ≡ true) ⊎ (bytes_eq x y ≡ false) → (nat_eq (place_of x ks) (place_of y ks) ≡ true) ⊎ (nat_eq (place_of x ks) (place_of y ks) ≡ false)
        → nat_eq (place_of x ks) (place_of y ks) ≡ bytes_eq x y
    by_cases (inl e) (inl p) = p ∙ sym e
    by_cases (inl e) (inr p) =
        let is : nat_eq (place_of x ks) (place_of y ks) ≡ true = (Decides-eqb (place_of x ks) (place_of y ks)).1 (ap (λ n. place_of n ks) (same x y e)) in
        is ∙ sym e
    by_cases (inr e) (inl p) =
        let at : place_of x ks ≡ place_of y ks = (Decides-eqb (place_of x ks) (place_of y ks)).0 p in
        let names : x ≡ y = sym (at-place x ks [] hx) ∙ ap (λ i. get_or ks i []) at ∙ at-place y ks [] hy in
        let good : bytes_eq x y ≡ true = rw names (eq-self y) in
        absurd (false≢true (sym e ∙ good))
    by_cases (inr e) (inr p) = p ∙ sym e

pub named-still : (ks : List Name) (n : Name) (qs : List ArcRow) → AreNamed ks qs → AreNamed (with_name ks n) qs
named-still ks n [] a = tt
named-still ks n (q ∷ qs) a = (has-still (tail_of q) n ks a.0, (has-still (head_of q) n ks a.1.0, named-still ks n qs a.1.1))

pub named-push : (ks : List Name) (r : ArcRow) (qs : List ArcRow) → AreNamed ks qs → has_name (tail_of r) ks ≡ true → has_name (head_of r) ks ≡ true → AreNamed ks (qs ++ r ∷ [])
named-push ks r [] a t h = (t, (h, tt))
named-push ks r (q ∷ qs) a t h = (a.0, (a.1.0, named-push ks r qs a.1.1 t h))

-- a row repeats an arc where its key is there
pub same-any : (ks : List Name) (r : ArcRow) (qs : List ArcRow) → has_name (tail_of r) ks ≡ true → has_name (head_of r) ks ≡ true → AreNamed ks qs
    → has_key (key_in ks r) (map (key_in ks) qs) ≡ list_any (same_arc r) qs
same-any ks r [] t h a = refl
same-any ks r (q ∷ qs) t h a = rw (place-tells (tail_of r) (tail_of q) ks t a.0, place-tells (head_of r) (head_of q) ks h a.1.0, same-any ks r qs t h a.1.1) refl

-- a place stays where more names come
place-append : (x : Name) (ks ls : List Name) → has_name x ks ≡ true → place_of x (ks ++ ls) ≡ place_of x ks
place-append x [] ls h = absurd (false≢true h)
place-append x (k ∷ ks) ls h = by_cases (cases_Bool (bytes_eq x k)) (place-append x ks ls)
  where
    by_cases : (bytes_eq x k ≡ true) ⊎ (bytes_eq x k ≡ false) → (has_name x ks ≡ true → place_of x (ks ++ ls) ≡ place_of x ks) → place_of x ((k ∷ ks) ++ ls) ≡ place_of x (k ∷ ks)
    by_cases (inl e) before = rw e refl
    by_cases (inr e) before =
        let rest : has_name x ks ≡ true = rw e at h in
        rw (e, before rest) refl

pub place-still : (x n : Name) (ks : List Name) → has_name x ks ≡ true → place_of x (with_name ks n) ≡ place_of x ks
place-still x n ks h = by_cases (cases_Bool (has_name n ks))
  where
    by_cases : (has_name n ks ≡ true) ⊎ (has_name n ks ≡ false) → place_of x (with_name ks n) ≡ place_of x ks
    by_cases (inl e) = rw e refl
    by_cases (inr e) = rw e (place-append x ks (n ∷ []) h)

pub keys-still : (ks : List Name) (n : Name) (qs : List ArcRow) → AreNamed ks qs → map (key_in (with_name ks n)) qs ≡ map (key_in ks) qs
keys-still ks n [] a = refl
keys-still ks n (q ∷ qs) a = rw (place-still (tail_of q) n ks a.0, place-still (head_of q) n ks a.1.0, keys-still ks n qs a.1.1) refl
