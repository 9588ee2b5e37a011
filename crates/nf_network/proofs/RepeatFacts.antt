-- Facts on repeated arcs: keys with their names beside them, sets of places, and what a set of some arcs tells of all.
use Rattle.std.proofs.Common.{◌≡◌, ◌≤◌, ◌<◌, ◌+◌, ◌/◌, ◌++◌, ◌&&◌, ◌||◌, ◌⊎◌, ℕ, zero, suc, Bool, true, false, not, List, [], ◌∷◌, length, map, take, get_or, nat_eq, subst, refl, sym, ap, ◌∙◌, inl, inr, arith}
use Rattle.std.proofs.lemmas.Bool.{cases_Bool, cases_lt, false≢true}
use Rattle.std.proofs.Math.Bool.{or-false, or-true}
use Rattle.std.proofs.lemmas.Bool.Decides.{Decides-eqb}
use Rattle.std.proofs.lemmas.List.{get_or_append_left, length-append, take_all, take-append-le}
use Rattle.std.proofs.Math.Seq.{get_or-append_seam, take-append_seam}
use Rattle.std.proofs.lemmas.List.Folds.{list_any-append}
use Rattle.std.specs.Str.{bytes_eq}
use Rattle.nf_bits.specs.Bits.{has_number, with_number}
use Rattle.nf_bits.proofs.BitFacts.{has-here, has-still}
use Rattle.nf_cells.specs.Names.{Name}
use Rattle.nf_labels.specs.Labels.{LabelList, no_labels}
use Rattle.nf_network.specs.Excess.{joined_below}
use Rattle.nf_network.specs.Keys.{Key, has_key, no_key, same_key}
use Rattle.nf_network.specs.KeysInside.{keys_of}
use Rattle.nf_network.specs.Making.{name_at}
use Rattle.nf_network.specs.Repeats.{AreShared, AreTaken, is_met, place_in, repeats}
use Rattle.nf_network.proofs.Lists.{joined-map}

-- ---- keys by ends and names
pub of-length : (es : List (ℕ × ℕ)) (ns : List Name) → length es ≡ length ns → length (keys_of es ns) ≡ length es
of-length [] ns h = refl
of-length (e ∷ es) [] h = absurd (omega (arith, h))
of-length (e ∷ es) (n ∷ ns) h = ap suc (of-length es ns (omega (arith, h)))

pub of-push : (es : List (ℕ × ℕ)) (ns : List Name) (t h : ℕ) (n : Name) → length es ≡ length ns → keys_of (es ++ (t, h) ∷ []) (ns ++ n ∷ []) ≡ keys_of es ns ++ record { tail = t; head = h; name = n } ∷ []
of-push [] [] t h n e = refl
of-push [] (m ∷ ns) t h n e = absurd (omega (arith, e))
of-push (d ∷ es) [] t h n e = absurd (omega (arith, e))
of-push (d ∷ es) (m ∷ ns) t h n e = ap (λ ks. record { tail = d.0; head = d.1; name = m } ∷ ks) (of-push es ns t h n (omega (arith, e)))

pub of-at : (es : List (ℕ × ℕ)) (ns : List Name) (i : ℕ) (d : ℕ × ℕ) → length es ≡ length ns → i < length es
    → get_or (keys_of es ns) i no_key ≡ record { tail = (get_or es i d).0; head = (get_or es i d).1; name = get_or ns i [] }
of-at [] ns i d h below = absurd (omega (arith, below))
of-at (e ∷ es) [] i d h below = absurd (omega (arith, h))
of-at (e ∷ es) (n ∷ ns) zero d h below = refl
of-at (e ∷ es) (n ∷ ns) (suc i) d h below = of-at es ns i d (omega (arith, h)) (omega (arith, below))

names-mapped : (es : List (ℕ × ℕ)) (ns : List Name) → length es ≡ length ns → map (λ (k : Key). k.name) (keys_of es ns) ≡ ns
names-mapped [] [] h = refl
names-mapped [] (n ∷ ns) h = absurd (omega (arith, h))
names-mapped (e ∷ es) [] h = absurd (omega (arith, h))
names-mapped (e ∷ es) (n ∷ ns) h = ap (λ ms. n ∷ ms) (names-mapped es ns (omega (arith, h)))

pub of-names : (es : List (ℕ × ℕ)) (ns : List Name) → length es ≡ length ns → joined_below (length (keys_of es ns)) (name_at (keys_of es ns)) ≡ ns
of-names es ns h =
    joined-map (λ (k : Key). k.name) (λ i. (get_or (keys_of es ns) i no_key).name) (keys_of es ns) no_key (length (keys_of es ns)) (omega arith) (λ k below. refl)
    ∙ ap (map (λ (k : Key). k.name)) (take_all (length (keys_of es ns)) (keys_of es ns) (omega arith))
    ∙ names-mapped es ns h

-- the labels of one arc more
pub alone-more : (old new : LabelList) (n : Name) → old ≡ record no_labels { columns = old.columns; own_arcs = length old.columns } → new ≡ record old { columns = old.columns ++ n ∷ []; own_arcs = old.own_arcs + 1 }
    → new ≡ record no_labels { columns = new.columns; own_arcs = length new.columns }
alone-more old new n h e =
    let own : old.own_arcs + 1 ≡ length (old.columns ++ n ∷ []) = ap (λ l. l.own_arcs + 1) h ∙ sym (length-append old.columns (n ∷ [])) in
    let grown : record old { columns = old.columns ++ n ∷ []; own_arcs = old.own_arcs + 1 } ≡ record no_labels { columns = old.columns ++ n ∷ []; own_arcs = old.own_arcs + 1 } =
    rw h refl in
    rw e (grown ∙ rw own refl)

-- ---- tests
both-true : (a b : Bool) → (a && b) ≡ true → (a ≡ true) × (b ≡ true)
both-true true b h = (refl, h)
both-true false b h = absurd (false≢true h)

second-true : (a b : Bool) → b ≡ true → (a || b) ≡ true
second-true a b h = rw h (or-true a)

-- ---- places that are taken, and such that are shared
pub taken-none : (words : List ℕ) (n : ℕ) → AreTaken words n []
taken-none words n = λ k h. absurd (false≢true h)

pub shared-none : (words : List ℕ) (n : ℕ) → AreShared words n []
shared-none words n = λ j below h. absurd (omega (arith, below))

met-push : (n : ℕ) (x k : Key) (ks : List Key) → is_met n x (ks ++ k ∷ []) ≡ true → (is_met n x ks ≡ true) ⊎ (place_in n x ≡ place_in n k)
met-push n x k ks h = by_cases (cases_Bool (is_met n x ks))
  where
    by_cases : (is_met n x ks ≡ true) ⊎ (is_met n x ks ≡ false) → (is_met n x ks ≡ true) ⊎ (place_in n x ≡ place_in n k)
    by_cases (inl e) = inl e
    by_cases (inr e) =
        let split : is_met n x (ks ++ k ∷ []) ≡ (is_met n x ks || is_met n x (k ∷ [])) = list_any-append (λ l. nat_eq (place_in n x) (place_in n l)) ks (k ∷ []) in
        let last : nat_eq (place_in n x) (place_in n k) ≡ true = sym (or-false (nat_eq (place_in n x) (place_in n k))) ∙ rw e at (sym split ∙ h) in
        inr ((Decides-eqb (place_in n x) (place_in n k)).0 last)

pub taken-more : (words : List ℕ) (n : ℕ) (ks : List Key) (k : Key) → place_in n k / 64 < length words → AreTaken words n ks → AreTaken (with_number words (place_in n k)) n (ks ++ k ∷ [])
taken-more words n ks k within t = λ x h. elim (met-push n x k ks h) [
  | inl m ↦ has-still words (place_in n k) (place_in n x) within (t x m)
  | inr e ↦ subst (λ p. has_number (with_number words (place_in n k)) p ≡ true) (sym e) (has-here words (place_in n k) within)
]

-- an arc more, whose place is in the set if one before it has it
pub shared-more : (words new : List ℕ) (n : ℕ) (ks : List Key) (k : Key) → ((q : ℕ) → has_number words q ≡ true → has_number new q ≡ true) → (is_met n k ks ≡ true → has_number new (place_in n k) ≡ true)
    → AreShared words n ks → AreShared new n (ks ++ k ∷ [])
shared-more words new n ks k grows here s = λ j below h. by_cases j below h (cases_lt j (length ks))
  where
    by_cases : (j : ℕ) → j < length (ks ++ k ∷ []) → is_met n (get_or (ks ++ k ∷ []) j no_key) (take j (ks ++ k ∷ [])) ≡ true → (j < length ks) ⊎ (length ks ≤ j)
        → has_number new (place_in n (get_or (ks ++ k ∷ []) j no_key)) ≡ true
    by_cases j below h (inl less) =
        let at = get_or_append_left ks (k ∷ []) no_key j less in
        let front = take-append-le j ks (k ∷ []) (omega (arith, less)) in
        let met : is_met n (get_or ks j no_key) (take j ks) ≡ true = rw (at, front) at h in
        rw at (grows (place_in n (get_or ks j no_key)) (s j less met))
    by_cases j below h (inr last) =
        let size : length (ks ++ k ∷ []) ≡ length ks + 1 = length-append ks (k ∷ []) in
        let is : j ≡ length ks = omega (arith, last, below, size) in
        let at : get_or (ks ++ k ∷ []) j no_key ≡ k = rw is (get_or-append_seam ks k [] no_key) in
        let front : take j (ks ++ k ∷ []) ≡ ks = rw is (take-append_seam ks (k ∷ [])) in
        let met : is_met n k ks ≡ true = rw (at, front) at h in
        rw at (here met)

-- where the set of taken places tells that none before it has its place
pub alone : (words : List ℕ) (n : ℕ) (ks : List Key) (k : Key) → AreTaken words n ks → has_number words (place_in n k) ≡ false → is_met n k ks ≡ true → ⊥
alone words n ks k t free met = false≢true (sym free ∙ t k met)

-- ---- an arc that repeats another has its place
same-place : (n : ℕ) (k l : Key) → same_key k l ≡ true → place_in n k ≡ place_in n l
same-place n k l h =
    let ends = both-true (nat_eq k.tail l.tail) (nat_eq k.head l.head) (both-true (nat_eq k.tail l.tail && nat_eq k.head l.head) (bytes_eq k.name l.name) h).0 in
    let tails : k.tail ≡ l.tail = (Decides-eqb k.tail l.tail).0 ends.0 in
    let heads : k.head ≡ l.head = (Decides-eqb k.head l.head).0 ends.1 in
    rw (tails, heads) refl

met-if : (n : ℕ) (k : Key) (ks : List Key) → has_key k ks ≡ true → is_met n k ks ≡ true
met-if n k [] h = h
met-if n k (l ∷ ks) h = by_cases (cases_Bool (same_key k l)) (met-if n k ks)
  where
    by_cases : (same_key k l ≡ true) ⊎ (same_key k l ≡ false) → (has_key k ks ≡ true → is_met n k ks ≡ true) → is_met n k (l ∷ ks) ≡ true
    by_cases (inl e) below = let here : nat_eq (place_in n k) (place_in n l) ≡ true = (Decides-eqb (place_in n k) (place_in n l)).1 (same-place n k l e) in rw here refl
    by_cases (inr e) below = second-true (nat_eq (place_in n k) (place_in n l)) (is_met n k ks) (below (rw e at h))

-- an arc whose place is its own repeats none
pub not-met : (words : List ℕ) (n : ℕ) (ks : List Key) (i : ℕ) → AreShared words n ks → i < length ks → has_number words (place_in n (get_or ks i no_key)) ≡ false → repeats ks i ≡ false
not-met words n ks i s below free = by_cases (cases_Bool (repeats ks i))
  where
    by_cases : (repeats ks i ≡ true) ⊎ (repeats ks i ≡ false) → repeats ks i ≡ false
    by_cases (inl e) = absurd (false≢true (sym free ∙ s i below (met-if n (get_or ks i no_key) (take i ks) e)))
    by_cases (inr e) = e

-- ---- the set of those whose place is another's too
-- it tells for each such arc whether it is among these arcs
abbrev pub TellsOf : List ℕ → ℕ → List Key → List Key → Type 0
TellsOf words n seen ks = (x : Key) → has_number words (place_in n x) ≡ true → has_key x seen ≡ has_key x ks

pub tells-none : (words : List ℕ) (n : ℕ) → TellsOf words n [] []
tells-none words n = λ x h. refl

not-true : (b : Bool) → not b ≡ true → b ≡ false
not-true true h = sym h
not-true false h = refl

not-false : (b : Bool) → not b ≡ false → b ≡ true
not-false true h = refl
not-false false h = sym h

has-push : (x k : Key) (ks : List Key) → has_key x (ks ++ k ∷ []) ≡ (has_key x ks || has_key x (k ∷ []))
has-push x k ks = list_any-append (same_key x) ks (k ∷ [])

pub tells-both : (words : List ℕ) (n : ℕ) (seen ks : List Key) (k : Key) → TellsOf words n seen ks → TellsOf words n (seen ++ k ∷ []) (ks ++ k ∷ [])
tells-both words n seen ks k t = λ x h. rw (has-push x k seen, has-push x k ks, t x h) refl

pub tells-still : (words : List ℕ) (n : ℕ) (seen ks : List Key) (k : Key) → has_number words (place_in n k) ≡ false → TellsOf words n seen ks → TellsOf words n seen (ks ++ k ∷ [])
tells-still words n seen ks k few t = λ x h. by_cases x h (cases_Bool (same_key x k))
  where
    by_cases : (x : Key) → has_number words (place_in n x) ≡ true → (same_key x k ≡ true) ⊎ (same_key x k ≡ false) → has_key x seen ≡ has_key x (ks ++ k ∷ [])
    by_cases x h (inl e) =
        absurd (false≢true (sym few ∙ ap (has_number words) (sym (same-place n x k e)) ∙ h))
    by_cases x h (inr e) = t x h ∙ sym (rw (has-push x k ks, e) (or-false (has_key x ks)))

-- one of them is new
pub fresh-next : (words : List ℕ) (n : ℕ) (seen new front : List Key) (a k : Key) (b : Bool) → a ≡ k → b ≡ not (has_key a seen) → b ≡ true → (has_key a seen ≡ false → new ≡ seen ++ a ∷ []) → has_number words (place_in n k) ≡ true
    → TellsOf words n seen front → (has_key k front ≡ false) × TellsOf words n new (front ++ k ∷ [])
fresh-next words n seen new front a k b same is new_one added shared t =
    let fresh : has_key a seen ≡ false = not-true (has_key a seen) (sym is ∙ new_one) in
    let clear : has_key k front ≡ false = sym (t k shared) ∙ ap (λ x. has_key x seen) (sym same) ∙ fresh in
    (clear, rw (added fresh, same) (tells-both words n seen front k t))

-- or it is not
pub known-repeats : (words : List ℕ) (n : ℕ) (seen front : List Key) (a k : Key) (b : Bool) → a ≡ k → b ≡ not (has_key a seen) → b ≡ false → has_number words (place_in n k) ≡ true → TellsOf words n seen front → has_key k front ≡ true
known-repeats words n seen front a k b same is old_one shared t =
    let known : has_key a seen ≡ true = not-false (has_key a seen) (sym is ∙ old_one) in
    sym (t k shared) ∙ ap (λ x. has_key x seen) (sym same) ∙ known

pub clear-more : (ks : List Key) (i : ℕ) → ((k : ℕ) → k < i → repeats ks k ≡ false) → repeats ks i ≡ false → (k : ℕ) → k < i + 1 → repeats ks k ≡ false
clear-more ks i before here k below = elim (cases_lt k i) [
  | inl less ↦ before k less
  | inr last ↦ let is : k ≡ i = omega (arith, last, below) in rw is here
]
