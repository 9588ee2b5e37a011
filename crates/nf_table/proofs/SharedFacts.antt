-- Names whose place among many is another's too, and what a set of these says of all.
use Rattle.std.proofs.Common.{◌≡◌, ◌∙◌, ◌+◌, ◌<◌, ◌/◌, ◌%◌, ◌++◌, ◌∷◌, ◌||◌, ◌&&◌, ◌⊎◌, cond, if◌then◌else◌, ℕ, List, [], Some, true, false, fold, length, take, drop, nat_eq, refl, sym, ap, subst, arith, inl, inr}
use Rattle.std.proofs.lemmas.Bool.{cases_Bool, false≢true}
use Rattle.std.proofs.lemmas.Bool.Decides.{Decides-eqb, eqb_tells}
use Rattle.std.proofs.Math.Bool.{or-false}
use Rattle.std.proofs.lemmas.List.{take-append-drop}
use Rattle.std.proofs.lemmas.List.Folds.{list_any-append}
use Rattle.std.proofs.lemmas.List.Sums.{sum_by-append}
use Rattle.std.proofs.lemmas.Slice.Eq.{bytes_eq-Decides}
use Rattle.std.specs.List.{list_any}
use Rattle.std.specs.Str.{bytes_eq, str_to_ascii_lowercase}
use Rattle.csv.specs.Records.{field_at}
use Rattle.nf_bits.specs.Bits.{has_number, with_number}
use Rattle.nf_bits.proofs.BitFacts.{has-here, has-still}
use Rattle.nf_table.specs.Grid.{Cells, same_name}
use Rattle.nf_table.specs.Shared.{AreMet, AreShared, place_of, times_at, with_byte}
use Rattle.nf_table.proofs.NameFacts.{drop-cell}

-- ---- how many names have a place
times-more : (places p : ℕ) (names : Cells) (n : List ℕ) → times_at places p (names ++ n ∷ []) ≡ times_at places p names + cond (nat_eq p (place_of places n)) 1 0
times-more places p names n = sum_by-append (λ name. cond (nat_eq p (place_of places name)) 1 0) names (n ∷ []) ∙ ap (λ t. times_at places p names + t) (one (cond (nat_eq p (place_of places n)) 1 0))
  where
    one : (t : ℕ) → 0 + t ≡ t
    one t = omega arith

pub met-none : (words : List ℕ) (places : ℕ) → AreMet words places []
met-none words places = λ p h. absurd (omega (arith, h))

pub shared-none : (words : List ℕ) (places : ℕ) → AreShared words places []
shared-none words places = λ p h. absurd (omega (arith, h))

pub met-more : (words : List ℕ) (places : ℕ) (names : Cells) (n : List ℕ) → place_of places n / 64 < length words → AreMet words places names → AreMet (with_number words (place_of places n)) places (names ++ n ∷ [])
met-more words places names n room met = λ p h. elim (eqb_tells p (place_of places n)) [
  | inl e ↦ subst (λ q. has_number (with_number words (place_of places n)) q ≡ true) (sym e.1) (has-here words (place_of places n) room)
  | inr e ↦
      let same : times_at places p (names ++ n ∷ []) ≡ times_at places p names + 0 = rw e.0 at (times-more places p names n) in
      has-still words (place_of places n) p room (met p (omega (arith, h, same)))
]

-- a name more whose place was met before
pub shared-met : (words : List ℕ) (places : ℕ) (names : Cells) (n : List ℕ) → place_of places n / 64 < length words → AreShared words places names → AreShared (with_number words (place_of places n)) places (names ++ n ∷ [])
shared-met words places names n room shared = λ p h. elim (eqb_tells p (place_of places n)) [
  | inl e ↦ subst (λ q. has_number (with_number words (place_of places n)) q ≡ true) (sym e.1) (has-here words (place_of places n) room)
  | inr e ↦
      let same : times_at places p (names ++ n ∷ []) ≡ times_at places p names + 0 = rw e.0 at (times-more places p names n) in
      has-still words (place_of places n) p room (shared p (omega (arith, h, same)))
]

-- and one whose place was not
pub shared-new : (met words : List ℕ) (places : ℕ) (names : Cells) (n : List ℕ) → AreMet met places names → has_number met (place_of places n) ≡ false → AreShared words places names → AreShared words places (names ++ n ∷ [])
shared-new met words places names n all free shared = λ p h. elim (eqb_tells p (place_of places n)) [
  | inl e ↦
      let more : times_at places p (names ++ n ∷ []) ≡ times_at places p names + 1 = rw e.0 at (times-more places p names n) in
      let has : has_number met p ≡ true = all p (omega (arith, h, more)) in
      absurd (false≢true (sym free ∙ subst (λ q. has_number met q ≡ true) e.1 has))
  | inr e ↦
      let same : times_at places p (names ++ n ∷ []) ≡ times_at places p names + 0 = rw e.0 at (times-more places p names n) in
      shared p (omega (arith, h, same))
]

-- ---- names that are the same have the same place
same-letters : (a b : List ℕ) → same_name a b ≡ true → str_to_ascii_lowercase a ≡ str_to_ascii_lowercase b
same-letters a b h = (bytes_eq-Decides (str_to_ascii_lowercase a) (str_to_ascii_lowercase b)).0 h

same-place : (places : ℕ) (a b : List ℕ) → same_name a b ≡ true → place_of places a ≡ place_of places b
same-place places a b h = ap (λ letters. fold with_byte 0 letters % places) (same-letters a b h)

any-times : (places : ℕ) (n : List ℕ) (names : Cells) → list_any (same_name n) names ≡ true → 0 < times_at places (place_of places n) names
any-times places n [] h = absurd (false≢true h)
any-times places n (m ∷ names) h = by_cases (cases_Bool (same_name n m)) (any-times places n names)
  where
    p : ℕ
    p = place_of places n

    split : times_at places p (m ∷ names) ≡ times_at places p (m ∷ []) + times_at places p names
    split = sum_by-append (λ name. cond (nat_eq (place_of places n) (place_of places name)) 1 0) (m ∷ []) names

    by_cases : (same_name n m ≡ true) ⊎ (same_name n m ≡ false) → (list_any (same_name n) names ≡ true → 0 < times_at places p names) → 0 < times_at places p (m ∷ names)
    by_cases (inl e) before =
        let here : nat_eq p (place_of places m) ≡ true = (Decides-eqb p (place_of places m)).1 (same-place places n m e) in
        let one : times_at places p (m ∷ []) ≡ 1 = rw here refl in
        omega (arith, split, one)
    by_cases (inr e) before =
        let rest = before (rw e at h) in
        omega (arith, split, rest)

-- a name whose place is its own is the same as none before it
pub alone : (words : List ℕ) (places : ℕ) (names : Cells) (i : ℕ) (n : List ℕ) → AreShared words places names → field_at names i ≡ Some n → has_number words (place_of places n) ≡ false → list_any (same_name n) (take i names) ≡ false
alone words places names i n shared at free = by_cases (cases_Bool (list_any (same_name n) (take i names)))
  where
    p : ℕ
    p = place_of places n

    times : List ℕ → ℕ
    times name = cond (nat_eq (place_of places n) (place_of places name)) 1 0

    by_cases : (list_any (same_name n) (take i names) ≡ true) ⊎ (list_any (same_name n) (take i names) ≡ false) → list_any (same_name n) (take i names) ≡ false
    by_cases (inl e) =
        let before : 0 < times_at places p (take i names) = any-times places n (take i names) e in
        let here : nat_eq p p ≡ true = (Decides-eqb p p).1 refl in
        let one : times_at places p (n ∷ []) ≡ 1 = rw here refl in
        let rest : times_at places p (n ∷ drop (i + 1) names) ≡ times_at places p (n ∷ []) + times_at places p (drop (i + 1) names) = sum_by-append times (n ∷ []) (drop (i + 1) names) in
        let whole : times_at places p (take i names ++ n ∷ drop (i + 1) names) ≡ times_at places p (take i names) + times_at places p (n ∷ drop (i + 1) names) = sum_by-append times (take i names) (n ∷ drop (i + 1) names) in
        let is : take i names ++ n ∷ drop (i + 1) names ≡ names = rw (sym (drop-cell names i n at)) (take-append-drop i names) in
        let all : times_at places p names ≡ times_at places p (take i names) + times_at places p (n ∷ drop (i + 1) names) = ap (times_at places p) (sym is) ∙ whole in
        absurd (false≢true (sym free ∙ shared p (omega (arith, all, before, rest, one))))
    by_cases (inr e) = e

-- ---- the set of those whose place is another's too says for each such name whether it is among these
abbrev pub TellsOf : List ℕ → ℕ → Cells → Cells → Type 0
TellsOf words places seen names = (x : List ℕ) → has_number words (place_of places x) ≡ true → list_any (bytes_eq (str_to_ascii_lowercase x)) seen ≡ list_any (same_name x) names

pub tells-none : (words : List ℕ) (places : ℕ) → TellsOf words places [] []
tells-none words places = λ x h. refl

pub tells-more : (words : List ℕ) (places : ℕ) (seen new names : Cells) (n : List ℕ) → TellsOf words places seen names
    → new ≡ seen ++ (if has_number words (place_of places n) then str_to_ascii_lowercase n ∷ [] else []) → TellsOf words places new (names ++ n ∷ [])
tells-more words places seen new names n t is = λ x h. by_cases x h (cases_Bool (has_number words (place_of places n)))
  where
    split : (x : List ℕ) → list_any (same_name x) (names ++ n ∷ []) ≡ (list_any (same_name x) names || (same_name x n || false))
    split x = list_any-append (same_name x) names (n ∷ [])

    by_cases : (x : List ℕ) → has_number words (place_of places x) ≡ true → (has_number words (place_of places n) ≡ true) ⊎ (has_number words (place_of places n) ≡ false)
        → list_any (bytes_eq (str_to_ascii_lowercase x)) new ≡ list_any (same_name x) (names ++ n ∷ [])
    by_cases x h (inl e) =
        let more : new ≡ seen ++ str_to_ascii_lowercase n ∷ [] = rw e at is in
        rw more (list_any-append (bytes_eq (str_to_ascii_lowercase x)) seen (str_to_ascii_lowercase n ∷ []) ∙ ap (λ b. b || (same_name x n || false)) (t x h) ∙ sym (split x))
    by_cases x h (inr e) =
        let none : new ≡ seen ++ [] = rw e at is in
        let other : same_name x n ≡ false = differs x h e (cases_Bool (same_name x n)) in
        let right : list_any (same_name x) (names ++ n ∷ []) ≡ list_any (same_name x) names = rw other at (split x) ∙ or-false (list_any (same_name x) names) in
        let left : list_any (bytes_eq (str_to_ascii_lowercase x)) new ≡ (list_any (bytes_eq (str_to_ascii_lowercase x)) seen || false) = rw none (list_any-append (bytes_eq (str_to_ascii_lowercase x)) seen []) in
        left ∙ or-false _ ∙ t x h ∙ sym right
      where
        differs : (x : List ℕ) → has_number words (place_of places x) ≡ true → has_number words (place_of places n) ≡ false → (same_name x n ≡ true) ⊎ (same_name x n ≡ false) → same_name x n ≡ false
        differs x h e (inl s) = absurd (false≢true (sym e ∙ ap (has_number words) (sym (same-place places x n s)) ∙ h))
        differs x h e (inr s) = s

-- a name that is said to be there again is, and another is not
pub again-is : (words : List ℕ) (places : ℕ) (seen names : Cells) (n : List ℕ) → TellsOf words places seen names
    → (has_number words (place_of places n) && list_any (bytes_eq (str_to_ascii_lowercase n)) seen) ≡ true → list_any (same_name n) names ≡ true
again-is words places seen names n t h = by_cases (cases_Bool (has_number words (place_of places n)))
  where
    by_cases : (has_number words (place_of places n) ≡ true) ⊎ (has_number words (place_of places n) ≡ false) → list_any (same_name n) names ≡ true
    by_cases (inl e) = sym (t n e) ∙ rw e at h
    by_cases (inr e) = absurd (false≢true (rw e at h))

pub again-not : (words : List ℕ) (places : ℕ) (seen fields : Cells) (i : ℕ) (n : List ℕ) → AreShared words places fields → field_at fields i ≡ Some n → TellsOf words places seen (take i fields)
    → (has_number words (place_of places n) && list_any (bytes_eq (str_to_ascii_lowercase n)) seen) ≡ false → list_any (same_name n) (take i fields) ≡ false
again-not words places seen fields i n shared at t h = by_cases (cases_Bool (has_number words (place_of places n)))
  where
    by_cases : (has_number words (place_of places n) ≡ true) ⊎ (has_number words (place_of places n) ≡ false) → list_any (same_name n) (take i fields) ≡ false
    by_cases (inl e) = sym (t n e) ∙ rw e at h
    by_cases (inr e) = alone words places fields i n shared at e
