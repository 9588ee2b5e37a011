-- Cells taken one after the other.
use Rattle.std.proofs.Common.{◌≡◌, ◌+◌, ◌++◌, ◌∷◌, Result, Ok, Err, MatchResult, ℕ, zero, suc, List, [], Some, None, Bool, true, false, take, drop, ◌-◌, refl, sym, ap, add-one, inl, inr}
use Rattle.std.specs.List.{list_all}
use Rattle.std.proofs.lemmas.List.Folds.{list_all-append}
use Rattle.std.proofs.lemmas.Bool.{and_from, cases_Bool, false_from_ne_true}
use Rattle.std.proofs.lemmas.List.{get_or-drop}
use Rattle.std.proofs.lemmas.Str.{IsAscii-take, IsUtf8-from_ascii, IsUtf8-from_is_utf8, is_utf8-from_IsUtf8}
use Rattle.std.specs.Result.{is_ok}
use Rattle.std.specs.Str.{IsAscii, IsUtf8, is_utf8}
use Rattle.csv.specs.Records.{Row, cut_from, field_at, fields_of, text_of}

pub take-cell : (fs : List (List ℕ)) (i : ℕ) (x : List ℕ) → field_at fs i ≡ Some x → take (i + 1) fs ≡ take i fs ++ x ∷ []
unfolding field_at
take-cell [] i x h = cc h
take-cell (f ∷ fs) zero x h = let same : f ≡ x = cc h in rw same refl
take-cell (f ∷ fs) (suc i) x h = rw (add-one (suc i)) (ap (λ t. f ∷ t) (rw (add-one i) at (take-cell fs i x h)))

pub take-all : (fs : List (List ℕ)) (i : ℕ) → field_at fs i ≡ None → take i fs ≡ fs
unfolding field_at
take-all [] zero h = refl
take-all [] (suc i) h = refl
take-all (f ∷ fs) zero h = cc h
take-all (f ∷ fs) (suc i) h = ap (λ t. f ∷ t) (take-all fs i h)

-- one more cell passes the test
pub all-more : (test : List ℕ → Bool) (fs : List (List ℕ)) (i : ℕ) (x : List ℕ) → field_at fs i ≡ Some x → list_all test (take i fs) ≡ true → test x ≡ true → list_all test (take (i + 1) fs) ≡ true
all-more test fs i x h done passes = rw (take-cell fs i x h, list_all-append test (take i fs) (x ∷ []), done, passes) refl

-- one cell fails it
pub all-fails : (test : List ℕ → Bool) (fs : List (List ℕ)) (i : ℕ) (x : List ℕ) → field_at fs i ≡ Some x → test x ≡ false → list_all test fs ≡ false
unfolding field_at
all-fails test [] i x h f = cc h
all-fails test (y ∷ fs) zero x h f = let same : y ≡ x = cc h in rw (same, f) refl
all-fails test (y ∷ fs) (suc i) x h f = rw (all-fails test fs i x h f) (elim (cases_Bool (test y)) [ inl good ↦ rw good refl | inr bad ↦ rw bad refl ])

-- what a test of text answers
pub text-test : {A E : Type 0} (P : A → Type 0) (Q : E → Type 0) (bytes : List ℕ) (r : Result A E) → MatchResult r (λ a. P a × IsUtf8 bytes) (λ e. ¬ (IsUtf8 bytes) × Q e) → is_ok r ≡ is_utf8 bytes
text-test P Q bytes (Ok a) h = sym (is_utf8-from_IsUtf8 bytes h.1)
text-test P Q bytes (Err e) h = sym (false_from_ne_true _ (λ t. h.0 (IsUtf8-from_is_utf8 bytes t)))

-- what is cut from ASCII is text
ascii-cut : (start : ℕ) (ends bytes : List ℕ) → IsAscii bytes → list_all is_utf8 (cut_from start ends bytes) ≡ true
unfolding cut_from
ascii-cut start [] bytes h = refl
ascii-cut start (end ∷ ends) bytes h =
    let rest : IsAscii (drop start bytes) = λ i. rw (get_or-drop start bytes i 0) (h (start + i)) in
    let cell = is_utf8-from_IsUtf8 _ (IsUtf8-from_ascii _ (IsAscii-take (drop start bytes) (end - start) rest)) in
    and_from _ _ cell (ascii-cut end ends bytes h)

pub ascii-text : (row : Row) → IsAscii (text_of row) → list_all is_utf8 (fields_of row) ≡ true
ascii-text row h = ascii-cut 0 row.ends row.bytes h
