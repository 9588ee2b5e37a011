-- Names of columns that were seen before.
use Rattle.std.proofs.Common.{◌≡◌, ◌∙◌, ◌+◌, ◌<◌, ◌++◌, ◌∷◌, ◌||◌, not, if◌then◌else◌, ℕ, zero, suc, List, [], Some, None, Bool, true, false, length, take, drop, map, get_or, refl, sym, ap, add-one, arith, append_assoc, inl, inr}
use Rattle.std.proofs.Math.Bool.{not-not}
use Rattle.std.proofs.lemmas.Bool.{cases_Bool, false_from_ne_true, le-ltb, lt-ltb}
use Rattle.std.proofs.lemmas.List.{append-nil, get_or-take, length-take-le, map-append}
use Rattle.std.proofs.lemmas.List.Folds.{list_any_at}
use Rattle.std.proofs.lemmas.List.Sums.{position_or_len_is}
use Rattle.std.specs.List.{list_any}
use Rattle.std.specs.Str.{bytes_eq, str_to_ascii_lowercase}
use Rattle.csv.specs.Records.{field_at}
use Rattle.nf_table.specs.Grid.{Cells, HasOwnNames, column_of, same_name}
use Rattle.nf_table.specs.Reading.{repeated_after, repeated_column}
use Rattle.nf_table.proofs.CellFacts.{take-cell}

-- no name is the same as one before it
none-before : (before names : Cells) (i : ℕ) → repeated_after before names ≡ None → i < length names → list_any (same_name (get_or names i [])) (before ++ take i names) ≡ false
unfolding repeated_after
none-before before [] i h k = absurd (omega (arith, k))
none-before before (n ∷ ns) zero h k = elim (cases_Bool (list_any (same_name n) before)) [
  | inl again ↦ cc (rw again at h)
  | inr new ↦ rw (append-nil before) new
]
none-before before (n ∷ ns) (suc i) h k = elim (cases_Bool (list_any (same_name n) before)) [
  | inl again ↦ cc (rw again at h)
  | inr new ↦ rw append_assoc at (none-before (before ++ n ∷ []) ns i (rw new at h) (omega (arith, k)))
]

pub own-names : (header : Cells) → repeated_column header ≡ None → HasOwnNames header
own-names header h earlier column before within =
    let none = none-before [] header column h within in
    false_from_ne_true _ (λ same.
    let there : earlier < length (take column header) = rw (length-take-le column header (omega (arith, within))) before in
    let found = list_any_at (same_name (get_or header column [])) (take column header) earlier [] there (rw (get_or-take column header earlier [] before) same) in
    cc (found, none))

any-map : {X Y : Type 0} (test : Y → Bool) (f : X → Y) (xs : List X) → list_any test (map f xs) ≡ list_any (λ x. test (f x)) xs
any-map test f [] = refl
any-map test f (x ∷ xs) = ap (λ b. test (f x) || b) (any-map test f xs)

-- whether a name is among the keys of a set of names
pub among-keys : {K : Type 0} (bytes : K → List ℕ) (keys : List K) (name : List ℕ) → list_any (λ k. bytes_eq name (bytes k)) keys ≡ list_any (bytes_eq name) (map bytes keys)
among-keys bytes keys name = sym (any-map (bytes_eq name) bytes keys)

-- a key that is new is the last
pub keys-more : {K : Type 0} (bytes : K → List ℕ) (keys after : List K) (key : K) (found is_new : Bool) → is_new ≡ not found → after ≡ (if found then keys else keys ++ key ∷ []) → is_new ≡ true
    → map bytes after ≡ map bytes keys ++ bytes key ∷ []
keys-more bytes keys after key true is_new tells is new = cc (tells, new)
keys-more bytes keys after key false is_new tells is new = rw (is, map-append bytes keys (key ∷ [])) refl

-- whether a name is among those before, all in small letters
seen-before : (before : Cells) (name : List ℕ) → list_any (bytes_eq (str_to_ascii_lowercase name)) (map str_to_ascii_lowercase before) ≡ list_any (same_name name) before
seen-before before name = any-map (bytes_eq (str_to_ascii_lowercase name)) str_to_ascii_lowercase before

pub new-name : (before : Cells) (name : List ℕ) (is_new : Bool) → is_new ≡ not (list_any (bytes_eq (str_to_ascii_lowercase name)) (map str_to_ascii_lowercase before)) → is_new ≡ true
    → list_any (same_name name) before ≡ false
new-name before name is_new tells new = sym (seen-before before name) ∙ sym (not-not _) ∙ ap not (sym tells ∙ new)

pub known-name : (before : Cells) (name : List ℕ) (is_new : Bool) → is_new ≡ not (list_any (bytes_eq (str_to_ascii_lowercase name)) (map str_to_ascii_lowercase before)) → is_new ≡ false
    → list_any (same_name name) before ≡ true
known-name before name is_new tells new = sym (seen-before before name) ∙ sym (not-not _) ∙ ap not (sym tells ∙ new)

pub lower-more : (fs : Cells) (i : ℕ) (x : List ℕ) → field_at fs i ≡ Some x
    → map str_to_ascii_lowercase (take i fs) ++ str_to_ascii_lowercase x ∷ [] ≡ map str_to_ascii_lowercase (take (i + 1) fs)
lower-more fs i x h = rw (take-cell fs i x h, map-append str_to_ascii_lowercase (take i fs) (x ∷ [])) refl

pub drop-cell : (fs : Cells) (i : ℕ) (x : List ℕ) → field_at fs i ≡ Some x → drop i fs ≡ x ∷ drop (i + 1) fs
unfolding field_at
drop-cell [] i x h = cc h
drop-cell (f ∷ fs) zero x h = let same : f ≡ x = cc h in rw same refl
drop-cell (f ∷ fs) (suc i) x h = rw (add-one (suc i)) (rw (add-one i) at (drop-cell fs i x h))

-- what is left to find after a name that is there for the first time, and at one that is not
pub next-new : (fs : Cells) (i : ℕ) (x : List ℕ) → field_at fs i ≡ Some x → list_any (same_name x) (take i fs) ≡ false
    → repeated_after (take i fs) (drop i fs) ≡ repeated_after (take (i + 1) fs) (drop (i + 1) fs)
unfolding repeated_after
next-new fs i x h new = rw (drop-cell fs i x h, new, take-cell fs i x h) refl

pub next-again : (fs : Cells) (i : ℕ) (x : List ℕ) → field_at fs i ≡ Some x → list_any (same_name x) (take i fs) ≡ true → repeated_after (take i fs) (drop i fs) ≡ Some x
unfolding repeated_after
next-again fs i x h again = rw (drop-cell fs i x h, again) refl

drop-all : (fs : Cells) (i : ℕ) → field_at fs i ≡ None → drop i fs ≡ []
unfolding field_at
drop-all [] zero h = refl
drop-all [] (suc i) h = refl
drop-all (f ∷ fs) zero h = cc h
drop-all (f ∷ fs) (suc i) h = drop-all fs i h

pub none-left : (fs : Cells) (i : ℕ) → field_at fs i ≡ None → repeated_after (take i fs) (drop i fs) ≡ None
unfolding repeated_after
none-left fs i h = rw (drop-all fs i h) refl

-- the first column with a name, and none
pub column-found : (header : Cells) (name : List ℕ) (column : ℕ) → column < length header → ((k : ℕ) → k < column → same_name name (get_or header k []) ≡ false)
    → same_name name (get_or header column []) ≡ true → Some column ≡ column_of header name
column-found header name column within before same =
    let first = position_or_len_is (same_name name) header column [] (omega (arith, within)) before (λ _. same) in
    rw (first, lt-ltb column (length header) within) refl

pub column-none : (header : Cells) (name : List ℕ) → ((k : ℕ) → k < length header → same_name name (get_or header k []) ≡ false) → None ≡ column_of header name
column-none header name before =
    let none = position_or_len_is (same_name name) header (length header) [] (omega arith) before (λ past. absurd (omega (arith, past))) in
    rw (none, le-ltb (length header) (length header) (omega arith)) refl
