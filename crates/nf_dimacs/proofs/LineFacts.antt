-- The first line of a text and the first field of a line.
use Rattle.std.proofs.Common.{◌≡◌, ℕ, suc, ◌+◌, ◌<◌, ◌≤◌, Bool, true, false, cond, List, [], ◌∷◌, ◌++◌, length, take, drop, None, Some, refl, sym, ◌∙◌, ap, arith, not, ◌==◌}
use Rattle.std.specs.List.{slice_split, onto_first, position, position_or_len, flat_map}
use Rattle.std.proofs.lemmas.List.Splits.{slice_split_first, slice_split-cons_no, slice_split-cons_yes, length-slice_split}
use Rattle.std.proofs.lemmas.List.Sums.{prefix_len-le-length}
use Rattle.std.proofs.lemmas.Bool.Decides.{nat_tests}
use Rattle.nf_frac.proofs.DigitFacts.{split_none, split_some}
use Rattle.nf_dimacs.specs.Lines.{is_feed, is_blank, with_bytes, without_return, lines_between, lines_of, fields_of}

module _ (test : ℕ → Bool) where
  one_more : (x : ℕ) (xs : List ℕ) (b : Bool) → test x ≡ b → (position_or_len test xs ≡ length xs → slice_split test xs ≡ xs ∷ []) → position_or_len test (x ∷ xs) ≡ suc (length xs)
      → slice_split test (x ∷ xs) ≡ (x ∷ xs) ∷ []
  one_more x xs true is rest e = absurd (let z : 0 ≡ suc (length xs) = sym (ap (λ (c : Bool). cond (not c) (1 + position_or_len test xs) 0) is) ∙ e in omega (arith, z))
  one_more x xs false is rest e =
      let n : 1 + position_or_len test xs ≡ suc (length xs) = sym (ap (λ (c : Bool). cond (not c) (1 + position_or_len test xs) 0) is) ∙ e in
      let shorter : position_or_len test xs ≡ length xs = omega (arith, n) in
      slice_split-cons_no test x xs is ∙ ap (onto_first x) (rest shorter)

  whole : (xs : List ℕ) → position_or_len test xs ≡ length xs → slice_split test xs ≡ xs ∷ []
  whole [] e = refl
  whole (x ∷ xs) e = one_more x xs (test x) refl (whole xs) e

  -- without such a byte the list is the one piece
  pub one_piece : (xs : List ℕ) → None ≡ position test xs → slice_split test xs ≡ xs ∷ []
  one_piece xs none = whole xs (split_none (position_or_len test xs) (length xs) (prefix_len-le-length (λ x. not (test x)) xs) none)

  -- the first such byte ends the first piece
  pub first_piece : (xs : List ℕ) (at : ℕ) → Some at ≡ position test xs → slice_split test xs ≡ take at xs ∷ slice_split test (drop (at + 1) xs)
  first_piece xs at some =
      let found : (at ≡ position_or_len test xs) × (position_or_len test xs < length xs) = split_some (position_or_len test xs) (length xs) at some in
      slice_split_first test xs 0 found.1 ∙ ap (λ (n : ℕ). take n xs ∷ slice_split test (drop (n + 1) xs)) (sym found.0)

-- a piece and a line feed are a line
between-more : (piece : List ℕ) (pieces : List (List ℕ)) → 0 < length pieces → lines_between (piece ∷ pieces) ≡ without_return piece ∷ lines_between pieces
between-more piece [] some = absurd (omega arith)
between-more piece (next ∷ pieces) some = refl

last-line : (text : List ℕ) → 0 < length text → with_bytes text ≡ text ∷ []
last-line [] some = absurd (omega arith)
last-line (b ∷ text) some = refl

pub line-at_end : (text : List ℕ) → 0 < length text → None ≡ position is_feed text → lines_of text ≡ text ∷ lines_of []
unfolding lines_of
line-at_end text some none = ap lines_between (one_piece is_feed text none) ∙ last-line text some

pub line-before_feed : (text : List ℕ) (at : ℕ) → Some at ≡ position is_feed text → lines_of text ≡ without_return (take at text) ∷ lines_of (drop (at + 1) text)
unfolding lines_of
line-before_feed text at some =
    ap lines_between (first_piece is_feed text at some)
    ∙ between-more (take at text) (slice_split is_feed (drop (at + 1) text)) (omega (arith, length-slice_split is_feed (drop (at + 1) text)))

pub field-at_end : (line : List ℕ) → None ≡ position is_blank line → fields_of line ≡ with_bytes line ++ fields_of []
unfolding fields_of
field-at_end line none = ap (flat_map with_bytes) (one_piece is_blank line none)

pub field-before_blank : (line : List ℕ) (at : ℕ) → Some at ≡ position is_blank line → fields_of line ≡ with_bytes (take at line) ++ fields_of (drop (at + 1) line)
unfolding fields_of
field-before_blank line at some = ap (flat_map with_bytes) (first_piece is_blank line at some)

pub no-line : (text : List ℕ) (b : Bool) → b ≡ (length text == 0) → b ≡ true → lines_of text ≡ []
unfolding lines_of
no-line [] b is e = refl
no-line (x ∷ text) b is e = absurd (let t = sym is ∙ e in grind (arith, nat_tests, t))

pub no-field : (line : List ℕ) (b : Bool) → b ≡ (length line == 0) → b ≡ true → fields_of line ≡ []
unfolding fields_of
no-field [] b is e = refl
no-field (x ∷ line) b is e = absurd (let t = sym is ∙ e in grind (arith, nat_tests, t))

-- a text has no more lines than bytes
fewer : (x : ℕ) (ps : List (List ℕ)) → length (lines_between (onto_first x ps)) ≤ suc (length (lines_between ps))
fewer x [] = omega arith
fewer x (p ∷ []) = omega arith
fewer x (p ∷ q ∷ ps) = omega arith

few-pieces : (text : List ℕ) → length (lines_between (slice_split is_feed text)) ≤ length text
few-pieces [] = omega arith
few-pieces (x ∷ text) = by_cases (is_feed x) refl (few-pieces text)
  where
    by_cases : (b : Bool) → is_feed x ≡ b → length (lines_between (slice_split is_feed text)) ≤ length text → length (lines_between (slice_split is_feed (x ∷ text))) ≤ suc (length text)
    by_cases true is few =
        let some : 0 < length (slice_split is_feed text) = omega (arith, length-slice_split is_feed text) in
        rw (slice_split-cons_yes is_feed x text is, between-more [] (slice_split is_feed text) some) (omega arith)
    by_cases false is few = rw (slice_split-cons_no is_feed x text is) (omega (arith, fewer x (slice_split is_feed text)))

pub few-lines : (text : List ℕ) → length (lines_of text) ≤ length text
unfolding lines_of
few-lines text = few-pieces text
