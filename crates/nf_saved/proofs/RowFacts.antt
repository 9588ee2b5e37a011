-- The rows of a session's table are read: the head, the options, the queue and the artificials.
use Rattle.std.proofs.Common.{◌≡◌, ◌∙◌, ◌<◌, ◌≤◌, ◌^◌, ◌+◌, ◌++◌, ◌∷◌, ◌⊎◌, ℕ, zero, suc, true, List, [], length, map, get_or, take, Option, Some, Ok, refl, ap, sym, arith, decimal, false}
use Rattle.std.specs.Prelude.{slice_get, codes, option_map}
use Rattle.std.specs.List.{range_with_len}
use Rattle.std.specs.Str.{bytes_eq}
use Rattle.std.proofs.lemmas.Slice.Eq.{bytes_eq-Decides}
use Rattle.std.proofs.lemmas.List.{length-map}
use Rattle.std.proofs.lemmas.List.FromFn.{get_or-map-range_with_len}
use Rattle.std.proofs.lemmas.Option.{slice_get_past, slice_get-map}
use Rattle.nf_model.specs.Program.{LinearProgram}
use Rattle.nf_cells.specs.Cells.{value_of}
use Rattle.nf_table.specs.Grid.{Cells}
use Rattle.nf_program.specs.declared.program.SessionOptions.{SessionOptions}
use Rattle.nf_simplex.specs.Place.{Lower, Basic}
use Rattle.nf_simplex.specs.Columns.{Artificial}
use Rattle.nf_simplex.specs.StageOf.{StageNumber, StageOne, StageTwo}
use Rattle.nf_simplex.specs.Standing.{Standing, is_negative, place_of}
use Rattle.nf_print.specs.Lines.{last_word}
use Rattle.nf_print.specs.Options.{rule_word}
use Rattle.nf_print.specs.declared.status.Last.TheVariants as last
use Rattle.nf_saved.specs.declared.fault.SavedArtificial.{SavedArtificial}
use Rattle.nf_saved.specs.Session.{CanBeWritten, Carried, count_entering}
use Rattle.nf_saved.specs.SessionTable.{artificial_row, artificial_rows, artificial_word, flag_rows, flag_word, head_rows, limit_rows, member_rows, option_rows, price_rows, queue_rows, session_row, stage_word}
use Rattle.nf_saved.specs.Values.{artificial, artificial_said, count_from, flag_said, last_said, most_count, most_pivots, most_two, rule_said, stage_said, version_said}
use Rattle.nf_saved.specs.Rows.{Head, SavedRow, and_then, artificial_read, artificials_read, each_read, has_two, head_read, member_read, member_said, options_read, or_bad, pair_read, queue_read, row_read, said_in, saved_row, value_in, sizes_read, two_to_come}
use Rattle.nf_saved.proofs.ListFacts.{length-numbered, slice-behind, slice-numbered}
use Rattle.nf_saved.proofs.EachFacts.{each-back}
use Rattle.nf_saved.proofs.ValueFacts.{artificial-back, count-back, decimal-kept, flag-back, is_basic, last-back, rule-back, stage-back, version-back}

pub same-bytes : (text : List ℕ) → bytes_eq text text ≡ true
same-bytes text = (bytes_eq-Decides text text).1 refl

-- A row as it is read, if the columns stand in the order in which they are written.
abbrev pub as_read : Cells → SavedRow
as_read = saved_row 0 1 2

-- A row that was written says its value.
pub tells : {A : Type 0} (key : List ℕ) (n : ℕ) (text : List ℕ) (says : List ℕ → Option A) (v : A) → value_of key ≡ key → n < 10 ^ 64 → says (value_of text) ≡ Some v
    → said_in (Some (as_read (session_row key n text))) key n says ≡ Some v
unfolding value_in
tells key n text says v plain small h = rw (plain, decimal-kept n small, same-bytes key, same-bytes (decimal n)) h

pub reads : {A : Type 0} (rows : List SavedRow) (k : ℕ) (key : List ℕ) (n : ℕ) (text : List ℕ) (says : List ℕ → Option A) (v : A)
    → slice_get rows k ≡ Some (as_read (session_row key n text)) → value_of key ≡ key → n < 10 ^ 64 → says (value_of text) ≡ Some v → row_read rows k key n says ≡ Ok v
unfolding or_bad
reads rows k key n text says v there plain small h = rw (there, tells key n text says v plain small h) refl

pub pair-reads : {A : Type 0} (rows : List SavedRow) (k : ℕ) (key text text2 : List ℕ) (says : List ℕ → Option A) (v w : A)
    → slice_get rows k ≡ Some (as_read (session_row key 1 text)) → slice_get rows (suc k) ≡ Some (as_read (session_row key 2 text2)) → value_of key ≡ key
    → says (value_of text) ≡ Some v → says (value_of text2) ≡ Some w → pair_read rows k key says ≡ Ok (v, w)
unfolding pair_read and_then
pair-reads rows k key text text2 says v w one two plain h g =
    rw (reads rows k key 1 text says v one plain (omega arith) h, reads rows (suc k) key 2 text2 says w two plain (omega arith) g) refl

-- ---- the head
most-two : (stage : StageNumber) (n : ℕ) → (stage ≡ StageOne → n ≡ 0) → n < 10 ^ 18 → n ≤ most_two stage
most-two StageOne n h small = let e = h refl in omega (arith, e)
most-two StageTwo n h small = omega (arith, small)

abbrev pub head_of : StageNumber → Carried → Head
head_of stage c = record { stage = stage; counts = c.counts; cursor = c.pricing.cursor; last = c.last }

module _ (p : LinearProgram) (stage : StageNumber) (c : Carried) (rest : List SavedRow) where
  rows : List SavedRow
  rows = map as_read (head_rows stage c) ++ rest

  pub version-read : row_read (map as_read (head_rows stage c) ++ rest) 0 (codes "VERSION") 1 version_said ≡ Ok true
  unfolding head_rows
  version-read = reads (map as_read (head_rows stage c) ++ rest) 0 (codes "VERSION") 1 (codes "2") version_said true refl refl (omega arith) version-back

  pub head-read : (stage ≡ StageTwo → has_two p ≡ true) → (stage ≡ StageOne → c.counts.two ≡ 0) → c.counts.one < 10 ^ 18 → c.counts.two < 10 ^ 18
      → c.pricing.cursor ≤ count_entering p → count_entering p < 10 ^ 63 → (c.last ≡ last.StageOne → two_to_come p stage ≡ true)
      → head_read p (map as_read (head_rows stage c) ++ rest) ≡ Ok (head_of stage c)
  unfolding head_read and_then head_rows
  head-read two none one_short two_short cursor few may =
      rw (
        reads (map as_read (head_rows stage c) ++ rest) 1 (codes "STAGE") 1 (stage_word stage) (stage_said (has_two p)) stage refl refl (omega arith) (stage-back (has_two p) stage two),
        reads (map as_read (head_rows stage c) ++ rest) 2 (codes "PIVOTS") 1 (decimal c.counts.one) (count_from 0 most_pivots) c.counts.one refl refl (omega arith) (count-back 0 most_pivots c.counts.one (omega arith) (omega (arith, one_short)) (omega (arith, one_short))),
        reads (map as_read (head_rows stage c) ++ rest) 3 (codes "PIVOTS") 2 (decimal c.counts.two) (count_from 0 (most_two stage)) c.counts.two refl refl (omega arith) (count-back 0 (most_two stage) c.counts.two (omega arith) (most-two stage c.counts.two none two_short) (omega (arith, two_short))),
        reads (map as_read (head_rows stage c) ++ rest) 4 (codes "CURSOR") 1 (decimal c.pricing.cursor) (count_from 0 (count_entering p)) c.pricing.cursor refl refl (omega arith) (count-back 0 (count_entering p) c.pricing.cursor (omega arith) cursor (omega (arith, cursor, few))),
        reads (map as_read (head_rows stage c) ++ rest) 5 (codes "LAST") 1 (last_word c.last) (last_said (two_to_come p stage)) c.last refl refl (omega arith) (last-back (two_to_come p stage) c.last may),
      ) refl

-- ---- the options
module _ (stage : StageNumber) (c : Carried) (o : SessionOptions) (w : CanBeWritten o) (rest : List SavedRow) where
  nine : (n : ℕ) → n < 10 ^ 9 → count_from 0 most_count (value_of (decimal n)) ≡ Some n
  nine n h = count-back 0 most_count n (omega arith) (omega (arith, h)) (omega (arith, h))

  size : (n : ℕ) → 0 < n → n < 1000 → count_from 1 999 (value_of (decimal n)) ≡ Some n
  size n some h = count-back 1 999 n (omega (arith, some)) (omega (arith, h)) (omega (arith, h))

  pub options-read : options_read true (map as_read (head_rows stage c) ++ (map as_read (option_rows o) ++ rest)) ≡ Ok o
  unfolding options_read sizes_read and_then head_rows limit_rows flag_rows price_rows
  options-read =
      rw (
        pair-reads (map as_read (head_rows stage c) ++ (map as_read (option_rows o) ++ rest)) 6 (codes "MAXIT") (decimal o.maxit1) (decimal o.maxit2) (count_from 0 most_count) o.maxit1 o.maxit2 refl refl refl (nine o.maxit1 w.maxit1) (nine o.maxit2 w.maxit2),
        pair-reads (map as_read (head_rows stage c) ++ (map as_read (option_rows o) ++ rest)) 8 (codes "PAUSE") (decimal o.pause1) (decimal o.pause2) (count_from 0 most_count) o.pause1 o.pause2 refl refl refl (nine o.pause1 w.pause1) (nine o.pause2 w.pause2),
        pair-reads (map as_read (head_rows stage c) ++ (map as_read (option_rows o) ++ rest)) 10 (codes "FEASIBLEPAUSE") (flag_word o.feasiblepause1) (flag_word o.feasiblepause2) flag_said o.feasiblepause1 o.feasiblepause2 refl refl refl (flag-back o.feasiblepause1) (flag-back o.feasiblepause2),
        reads (map as_read (head_rows stage c) ++ (map as_read (option_rows o) ++ rest)) 12 (codes "ENDPAUSE") 1 (flag_word o.endpause1) flag_said o.endpause1 refl refl (omega arith) (flag-back o.endpause1),
        pair-reads (map as_read (head_rows stage c) ++ (map as_read (option_rows o) ++ rest)) 13 (codes "FUTURE") (flag_word o.future1) (flag_word o.future2) flag_said o.future1 o.future2 refl refl refl (flag-back o.future1) (flag-back o.future2),
        pair-reads (map as_read (head_rows stage c) ++ (map as_read (option_rows o) ++ rest)) 15 (codes "PRICETYPE") (rule_word o.pricetype1) (rule_word o.pricetype2) (rule_said true) o.pricetype1 o.pricetype2 refl refl refl (rule-back o.pricetype1) (rule-back o.pricetype2),
        pair-reads (map as_read (head_rows stage c) ++ (map as_read (option_rows o) ++ rest)) 17 (codes "QUEUESIZE") (decimal o.queuesize1) (decimal o.queuesize2) (count_from 1 999) o.queuesize1 o.queuesize2 refl refl refl (size o.queuesize1 w.some1 w.size1) (size o.queuesize2 w.some2 w.size2),
      ) refl

-- ---- the queue
slice-members : (js : List ℕ) (i j : ℕ) (ys : List SavedRow) → j < length js → slice_get (map as_read (member_rows i js) ++ ys) j ≡ Some (as_read (session_row (codes "QUEUE") (i + j) (decimal (get_or js j 0))))
unfolding member_rows
slice-members [] i j ys h = absurd (omega (arith, h))
slice-members (x ∷ js) i zero ys h = ap (λ n. Some (as_read (session_row (codes "QUEUE") n (decimal x)))) (let e : i ≡ i + 0 = omega arith in e)
slice-members (x ∷ js) i (suc j) ys h = slice-members js (suc i) j ys (omega (arith, h)) ∙ ap (λ n. Some (as_read (session_row (codes "QUEUE") n (decimal (get_or js j 0))))) (let e : suc i + j ≡ i + suc j = omega arith in e)

pub length-members : (i : ℕ) (js : List ℕ) → length (map as_read (member_rows i js)) ≡ length js
unfolding member_rows
length-members i [] = refl
length-members i (j ∷ js) = ap suc (length-members (suc i) js)

module _ (p : LinearProgram) (stage : StageNumber) (c : Carried) (q : List ℕ) (rest : List SavedRow) where
  before : List SavedRow
  before = map as_read (head_rows stage c) ++ (map as_read (option_rows c.options) ++ (as_read (session_row (codes "QLENGTH") 1 (decimal (length q))) ∷ []))

  unfoldable pub all_rows : List SavedRow
  all_rows = map as_read (head_rows stage c) ++ (map as_read (option_rows c.options) ++ (map as_read (queue_rows q) ++ rest))

  -- After the first twenty rows.
  pub behind : (j : ℕ) → slice_get all_rows (20 + j) ≡ slice_get (map as_read (member_rows 1 q) ++ rest) j
  unfolding all_rows before head_rows limit_rows flag_rows price_rows
  behind j = slice-behind before (map as_read (member_rows 1 q) ++ rest) j

  many : length q < 1000 → row_read all_rows 19 (codes "QLENGTH") 1 (count_from 0 999) ≡ Ok (length q)
  unfolding all_rows head_rows limit_rows flag_rows price_rows
  many short = reads all_rows 19 (codes "QLENGTH") 1 (decimal (length q)) (count_from 0 999) (length q) refl refl (omega arith) (count-back 0 999 (length q) (omega arith) (omega (arith, short)) (omega (arith, short)))

  pub queue-read : length q < 1000 → ((j : ℕ) → j < length q → member_said p stage (take j q) (value_of (decimal (get_or q j 0))) ≡ Some (get_or q j 0))
      → queue_read p true stage all_rows ≡ Ok q
  unfolding queue_read and_then
  queue-read short members =
      rw (many short)
      (each-back (member_read p stage all_rows) 0 q 0 []
      (λ j h. reads all_rows (20 + (0 + j)) (codes "QUEUE") (suc (0 + j)) (decimal (get_or q j 0)) (member_said p stage ([] ++ take j q)) (get_or q j 0)
      (let e : 0 + j ≡ j = omega arith in let f : suc j ≡ 1 + j = omega arith in rw (e, f) (behind j ∙ slice-members q 1 j rest h))
      refl (omega (arith, h, short)) (members j h)))

  pub behind-queue : (j : ℕ) → slice_get all_rows (20 + length q + j) ≡ slice_get rest j
  behind-queue j =
      ap (λ n. slice_get all_rows n) (let e : 20 + length q + j ≡ 20 + (length q + j) = omega arith in e)
      ∙ (behind (length q + j)
      ∙ (ap (λ n. slice_get (map as_read (member_rows 1 q) ++ rest) (n + j)) (sym (length-members 1 q))
      ∙ slice-behind (map as_read (member_rows 1 q)) rest j))

-- ---- the artificials
abbrev pub artificial_of : LinearProgram → Standing → ℕ → SavedArtificial
artificial_of p s r = artificial (is_negative s r) (is_basic (place_of p s (Artificial r)))

abbrev pub artificials_of : LinearProgram → Standing → ℕ → List SavedArtificial
artificials_of p s n = map (artificial_of p s) (range_with_len 0 n)

module _ (p : LinearProgram) (s : Standing) (n : ℕ) (few : n < 10 ^ 63) (rows : List SavedRow) (k : ℕ) (there : (j : ℕ) → slice_get rows (k + j) ≡ slice_get (map as_read (artificial_rows p s n)) j)
    (stands : (r : ℕ) → r < n → (place_of p s (Artificial r) ≡ Basic) ⊎ (place_of p s (Artificial r) ≡ Lower)) where
  slice-artificials : (j : ℕ) → j < n → slice_get (map as_read (artificial_rows p s n)) j ≡ Some (as_read (artificial_row p s j))
  unfolding artificial_rows
  slice-artificials j h = slice_get-map as_read (artificial_rows p s n) j ∙ ap (λ o. option_map as_read o) (slice-numbered (artificial_row p s) 0 n j h ∙ ap (λ m. Some (artificial_row p s m)) (let e : 0 + j ≡ j = omega arith in e))

  all_there : length (map as_read (artificial_rows p s n)) ≡ n
  unfolding artificial_rows
  all_there = length-map (artificial_rows p s n) as_read ∙ length-numbered (artificial_row p s) 0 n

  each : each_read (artificial_read rows k) (length (artificials_of p s n)) 0 [] ≡ Ok ([] ++ artificials_of p s n)
  each = each-back (artificial_read rows k) (artificial false false) (artificials_of p s n) 0 [] (λ j h. one j (let e = length-numbered (artificial_of p s) 0 n in omega (arith, h, e)))
    where
      one : (j : ℕ) → j < n → artificial_read rows k ([] ++ take j (artificials_of p s n)) (0 + j) ≡ Ok (get_or (artificials_of p s n) j (artificial false false))
      one j h =
          reads rows (k + (0 + j)) (codes "ARTIF") (suc (0 + j)) (artificial_word (is_negative s j) (place_of p s (Artificial j))) artificial_said (artificial_of p s j)
          (let e : 0 + j ≡ j = omega arith in rw e (there j ∙ slice-artificials j h)) refl (omega (arith, h, few)) (artificial-back (is_negative s j) (place_of p s (Artificial j)) (stands j h))
          ∙ ap Ok (sym (get_or-map-range_with_len (artificial_of p s) 0 n j j (artificial false false) h (omega arith)))

  pub artificials-read : artificials_read rows k n ≡ Ok (artificials_of p s n)
  unfolding artificials_read and_then
  artificials-read = rw (read_all, there n ∙ slice_get_past (map as_read (artificial_rows p s n)) n (omega (arith, all_there))) refl
    where
      read_all : each_read (artificial_read rows k) n 0 [] ≡ Ok (artificials_of p s n)
      read_all = rw (length-numbered (artificial_of p s) 0 n) at each
