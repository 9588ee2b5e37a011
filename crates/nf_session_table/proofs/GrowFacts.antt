-- How a session's table grows row by row.
use Rattle.std.proofs.Common.{◌≡◌, ◌∙◌, ◌<◌, ◌≤◌, ◌+◌, ◌^◌, ◌++◌, ◌∷◌, ℕ, zero, suc, List, [], length, map, take, get_or, refl, sym, ap, subst, arith, append_assoc, append-nil, length-append, codes, decimal}
use Rattle.std.specs.List.{range_with_len}
use Rattle.std.proofs.lemmas.List.{length-map, length-take, length-take-le, take_more, take_all}
use Rattle.std.proofs.lemmas.List.FromFn.{map-range_with_len_more}
use Rattle.nf_model.specs.Program.{LinearProgram}
use Rattle.nf_table.specs.Grid.{Cells, Grid}
use Rattle.nf_table.specs.Making.{RowMayEnd, empty_table, with_cell}
use Rattle.nf_table.specs.Reading.{repeated_after}
use Rattle.nf_program.specs.declared.program.SessionOptions.{SessionOptions}
use Rattle.nf_simplex.specs.StageOf.{StageNumber}
use Rattle.nf_simplex.specs.Standing.{Standing, rows_of}
use Rattle.nf_saved.specs.Session.{Carried, Session}
use Rattle.nf_saved.specs.SessionTable.{artificial_row, artificial_rows, flag_rows, head_rows, limit_rows, member_rows, option_rows, price_rows, queue_rows, session_grid, session_header, session_row}
use Rattle.nf_session_table.specs.Growing.{with_header, with_more}

-- ---- the header
abbrev headed : Grid
headed = record { header = []; rows = []; hand = session_header }

header-may-end : RowMayEnd headed
unfolding repeated_after
header-may-end = (refl, omega arith, refl)

pub header-ends : (g0 g1 g2 g3 : Grid) (a b c : List ℕ) → g0 ≡ empty_table → g1 ≡ with_cell g0 a → g2 ≡ with_cell g1 b → g3 ≡ with_cell g2 c → a ≡ codes "_KEY_" → b ≡ codes "_NUMBER_" → c ≡ codes "_VALUE_" → RowMayEnd g3
header-ends g0 g1 g2 g3 a b c h0 h1 h2 h3 ea eb ec = subst RowMayEnd (sym same) header-may-end
  where
    same : g3 ≡ headed
    same = rw (h3, h2, h1, h0, ea, eb, ec) refl

-- ---- more rows
-- A table that has grown twice.
pub more : (g0 g1 g2 : Grid) (a b : List Cells) → g1 ≡ with_more g0 a → g2 ≡ with_more g1 b → g2 ≡ with_more g0 (a ++ b)
more g0 g1 g2 a b d e = e ∙ (ap (λ (g : Grid). with_more g b) d ∙ ap with_header (append_assoc g0.rows a b))

-- One that has grown by single rows.
module _ (g0 g1 g2 g3 g4 : Grid) (a b c d : Cells) (ha : g1 ≡ with_more g0 (a ∷ [])) (hb : g2 ≡ with_more g1 (b ∷ [])) (hc : g3 ≡ with_more g2 (c ∷ [])) (hd : g4 ≡ with_more g3 (d ∷ [])) where
  pub four-more : g4 ≡ with_more g0 (a ∷ b ∷ c ∷ d ∷ [])
  four-more = more g0 g3 g4 (a ∷ b ∷ c ∷ []) (d ∷ []) (more g0 g2 g3 (a ∷ b ∷ []) (c ∷ []) (more g0 g1 g2 (a ∷ []) (b ∷ []) ha hb) hc) hd

  pub five-more : (g5 : Grid) (e : Cells) → g5 ≡ with_more g4 (e ∷ []) → g5 ≡ with_more g0 (a ∷ b ∷ c ∷ d ∷ e ∷ [])
  five-more g5 e he = more g0 g4 g5 (a ∷ b ∷ c ∷ d ∷ []) (e ∷ []) four-more he

  pub six-more : (g5 g6 : Grid) (e f : Cells) → g5 ≡ with_more g4 (e ∷ []) → g6 ≡ with_more g5 (f ∷ []) → g6 ≡ with_more g0 (a ∷ b ∷ c ∷ d ∷ e ∷ f ∷ [])
  six-more g5 g6 e f he hf = more g0 g5 g6 (a ∷ b ∷ c ∷ d ∷ e ∷ []) (f ∷ []) (five-more g5 e he) hf

pub begun : (g0 g1 : Grid) (a : List Cells) → g1 ≡ with_more g0 a → g1 ≡ with_header g1.rows
begun g0 g1 a e = e ∙ ap (λ (g : Grid). with_header g.rows) (sym e)

pub size : (g0 g1 : Grid) (a : List Cells) → g1 ≡ with_more g0 a → length g1.rows ≡ length g0.rows + length a
size g0 g1 a e = ap (λ (g : Grid). length g.rows) e ∙ length-append g0.rows a

pub none : (g : Grid) → g ≡ with_header g.rows → g ≡ with_more g []
none g e = e ∙ ap with_header (sym (append-nil g.rows))

-- ---- how many rows there are
length-members : (n : ℕ) (xs : List ℕ) → length (member_rows n xs) ≡ length xs
unfolding member_rows
length-members n [] = refl
length-members n (x ∷ xs) = ap suc (length-members (suc n) xs)

four-limits : (o : SessionOptions) → length (limit_rows o) ≡ 4
unfolding limit_rows
four-limits o = refl

five-flags : (o : SessionOptions) → length (flag_rows o) ≡ 5
unfolding flag_rows
five-flags o = refl

four-prices : (o : SessionOptions) → length (price_rows o) ≡ 4
unfolding price_rows
four-prices o = refl

six-head : (stage : StageNumber) (c : Carried) → length (head_rows stage c) ≡ 6
unfolding head_rows
six-head stage c = refl

pub after-limits : (g0 g1 : Grid) (o : SessionOptions) → length g0.rows < 2 ^ 30 → g1 ≡ with_more g0 (limit_rows o) → length g1.rows ≤ 2 ^ 30 + 3
after-limits g0 g1 o few e = let n = size g0 g1 (limit_rows o) e in omega (arith, n, few, four-limits o)

pub after-flags : (g0 g1 g2 : Grid) (o : SessionOptions) → length g0.rows < 2 ^ 30 → g1 ≡ with_more g0 (limit_rows o) → g2 ≡ with_more g1 (flag_rows o) → length g2.rows ≤ 2 ^ 30 + 8
after-flags g0 g1 g2 o few d e = let n = size g0 g1 (limit_rows o) d in let m = size g1 g2 (flag_rows o) e in omega (arith, n, m, few, four-limits o, five-flags o)

-- ---- the whole table, from its header on
module _ (s : Session) (g0 g1 : Grid) (h0 : g0 ≡ with_header []) (h1 : g1 ≡ with_more g0 (head_rows s.standing.stage s.carried)) where
  six : length g1.rows ≡ 6
  six = let n = size g0 g1 (head_rows s.standing.stage s.carried) h1 in let e = ap (λ (g : Grid). length g.rows) h0 in omega (arith, n, e, six-head s.standing.stage s.carried)

  pub after-head : length g1.rows < 2 ^ 30
  after-head = omega (arith, six)

  module _ (g2 : Grid) (h2 : g2 ≡ with_more g1 (option_rows s.carried.options)) where
    many-options : length (option_rows s.carried.options) ≡ 13
    many-options =
        length-append (limit_rows s.carried.options) (flag_rows s.carried.options ++ price_rows s.carried.options)
        ∙ (let n = length-append (flag_rows s.carried.options) (price_rows s.carried.options) in omega (arith, n, four-limits s.carried.options, five-flags s.carried.options, four-prices s.carried.options))

    nineteen : length g2.rows ≡ 19
    nineteen = let m = size g1 g2 (option_rows s.carried.options) h2 in omega (arith, m, six, many-options)

    pub after-options : length g2.rows < 2 ^ 30
    after-options = omega (arith, nineteen)

    module _ (g3 : Grid) (h3 : g3 ≡ with_more g2 (queue_rows s.carried.pricing.queue)) where
      pub after-queue : length s.carried.pricing.queue ≤ 999 → length g3.rows ≤ 2 ^ 30
      after-queue most = let n = size g2 g3 (queue_rows s.carried.pricing.queue) h3 in omega (arith, n, nineteen, most, length-members 1 s.carried.pricing.queue)

      pub all-there : (p : LinearProgram) (g4 : Grid) → g4 ≡ with_more g3 (artificial_rows p s.standing (rows_of p s.standing)) → g4 ≡ session_grid p s
      unfolding session_grid
      all-there p g4 h4 =
          h4
          ∙ (ap (λ (g : Grid). with_more g (artificial_rows p s.standing (rows_of p s.standing))) (h3 ∙ ap (λ (g : Grid). with_more g (queue_rows s.carried.pricing.queue)) (h2 ∙ ap (λ (g : Grid). with_more g (option_rows s.carried.options)) (h1 ∙ ap (λ (g : Grid). with_more g (head_rows s.standing.stage s.carried)) h0)))
          ∙ ap with_header
          (append_assoc (head_rows s.standing.stage s.carried ++ option_rows s.carried.options) (queue_rows s.carried.pricing.queue) (artificial_rows p s.standing (rows_of p s.standing))
          ∙ append_assoc (head_rows s.standing.stage s.carried) (option_rows s.carried.options) (queue_rows s.carried.pricing.queue ++ artificial_rows p s.standing (rows_of p s.standing))))

-- ---- the members of the queue
push-member : (n : ℕ) (xs : List ℕ) (x : ℕ) → member_rows n (xs ++ x ∷ []) ≡ member_rows n xs ++ session_row (codes "QUEUE") (n + length xs) (decimal x) ∷ []
unfolding member_rows
push-member n [] x = ap (λ m. session_row (codes "QUEUE") m (decimal x) ∷ []) (let e : n ≡ n + 0 = omega arith in e)
push-member n (y ∷ xs) x =
    ap (λ (t : List Cells). session_row (codes "QUEUE") n (decimal y) ∷ t)
    (push-member (suc n) xs x ∙ ap (λ m. member_rows (suc n) xs ++ session_row (codes "QUEUE") m (decimal x) ∷ []) (let e : suc n + length xs ≡ n + suc (length xs) = omega arith in e))

-- The rows of the first i members are there.
abbrev pub HasMembers : Grid → List ℕ → ℕ → Grid → Type 0
HasMembers start xs i now = now ≡ with_more start (member_rows 1 (take i xs))

pub no-members : (start : Grid) (xs : List ℕ) → start ≡ with_header start.rows → HasMembers start xs 0 start
unfolding member_rows
no-members start xs e = none start e

pub more-members : (start now next : Grid) (xs : List ℕ) (i d : ℕ) → i < length xs → HasMembers start xs i now → next ≡ with_more now (session_row (codes "QUEUE") (i + 1) (decimal (get_or xs i d)) ∷ []) → HasMembers start xs (i + 1) next
more-members start now next xs i d b h e =
    let x = get_or xs i d in
    let here : 1 + length (take i xs) ≡ i + 1 = omega (arith, length-take-le i xs (omega (arith, b))) in
    more start now next (member_rows 1 (take i xs)) (session_row (codes "QUEUE") (i + 1) (decimal x) ∷ []) h e
    ∙ ap (with_more start)
    (ap (λ m. member_rows 1 (take i xs) ++ session_row (codes "QUEUE") m (decimal x) ∷ []) (sym here)
    ∙ (sym (push-member 1 (take i xs) x)
    ∙ ap (member_rows 1) (sym (take_more xs i d b))))

pub room-for-member : (start now : Grid) (xs : List ℕ) (i : ℕ) → length start.rows ≤ 2 ^ 30 → length xs ≤ 999 → HasMembers start xs i now → length now.rows < 2 ^ 31
room-for-member start now xs i few short h =
    let n = size start now (member_rows 1 (take i xs)) h in
    omega (arith, n, few, short, length-members 1 (take i xs), length-take i xs)

pub all-members : (start now : Grid) (xs : List ℕ) (i : ℕ) → length xs ≤ i → HasMembers start xs i now → now ≡ with_more start (member_rows 1 xs)
all-members start now xs i b h = h ∙ ap (λ ys. with_more start (member_rows 1 ys)) (take_all i xs b)

-- ---- the artificials
module _ (p : LinearProgram) (s : Standing) where
  pub no-artificials : (start : Grid) → start ≡ with_header start.rows → start ≡ with_more start (artificial_rows p s 0)
  unfolding artificial_rows
  no-artificials start e = none start e

  pub more-artificials : (start now next : Grid) (r : ℕ) → now ≡ with_more start (artificial_rows p s r) → next ≡ with_more now (artificial_row p s r ∷ []) → next ≡ with_more start (artificial_rows p s (r + 1))
  unfolding artificial_rows
  more-artificials start now next r h e =
      more start now next (map (artificial_row p s) (range_with_len 0 r)) (artificial_row p s r ∷ []) h e
      ∙ ap (with_more start) (sym (map-range_with_len_more (artificial_row p s) 0 r r (omega arith)))

  length-artificials : (r : ℕ) → length (artificial_rows p s r) ≡ r
  unfolding artificial_rows
  length-artificials r = length-map (range_with_len 0 r) (artificial_row p s) ∙ range 0 r
    where
      range : (a n : ℕ) → length (range_with_len a n) ≡ n
      range a zero = refl
      range a (suc n) = ap suc (range (a + 1) n)

  pub room-for-artificial : (start now : Grid) (r n : ℕ) → length start.rows ≤ 2 ^ 30 → r < n → n ≤ 2 ^ 30 → now ≡ with_more start (artificial_rows p s r) → length now.rows < 2 ^ 31
  room-for-artificial start now r n few b many h = let m = size start now (artificial_rows p s r) h in omega (arith, m, few, b, many, length-artificials r)

  pub all-artificials : (start now : Grid) (r n : ℕ) → r ≡ n → now ≡ with_more start (artificial_rows p s r) → now ≡ with_more start (artificial_rows p s n)
  all-artificials start now r n e h = h ∙ ap (λ m. with_more start (artificial_rows p s m)) e
