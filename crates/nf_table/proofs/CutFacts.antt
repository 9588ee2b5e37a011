-- Rows that are cut from one list of cells, and their cells.
use Rattle.std.proofs.Common.{◌≡◌, ◌∙◌, ◌+◌, ◌*◌, ◌<◌, ◌≤◌, ◌-◌, ◌^◌, ◌++◌, ◌∷◌, ℕ, zero, suc, List, [], Bool, true, Some, None, length, take, drop, get_or, refl, sym, ap, add-one, arith}
use Rattle.std.proofs.lemmas.List.{drop-append-le, drop-drop, drop_all, take_all, get_or-drop, get_or-take, length-drop, length-take, length-take-le, take-append-le}
use Rattle.std.proofs.lemmas.Bool.{and_from, and_parts}
use Rattle.std.proofs.lemmas.Str.{IsUtf8-from_is_utf8, IsUtf8-nil}
use Rattle.std.proofs.Math.Seq.{take-length}
use Rattle.std.specs.List.{list_all}
use Rattle.std.specs.Str.{IsUtf8, is_utf8}
use native.Mathlib.Nat.{mul-le-mul_right, suc-mul}
use Rattle.csv.specs.Records.{field_at}
use Rattle.csv.proofs.RecordFacts.{field-get, field-there}
use Rattle.nf_table.specs.Cut.{grid_of, rows_cut}
use Rattle.nf_table.specs.Making.{MayEnd, RowMayEnd, ended, with_cell, with_row_ended}
use Rattle.nf_table.specs.Reading.{repeated_column}
use Rattle.nf_table.specs.Grid.{IsEven, IsText, Cells, cell_at}

pub length-cut : (n w : ℕ) (cs : Cells) → length (rows_cut n w cs) ≡ n
unfolding rows_cut
length-cut zero w cs = refl
length-cut (suc n) w cs = ap (λ k. suc k) (length-cut n w (drop w cs))

pub cut-more : (n w : ℕ) (cs r : Cells) → length cs ≡ n * w → length r ≡ w → rows_cut (n + 1) w (cs ++ r) ≡ rows_cut n w cs ++ r ∷ []
unfolding rows_cut
cut-more zero w [] r h k = rw (← k) (ap (λ t. t ∷ []) (take-length r))
cut-more zero w (c ∷ cs) r h k = absurd (omega (arith, h))
cut-more (suc n) w cs r h k =
    let size : length cs ≡ w + n * w = omega (arith, h, suc-mul n w) in
    let room : w ≤ length cs = rw size (omega arith) in
    let rest : length (drop w cs) ≡ n * w = rw (length-drop, size) (omega arith) in
    let tail = rw (add-one n) at (cut-more n w (drop w cs) r rest k) in
    rw (add-one (suc n), take-append-le w cs r room, drop-append-le w cs r room) (ap (λ t. take w cs ∷ t) tail)

-- a cell of the rows that are cut from all cells
get-cut : (n w i j : ℕ) (cs : Cells) → i < n → j < w → get_or (get_or (rows_cut n w cs) i []) j [] ≡ get_or cs (i * w + j) []
unfolding rows_cut
get-cut zero w i j cs h k = absurd (omega (arith, h))
get-cut (suc n) w zero j cs h k = get_or-take w cs j [] k ∙ ap (λ t. get_or cs t []) (omega arith)
get-cut (suc n) w (suc i) j cs h k =
    get-cut n w i j (drop w cs) (omega (arith, h)) k ∙ get_or-drop w cs (i * w + j) [] ∙ ap (λ t. get_or cs t []) (omega (arith, suc-mul i w))

-- the place of a cell among all cells
cell-bound : (rows width row column size : ℕ) → width + rows * width ≤ size → row ≤ rows → column < width → row * width + column < size
cell-bound rows width row column size whole r k = let most : row * width ≤ rows * width = mul-le-mul_right width r in omega (arith, whole, most, k)

-- the header is as long as the width says, if there is a cell
header-width : (width : ℕ) (cells : Cells) (column : ℕ) → column < length (take width cells) → column < width
header-width width cells column k = let long = length-take width cells in omega (arith, long, k)

pub cell-there : (rows width row column : ℕ) (cells : Cells) → width + rows * width ≤ length cells → row ≤ length (grid_of width rows cells).rows → column < length (grid_of width rows cells).header
    → field_at cells (row * width + column) ≡ None → ⊥
cell-there rows width row column cells whole r k none =
    field-there cells (row * width + column) (cell-bound rows width row column (length cells) whole (rw length-cut at r) (header-width width cells column k)) none

pub cell-found : (rows width row column : ℕ) (cells : Cells) (x : List ℕ) → width + rows * width ≤ length cells → row ≤ length (grid_of width rows cells).rows → column < length (grid_of width rows cells).header
    → field_at cells (row * width + column) ≡ Some x → x ≡ cell_at (grid_of width rows cells) row column
unfolding rows_cut
cell-found rows width row column cells x whole r k is =
    let within : row ≤ rows = rw length-cut at r in
    let inside : row < suc rows = omega (arith, within) in
    sym (get-cut (suc rows) width row column cells inside (header-width width cells column k) ∙ field-get cells (row * width + column) x is)

-- each row that is cut from all cells has the width
cut-even : (n w i : ℕ) (cs : Cells) → i < n → n * w ≤ length cs → length (get_or (rows_cut n w cs) i []) ≡ w
unfolding rows_cut
cut-even zero w i cs h k = absurd (omega (arith, h))
cut-even (suc n) w zero cs h k = length-take-le w cs (omega (arith, k, suc-mul n w))
cut-even (suc n) w (suc i) cs h k = cut-even n w i (drop w cs) (omega (arith, h)) (rw length-drop (omega (arith, k, suc-mul n w)))

pub even-rows : (rows width : ℕ) (cells : Cells) → width + rows * width ≤ length cells → IsEven (grid_of width rows cells)
unfolding rows_cut
even-rows rows width cells whole i h =
    let within : i < suc rows = omega (arith, rw length-cut at h) in
    cut-even (suc rows) width i cells within (omega (arith, whole, suc-mul rows width)) ∙ sym (length-take-le width cells (omega (arith, whole)))

-- where all cells pass a test, those of each row do
all-take : (test : List ℕ → Bool) (n : ℕ) (cs : Cells) → list_all test cs ≡ true → list_all test (take n cs) ≡ true
all-take test zero cs h = refl
all-take test (suc n) [] h = refl
all-take test (suc n) (c ∷ cs) h = let (this, others) = and_parts (test c) (list_all test cs) h in and_from (test c) (list_all test (take n cs)) this (all-take test n cs others)

all-drop : (test : List ℕ → Bool) (n : ℕ) (cs : Cells) → list_all test cs ≡ true → list_all test (drop n cs) ≡ true
all-drop test zero cs h = h
all-drop test (suc n) [] h = refl
all-drop test (suc n) (c ∷ cs) h = all-drop test n cs (and_parts (test c) (list_all test cs) h).1

all-cut : (test : List ℕ → Bool) (n w i : ℕ) (cs : Cells) → list_all test cs ≡ true → list_all test (get_or (rows_cut n w cs) i []) ≡ true
unfolding rows_cut
all-cut test zero w i cs h = refl
all-cut test (suc n) w zero cs h = all-take test w cs h
all-cut test (suc n) w (suc i) cs h = all-cut test n w i (drop w cs) (all-drop test w cs h)

text-at : (cs : Cells) (j : ℕ) → list_all is_utf8 cs ≡ true → IsUtf8 (get_or cs j [])
text-at [] j h = IsUtf8-nil
text-at (c ∷ cs) zero h = IsUtf8-from_is_utf8 c (and_parts (is_utf8 c) (list_all is_utf8 cs) h).0
text-at (c ∷ cs) (suc j) h = text-at cs j (and_parts (is_utf8 c) (list_all is_utf8 cs) h).1

pub text-cells : (rows width : ℕ) (cells : Cells) → list_all is_utf8 cells ≡ true → IsText (grid_of width rows cells)
unfolding rows_cut
text-cells rows width cells h row column = text-at (get_or (rows_cut (suc rows) width cells) row []) column (all-cut is_utf8 (suc rows) width row cells h)

-- ---- cells in hand
pub hand-size : (width rows hand : ℕ) (cells : Cells) → length cells ≡ width + rows * width + hand → length (grid_of width rows cells).hand ≡ hand
hand-size width rows hand cells whole = rw (length-drop, whole) (omega arith)

-- the rows do not see what comes after them
cut-front : (n w : ℕ) (cs more : Cells) → n * w ≤ length cs → rows_cut n w (cs ++ more) ≡ rows_cut n w cs
unfolding rows_cut
cut-front zero w cs more h = refl
cut-front (suc n) w cs more h =
    let room : w ≤ length cs = omega (arith, h, suc-mul n w) in
    let rest : n * w ≤ length (drop w cs) = rw length-drop (omega (arith, h, suc-mul n w)) in
    rw (take-append-le w cs more room, drop-append-le w cs more room) (ap (λ t. take w cs ∷ t) (cut-front n w (drop w cs) more rest))

-- one more row is what comes after the rows
cut-next : (n w : ℕ) (cs : Cells) → length cs ≡ n * w + w → rows_cut (n + 1) w cs ≡ rows_cut n w cs ++ drop (n * w) cs ∷ []
unfolding rows_cut
cut-next zero w cs h = ap (λ t. t ∷ []) (take_all w cs (omega (arith, h)) ∙ ap (λ k. drop k cs) (let z : 0 ≡ 0 * w = omega arith in z))
cut-next (suc n) w cs h =
    let rest : length (drop w cs) ≡ n * w + w = rw length-drop (omega (arith, h, suc-mul n w)) in
    let same : drop (n * w) (drop w cs) ≡ drop (suc n * w) cs = drop-drop (n * w) w cs ∙ ap (λ k. drop k cs) (omega (arith, suc-mul n w)) in
    rw (add-one (suc n)) (ap (λ t. take w cs ∷ t) (rw add-one at (cut-next n w (drop w cs) rest) ∙ ap (λ t. rows_cut n w (drop w cs) ++ t ∷ []) same))

-- one more cell
pub cell-added : (width rows hand : ℕ) (cells : Cells) (cell : List ℕ) → length cells ≡ width + rows * width + hand
    → grid_of width rows (cells ++ cell ∷ []) ≡ with_cell (grid_of width rows cells) cell
cell-added width rows hand cells cell whole =
    let room : width ≤ length cells = omega (arith, whole) in
    let body : rows * width ≤ length (drop width cells) = rw length-drop (omega (arith, whole)) in
    let most : width + rows * width ≤ length cells = omega (arith, whole) in
    λ i. record {
      header = take-append-le width cells (cell ∷ []) room i;
      rows = (ap (λ t. rows_cut rows width t) (drop-append-le width cells (cell ∷ []) room) ∙ cut-front rows width (drop width cells) (cell ∷ []) body) i;
      hand = drop-append-le (width + rows * width) cells (cell ∷ []) most i;
    }

pub names-kept : (width : ℕ) (cells : Cells) (cell : List ℕ) → width ≤ length cells → repeated_column (take width cells) ≡ None → repeated_column (take width (cells ++ cell ∷ [])) ≡ None
names-kept width cells cell room h = ap repeated_column (take-append-le width cells (cell ∷ []) room) ∙ h

-- the first row that ends is the header
pub header-ended : (hand : ℕ) (cells : Cells) → length cells ≡ hand → grid_of hand 0 cells ≡ with_row_ended (grid_of 0 0 cells)
unfolding rows_cut
header-ended hand cells h = λ i. record {
  header = take_all hand cells (omega (arith, h)) i;
  rows = [];
  hand = drop_all (hand + 0 * hand) cells (omega (arith, h)) i;
}

ended-row : (header : Cells) (rows : List Cells) (hand : Cells) → 0 < length header → ended header rows hand ≡ record { header = header; rows = rows ++ hand ∷ []; hand = [] }
ended-row [] rows hand h = absurd (omega (arith, h))
ended-row (c ∷ cs) rows hand h = refl

-- each other is the next row
pub row-ended : (width rows hand : ℕ) (cells : Cells) → 0 < width → length cells ≡ width + rows * width + hand → hand ≡ width → grid_of width (rows + 1) cells ≡ with_row_ended (grid_of width rows cells)
row-ended width rows hand cells some whole same =
    let long : 0 < length (take width cells) = rw (length-take-le width cells (omega (arith, whole))) some in
    let body : length (drop width cells) ≡ rows * width + width = rw length-drop (omega (arith, whole, same)) in
    let left : drop (rows * width) (drop width cells) ≡ drop (width + rows * width) cells = drop-drop (rows * width) width cells in
    (λ i. record {
      header = take width cells;
      rows = (cut-next rows width (drop width cells) body ∙ ap (λ t. rows_cut rows width (drop width cells) ++ t ∷ []) left) i;
      hand = drop_all (width + (rows + 1) * width) cells (rw (add-one rows, suc-mul rows width) (omega (arith, whole, same))) i;
    })
    ∙ sym (ended-row (take width cells) (rows_cut rows width (drop width cells)) (drop (width + rows * width) cells) long)

-- what a row in hand must have to end, by the numbers
may-end-row : (header : Cells) (rows : List Cells) (hand : Cells) → 0 < length header → MayEnd header rows hand → (length hand ≡ length header) × (length rows < 2 ^ 32 - 1)
may-end-row [] rows hand h m = absurd (omega (arith, h))
may-end-row (c ∷ cs) rows hand h m = m

pub row-may-end : (width rows hand : ℕ) (cells : Cells) → 0 < width → length cells ≡ width + rows * width + hand → RowMayEnd (grid_of width rows cells) → (hand ≡ width) × (rows < 2 ^ 32 - 1)
row-may-end width rows hand cells some whole m =
    let wide : length (take width cells) ≡ width = length-take-le width cells (omega (arith, whole)) in
    let both = may-end-row (take width cells) (rows_cut rows width (drop width cells)) (drop (width + rows * width) cells) (rw wide some) m in
    (sym (hand-size width rows hand cells whole) ∙ both.0 ∙ wide, rw length-cut at both.1)

pub header-may-end : (rows hand : ℕ) (cells : Cells) → length cells ≡ 0 + rows * 0 + hand → RowMayEnd (grid_of 0 rows cells) → (rows ≡ 0) × (0 < hand) × (repeated_column cells ≡ None)
header-may-end rows hand cells whole m =
    let none : rows ≡ 0 = sym (length-cut rows 0 (drop 0 cells)) ∙ ap length m.0 in
    let all : drop (0 + rows * 0) cells ≡ cells = ap (λ k. drop k cells) (let z : 0 + rows * 0 ≡ 0 = omega arith in z) in
    (none, rw (hand-size 0 rows hand cells whole) at m.1, ap repeated_column (sym all) ∙ m.2)
