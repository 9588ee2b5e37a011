-- The cells of rows, and digits without leading zeros.
use Rattle.std.proofs.Common.{◌≡◌, ◌∙◌, ◌<◌, ◌≤◌, ◌+◌, ℕ, suc, Bool, true, false, ◌&&◌, List, [], ◌∷◌, length, get_or, Some, None, refl, arith, lt-ltb}
use Rattle.std.specs.Prelude.{slice_get, decimal, nat_lt, if◌then◌else◌}
use Rattle.std.specs.Char.{is_ascii_digit}
use Rattle.std.specs.List.{list_all}
use Rattle.std.specs.Str.{bytes_eq}
use Rattle.std.proofs.lemmas.Option.{slice_get-map, slice_get-get_or, slice_get_past}
use Rattle.std.proofs.lemmas.List.{get_or-map, length-map}
use Rattle.nf_frac.specs.Digits.{are_digits, is_numeral}
use Rattle.nf_cells.specs.Cells.{value_of}
use Rattle.nf_table.specs.Grid.{Grid}
use Rattle.nf_saved.specs.declared.fault.SavedColumns.{SavedColumns}
use Rattle.nf_saved.specs.Rows.{saved_row, value_in}
use Rattle.nf_saved.specs.Reading.{no_row, status_row, word_in}
use Rattle.nf_warm.specs.Inside.{rows_in, statuses_in, words_in}

both : (a b : Bool) → (a && b) ≡ true → b ≡ true
both true b e = e
both false b e = absurd (let z : false ≡ true = e in cc)

-- Digits without leading zeros are digits.
pub numeral-digits : (ds : List ℕ) → is_numeral ds ≡ true → are_digits ds ≡ true
numeral-digits [] e = absurd (let z : false ≡ true = e in cc)
numeral-digits (d ∷ []) e = rw e refl
numeral-digits (d ∷ e ∷ ds) h = rw (lt-ltb 0 (length (d ∷ e ∷ ds)) (omega arith)) (both (nat_lt 48 d) (list_all is_ascii_digit (d ∷ e ∷ ds)) h)

-- Row k, from 0, by its number from 1 after the header.
pub row-there : (table : Grid) (c : SavedColumns) (k : ℕ) → k < length table.rows → slice_get (rows_in table c) k ≡ Some (saved_row c.key c.number c.value (get_or (table.header ∷ table.rows) (k + 1) []))
row-there table c k h =
    let one : k + 1 ≡ suc k = omega arith in
    slice_get-map (saved_row c.key c.number c.value) table.rows k ∙ (rw (one, slice_get-get_or table.rows k [] h) refl)

pub row-missing : (table : Grid) (c : SavedColumns) (k : ℕ) → length table.rows ≤ k → slice_get (rows_in table c) k ≡ None
row-missing table c k h = slice_get_past (rows_in table c) k (let e = length-map table.rows (saved_row c.key c.number c.value) in omega (arith, h, e))

-- The value of a row that is due, and that of another row.
pub due-value : (table : Grid) (c : SavedColumns) (k n : ℕ) (key found numbered : List ℕ) (b : Bool) → k < length table.rows
    → found ≡ value_of (get_or (get_or (table.header ∷ table.rows) (k + 1) []) c.key []) → numbered ≡ value_of (get_or (get_or (table.header ∷ table.rows) (k + 1) []) c.number [])
    → b ≡ (bytes_eq found key && bytes_eq numbered (decimal n))
    → value_in (slice_get (rows_in table c) k) key n ≡ (if b then Some (value_of (get_or (get_or (table.header ∷ table.rows) (k + 1) []) c.value [])) else None)
unfolding value_in
due-value table c k n key found numbered b h d e is = rw (row-there table c k h, ← d, ← e, ← is) refl

pub no-value : (table : Grid) (c : SavedColumns) (k n : ℕ) (key : List ℕ) → length table.rows ≤ k → None ≡ value_in (slice_get (rows_in table c) k) key n
unfolding value_in
no-value table c k n key h = rw (row-missing table c k h) refl

-- The cells of row j, from 0, of CONIN, and the word of row i of DUALIN.
pub status-there : (table : Grid) (c : SavedColumns) (j : ℕ) → j < length table.rows
    → get_or (statuses_in table c) j no_row ≡ record { status = value_of (get_or (get_or (table.header ∷ table.rows) (j + 1) []) c.status []); number = value_of (get_or (get_or (table.header ∷ table.rows) (j + 1) []) c.anumb []) }
status-there table c j h =
    let one : j + 1 ≡ suc j = omega arith in
    get_or-map (status_row c.status c.anumb) table.rows j [] no_row h ∙ (rw one refl)

pub word-there : (table : Grid) (c : SavedColumns) (i : ℕ) → i < length table.rows → get_or (words_in table c) i [] ≡ value_of (get_or (get_or (table.header ∷ table.rows) (i + 1) []) c.word [])
word-there table c i h =
    let one : i + 1 ≡ suc i = omega arith in
    get_or-map (word_in c.word) table.rows i [] [] h ∙ (rw one refl)
