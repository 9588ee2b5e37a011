-- How a row in hand grows cell by cell, and a table row by row.
use Rattle.std.proofs.Common.{◌≡◌, ◌∙◌, ◌<◌, ◌≤◌, ◌+◌, ◌-◌, ◌^◌, ◌++◌, ◌∷◌, ℕ, zero, suc, List, [], None, length, map, take, get_or, refl, ap, sym, subst, arith, append_assoc, length-append}
use Rattle.std.specs.List.{range_with_len}
use Rattle.std.proofs.lemmas.List.{append-nil, length-map, length-take-le, map-append, take_all, take_more}
use Rattle.std.proofs.lemmas.List.FromFn.{map-range_with_len_more}
use Rattle.nf_table.specs.Grid.{Cells, Grid}
use Rattle.nf_table.specs.Making.{RowMayEnd, empty_table, with_cell, with_row_ended}
use Rattle.nf_table.specs.Reading.{repeated_column}
use Rattle.nf_out.specs.Tables.{grid_of, row_of, with_cells, with_rows}

-- ---- the row in hand
module _ {A : Type 0} (f : A → List ℕ) (xs : List A) where
  pub none-in-hand : (g : Grid) → g ≡ with_cells g (map f (take 0 xs))
  none-in-hand g = ap (λ h. record { header = g.header; rows = g.rows; hand = h }) (sym (append-nil g.hand))

  pub more-in-hand : (start now next : Grid) (i : ℕ) (d : A) → i < length xs → now ≡ with_cells start (map f (take i xs)) → next ≡ with_cell now (f (get_or xs i d)) → next ≡ with_cells start (map f (take (i + 1) xs))
  more-in-hand start now next i d b e more =
      more ∙ (ap (λ g. with_cell g (f (get_or xs i d))) e
      ∙ ap (λ h. record { header = start.header; rows = start.rows; hand = h })
      (append_assoc start.hand (map f (take i xs)) (f (get_or xs i d) ∷ [])
      ∙ ap (λ cs. start.hand ++ cs) (sym (ap (map f) (take_more xs i d b) ∙ map-append f (take i xs) (get_or xs i d ∷ [])))))

  pub room-in-hand : (start now : Grid) (i : ℕ) → start.hand ≡ [] → length xs < 2 ^ 31 → i < length xs → now ≡ with_cells start (map f (take i xs)) → length now.hand < 2 ^ 31
  room-in-hand start now i empty few b e =
      let size : length now.hand ≡ i = ap (λ (g : Grid). length g.hand) e ∙ (ap (λ (h : Cells). length (h ++ map f (take i xs))) empty ∙ (length-map (take i xs) f ∙ length-take-le i xs (omega (arith, b)))) in
      omega (arith, size, few, b)

  pub all-in-hand : (start now : Grid) (i : ℕ) → length xs ≤ i → now ≡ with_cells start (map f (take i xs)) → now ≡ with_cells start (map f xs)
  all-in-hand start now i h e = e ∙ ap (λ ys. with_cells start (map f ys)) (take_all i xs h)

-- ---- the header
pub header-may-end : (names : Cells) (g : Grid) → 0 < length names → repeated_column names ≡ None → g ≡ with_cells empty_table names → RowMayEnd g
header-may-end names g some once e = subst RowMayEnd (sym e) (refl, some, once)

pub header-ended : (names : Cells) (g : Grid) → g ≡ with_cells empty_table names → with_row_ended g ≡ with_rows names []
header-ended names g e = ap with_row_ended e

-- ---- rows
module _ (rows : List Cells) (start g : Grid) where
  pub row-may-end : (names cells : Cells) → 0 < length names → length cells ≡ length names → length rows < 2 ^ 32 - 1 → start ≡ with_rows names rows → g ≡ with_cells start cells → RowMayEnd g
  row-may-end [] cells some even few begun e = absurd (omega (arith, some))
  row-may-end (n ∷ names) cells some even few begun e = subst RowMayEnd (sym (e ∙ ap (λ h. with_cells h cells) begun)) (even, few)

  pub row-ended : (names cells : Cells) → 0 < length names → start ≡ with_rows names rows → g ≡ with_cells start cells → with_row_ended g ≡ with_rows names (rows ++ cells ∷ [])
  row-ended [] cells some begun e = absurd (omega (arith, some))
  row-ended (n ∷ names) cells some begun e = ap with_row_ended (e ∙ ap (λ h. with_cells h cells) begun)

-- The rows from `first` up to k are there.
pub record HasRows {A : Type 0} (name : A → List ℕ) (cell : A → ℕ → List ℕ) (fields : List A) (first k : ℕ) (now : Grid) : Type 0 where
  pub order : first ≤ k
  pub rows : now ≡ with_rows (map name fields) (map (row_of cell fields) (range_with_len first (k - first)))

module _ {A : Type 0} (name : A → List ℕ) (cell : A → ℕ → List ℕ) (fields : List A) (first : ℕ) where
  pub no-rows : (now : Grid) → now ≡ with_rows (map name fields) [] → HasRows name cell fields first first now
  no-rows now e = record { order = omega arith; rows = e ∙ ap (λ n. with_rows (map name fields) (map (row_of cell fields) (range_with_len first n))) (let d : 0 ≡ first - first = omega arith in d) }

  pub rows-begun : (k : ℕ) (now : Grid) → HasRows name cell fields first k now → now.hand ≡ []
  rows-begun k now h = ap (λ (g : Grid). g.hand) h.rows

  size : (k : ℕ) (now : Grid) → HasRows name cell fields first k now → length now.rows ≡ k - first
  size k now h = ap (λ (g : Grid). length g.rows) h.rows ∙ (length-map (range_with_len first (k - first)) (row_of cell fields) ∙ length-range first (k - first))
    where
      length-range : (a n : ℕ) → length (range_with_len a n) ≡ n
      length-range a zero = refl
      length-range a (suc n) = ap suc (length-range (a + 1) n)

  pub next-row : (k : ℕ) (now g : Grid) → 0 < length fields → k < 2 ^ 31 → HasRows name cell fields first k now → g ≡ with_cells now (row_of cell fields k)
      → RowMayEnd g × (with_row_ended g ≡ with_rows (map name fields) (map (row_of cell fields) (range_with_len first (k - first)) ++ row_of cell fields k ∷ []))
  next-row k now g some few h e =
      let named : length (map name fields) ≡ length fields = length-map fields name in
      let count : length (map (row_of cell fields) (range_with_len first (k - first))) ≡ k - first = sym (ap (λ (t : Grid). length t.rows) h.rows) ∙ size k now h in (
        row-may-end (map (row_of cell fields) (range_with_len first (k - first))) now g (map name fields) (row_of cell fields k) (omega (arith, named, some)) (length-map fields (λ f. cell f k) ∙ sym named) (omega (arith, count, few)) h.rows e,
        row-ended (map (row_of cell fields) (range_with_len first (k - first))) now g (map name fields) (row_of cell fields k) (omega (arith, named, some)) h.rows e,
      )

  pub more-rows : (k : ℕ) (now g next : Grid) → 0 < length fields → k < 2 ^ 31 → HasRows name cell fields first k now → g ≡ with_cells now (row_of cell fields k) → next ≡ with_row_ended g → HasRows name cell fields first (k + 1) next
  more-rows k now g next some few h e d = record {
    order = omega (arith, h.order);
    rows = d ∙ ((next-row k now g some few h e).1
        ∙ ap (λ rs. with_rows (map name fields) rs)
        (sym (map-range_with_len_more (row_of cell fields) first (k - first) k (omega (arith, h.order)))
        ∙ ap (λ n. map (row_of cell fields) (range_with_len first n)) (let q : k - first + 1 ≡ k + 1 - first = omega (arith, h.order) in q)));
  }

  pub all-rows : (k last : ℕ) (now : Grid) → k ≡ last → HasRows name cell fields first k now → now ≡ grid_of name cell fields first (last - first)
  unfolding grid_of
  all-rows k last now e h = h.rows ∙ ap (λ n. with_rows (map name fields) (map (row_of cell fields) (range_with_len first (n - first)))) e
