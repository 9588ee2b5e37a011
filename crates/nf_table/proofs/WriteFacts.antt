-- What is written of a table is read back.
use Rattle.std.proofs.Common.{◌≡◌, ◌∙◌, ◌+◌, ◌<◌, ◌≤◌, ◌++◌, ◌∷◌, ◌==◌, ℕ, zero, suc, List, [], Bool, true, false, inl, inr, Option, Some, None, Ok, length, map, take, get_or, refl, sym, ap, subst, length-append, append_assoc, arith}
use Rattle.std.specs.Prelude.{if◌then◌else◌}
use Rattle.std.specs.List.{list_all, list_any}
use Rattle.std.specs.Str.{IsUtf8, is_utf8}
use Rattle.std.specs.Io.KnownBytes.{Appends}
use Rattle.std.proofs.lemmas.Bool.{and_from, cases_Bool, le-ltb, ne_eqb}
use Rattle.std.proofs.lemmas.List.{append-nil, take_more, take_all}
use Rattle.std.proofs.lemmas.Str.{is_utf8-from_IsUtf8}
use Rattle.csv.specs.Machine.{next_record}
use Rattle.csv.specs.Reading.{default_config, is_bom, records_from, strip_bom}
use Rattle.csv.specs.Writing.{default_writer, field_text, fields_text, is_blank, needs_byte, read_back, row_text}
use Rattle.csv.specs.declared.parser.State.TheVariants as st
use Rattle.csv.proofs.RoundTrip.{read-write, rows_text}
use Rattle.nf_io.specs.Held.{most_bytes}
use Rattle.nf_table.specs.Grid.{Cells, Grid, IsEven, IsText}
use Rattle.nf_table.specs.Reading.{repeated_column, rows_read, table_read}
use Rattle.nf_table.specs.Writing.{begins_with_mark, has_mark, table_text}
use Rattle.nf_table.proofs.RowFacts.{row-read}

-- ---- rows
-- a row has a byte at least
row-some : (r : Cells) → 0 < length (row_text default_writer r)
row-some r = simp length-append (omega arith)

rows-fit : (rows : List Cells) → length rows ≤ length (rows_text rows)
unfolding rows_text
rows-fit [] = omega arith
rows-fit (r ∷ rs) = rw length-append (omega (arith, row-some r, rows-fit rs))

-- what was written reads as the rows
rows-back : (rows : List Cells) (n : ℕ) → length rows ≤ n → records_from default_config n st.StartRecord (rows_text rows) ≡ map read_back rows
unfolding records_from rows_text next_record
rows-back [] zero h = refl
rows-back [] (suc n) h = refl
rows-back (r ∷ rs) zero h = absurd (omega (arith, h))
rows-back (r ∷ rs) (suc n) h = rw (read-write r (rows_text rs)) (ap (λ (t : List Cells). read_back r ∷ t) (rows-back rs n (omega (arith, h))))

same-back : (rows : List Cells) → ((k : ℕ) → k < length rows → 0 < length (get_or rows k [])) → map read_back rows ≡ rows
same-back [] h = refl
same-back ([] ∷ rs) h = let some : 0 < 0 = h 0 (omega arith) in absurd (omega (arith, some))
same-back ((c ∷ cs) ∷ rs) h = ap (λ (t : List Cells). (c ∷ cs) ∷ t) (same-back rs (λ k b. h (suc k) (omega (arith, b))))

-- rows of the header's length and of text are taken
rows-taken : (header : Cells) (done rows : List Cells) → ((k : ℕ) → k < length rows → (length (get_or rows k []) ≡ length header) × (list_all is_utf8 (get_or rows k []) ≡ true))
    → rows_read header done rows ≡ Ok (record { header = header; rows = done ++ rows; hand = [] })
unfolding rows_read
rows-taken header done [] h = ap (λ (t : List Cells). Ok (record { header = header; rows = t; hand = [] })) (sym (append-nil done))
rows-taken header done (r ∷ rs) h =
    let this = h 0 (omega arith) in
    row-read header done r rs this.0 this.1
    ∙ rows-taken header (done ++ r ∷ []) rs (λ k b. h (suc k) (omega (arith, b)))
    ∙ ap (λ (t : List Cells). Ok (record { header = header; rows = t; hand = [] })) (append_assoc done (r ∷ []) rs)

all-text : (r : Cells) → ((column : ℕ) → IsUtf8 (get_or r column [])) → list_all is_utf8 r ≡ true
all-text [] h = refl
all-text (c ∷ cs) h = and_from (is_utf8 c) (list_all is_utf8 cs) (is_utf8-from_IsUtf8 c (h 0)) (all-text cs (λ k. h (suc k)))

-- ---- no mark at the start
-- a byte of ASCII behind a text makes no mark
mark-behind : (u : List ℕ) (d : ℕ) (tail : List ℕ) → d < 128 → has_mark u ≡ false → has_mark (u ++ (d ∷ tail)) ≡ false
mark-behind [] d [] small h = refl
mark-behind [] d (a ∷ []) small h = refl
mark-behind [] d (a ∷ b ∷ rest) small h = rw (ne_eqb d 239 (omega (arith, small))) refl
mark-behind (a ∷ []) d [] small h = refl
mark-behind (a ∷ []) d (b ∷ rest) small h = not-second a d b (ne_eqb d 187 (omega (arith, small)))
  where
    not-second : (a d b : ℕ) → (d == 187) ≡ false → is_bom a d b ≡ false
    not-second a d b e = elim (cases_Bool (a == 239)) [ inl t ↦ rw (t, e) refl | inr f ↦ rw f refl ]
mark-behind (a ∷ b ∷ []) d tail small h = not-third a b d (ne_eqb d 191 (omega (arith, small)))
  where
    not-third : (a b d : ℕ) → (d == 191) ≡ false → is_bom a b d ≡ false
    not-third a b d e = elim (cases_Bool (a == 239)) [
      | inl t ↦ elim (cases_Bool (b == 187)) [ inl s ↦ rw (t, s, e) refl | inr s ↦ rw (t, s) refl ]
      | inr f ↦ rw f refl
    ]
mark-behind (a ∷ b ∷ c ∷ rest) d tail small h = h

field-mark : (x : List ℕ) → has_mark x ≡ false → has_mark (field_text default_writer x) ≡ false
field-mark x h = elim (cases_Bool (list_any (needs_byte default_writer) x)) [
  | inl needs ↦ rw needs (mark-behind [] 34 _ (omega arith) refl)
  | inr plain ↦ rw plain h
]

-- what stands behind the first cell
Behind : List ℕ → Type 0
Behind text = (d : ℕ) × (tail : List ℕ) × (d < 128) × (text ≡ d ∷ tail)

behind : (xs : Cells) (b : Bool) (rest : List ℕ) → Behind (fields_text default_writer xs ++ ((if b then 34 ∷ 34 ∷ [] else []) ++ (10 ∷ rest)))
unfolding fields_text Behind
behind [] true rest = (34, _, omega arith, refl)
behind [] false rest = (10, _, omega arith, refl)
behind (y ∷ ys) b rest = (44, _, omega arith, refl)

unmarked : (x : List ℕ) (text : List ℕ) → has_mark x ≡ false → Behind text → has_mark (field_text default_writer x ++ text) ≡ false
unfolding Behind
unmarked x text h (d, tail, small, e) = rw e (mark-behind (field_text default_writer x) d tail small (field-mark x h))

rows-unmarked : (header : Cells) (rows : List Cells) → 0 < length header → has_mark (get_or header 0 []) ≡ false → has_mark (rows_text (header ∷ rows)) ≡ false
unfolding rows_text
rows-unmarked [] rows some h = absurd (omega (arith, some))
rows-unmarked (x ∷ xs) rows some h =
    let b : Bool = is_blank default_writer (x ∷ xs) in
    let q : List ℕ = if b then 34 ∷ 34 ∷ [] else [] in
    let ends : row_text default_writer (x ∷ xs) ++ rows_text rows ≡ field_text default_writer x ++ (fields_text default_writer xs ++ (q ++ (10 ∷ rows_text rows))) =
    append_assoc (field_text default_writer x ++ fields_text default_writer xs) (q ++ (10 ∷ [])) (rows_text rows)
    ∙ append_assoc (field_text default_writer x) (fields_text default_writer xs) ((q ++ (10 ∷ [])) ++ rows_text rows)
    ∙ ap (λ (t : List ℕ). field_text default_writer x ++ (fields_text default_writer xs ++ t)) (append_assoc q (10 ∷ []) (rows_text rows)) in
    subst (λ (t : List ℕ). has_mark t ≡ false) (sym ends) (unmarked x _ h (behind xs b (rows_text rows)))

strip-none : (text : List ℕ) → has_mark text ≡ false → strip_bom text ≡ text
unfolding strip_bom
strip-none [] h = refl
strip-none (a ∷ []) h = refl
strip-none (a ∷ b ∷ []) h = refl
strip-none (a ∷ b ∷ c ∷ rest) h = rw h refl

-- ---- the whole table
some-cells : (header : Cells) → (header ≡ [] → ⊥) → 0 < length header
some-cells [] h = absurd (h refl)
some-cells (c ∷ cs) h = omega arith

pub table-back : (g : Grid) → (g.header ≡ [] → ⊥) → begins_with_mark g ≡ false → g.hand ≡ [] → IsEven g → IsText g → repeated_column g.header ≡ None → length (table_text g) ≤ most_bytes → table_read (table_text g) ≡ Ok g
table-back g some mark hand even text names few =
    let cells : 0 < length g.header = some-cells g.header some in
    let long = rows-fit (g.header ∷ g.rows) in
    let stripped = strip-none (table_text g) (rows-unmarked g.header g.rows cells mark) in
    let wide : (k : ℕ) → k < length (g.header ∷ g.rows) → 0 < length (get_or (g.header ∷ g.rows) k []) = λ k b. let e = even k (omega (arith, b)) in omega (arith, e, cells) in
    let back = rows-back (g.header ∷ g.rows) (length (table_text g) + 1) (omega (arith, long)) ∙ same-back (g.header ∷ g.rows) wide in
    let first : list_all is_utf8 g.header ≡ true = all-text g.header (λ column. text 0 column) in
    let taken = rows-taken g.header [] g.rows (λ k b. (even (suc k) (omega (arith, b)), all-text (get_or g.rows k []) (λ column. text (suc k) column))) in
    rw (le-ltb most_bytes (length (table_text g)) few, stripped, back, first, names) (taken ∙ ap (λ (t : Cells). Ok (record { header = g.header; rows = g.rows; hand = t })) (sym hand))

-- ---- one more row is written
rows-append : (rows : List Cells) (r : Cells) → rows_text (rows ++ r ∷ []) ≡ rows_text rows ++ row_text default_writer r
unfolding rows_text
rows-append [] r = append-nil (row_text default_writer r)
rows-append (q ∷ rows) r = ap (λ (t : List ℕ). row_text default_writer q ++ t) (rows-append rows r) ∙ sym (append_assoc (row_text default_writer q) (rows_text rows) (row_text default_writer r))

pub row-written : (old new : Option (List ℕ)) (rows : List Cells) (i : ℕ) → i < length rows → old ≡ Some (rows_text (take i rows)) → Appends old new (row_text default_writer (get_or rows i []))
    → new ≡ Some (rows_text (take (i + 1) rows))
row-written old None rows i h is a = absurd (rw is at a)
row-written old (Some text) rows i h is a =
    let added : text ≡ rows_text (take i rows) ++ row_text default_writer (get_or rows i []) = rw is at a in
    rw (added, take_more rows i [] h, rows-append (take i rows) (get_or rows i [])) refl

pub none-written : (old : Option (List ℕ)) (rows : List Cells) → old ≡ Some [] → old ≡ Some (rows_text (take 0 rows))
unfolding rows_text
none-written old rows h = h

pub all-written : (new : Option (List ℕ)) (rows : List Cells) (i : ℕ) → length rows ≤ i → new ≡ Some (rows_text (take i rows)) → new ≡ Some (rows_text rows)
all-written new rows i h e = e ∙ ap (λ (t : List Cells). Some (rows_text t)) (take_all i rows h)

-- ---- a copy of a row
pub cell-copied : (row : Cells) (column : ℕ) (old new : Cells) (cell : List ℕ) → column < length row → old ≡ take column row → cell ≡ get_or row column [] → new ≡ old ++ cell ∷ [] → new ≡ take (column + 1) row
cell-copied row column old new cell h is read e = e ∙ ap (λ (t : Cells). t ++ cell ∷ []) is ∙ ap (λ (c : List ℕ). take column row ++ c ∷ []) read ∙ sym (take_more row column [] h)
