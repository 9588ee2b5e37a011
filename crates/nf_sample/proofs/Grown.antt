-- Rows and draws, some more at a time.
use Rattle.std.proofs.Common.{◌≡◌, ◌+◌, ◌*◌, ◌-◌, ◌++◌, ◌∷◌, ℕ, zero, suc, List, [], length, refl, ap, ap₂, sym, ◌∙◌, arith, append_assoc, length-append}
use Rattle.std.proofs.lemmas.List.{append-nil}
use Rattle.nf_table.specs.Grid.{Cells, Grid}
use Rattle.nf_sample.specs.Draws.{drawn, next_state, state_after}
use Rattle.nf_sample.specs.Rows.{rows_to, table_of}
use Rattle.nf_sample.specs.Sample.{supplies}

next : (n : ℕ) → n + 1 ≡ suc n
next n = omega arith

-- ---- rows
rows_more : (f : ℕ → List Cells) (n : ℕ) → rows_to f (n + 1) ≡ rows_to f n ++ f (n + 1)
unfolding rows_to
rows_more f n = ap (rows_to f) (next n) ∙ ap (λ m. rows_to f n ++ f m) (sym (next n))

rows_none : (f : ℕ → List Cells) → rows_to f 0 ≡ []
unfolding rows_to
rows_none f = refl

-- A table without one of the rows,
pub grown_none : (h : Cells) (f : ℕ → List Cells) (rows : List Cells) (now : Grid) → now ≡ table_of h rows → now ≡ table_of h (rows ++ rows_to f 0)
grown_none h f rows now e = e ∙ ap (table_of h) (sym (append-nil rows) ∙ ap (λ r. rows ++ r) (sym (rows_none f)))

pub begun_none : (h : Cells) (f : ℕ → List Cells) (now : Grid) → now ≡ table_of h [] → now ≡ table_of h (rows_to f 0)
begun_none h f now e = e ∙ ap (table_of h) (sym (rows_none f))

-- and with those of one number more.
pub grown : (h : Cells) (f : ℕ → List Cells) (n : ℕ) (rows more : List Cells) (now new : Grid) → now ≡ table_of h (rows ++ rows_to f n) → new ≡ table_of h (now.rows ++ more) → more ≡ f (n + 1) → new ≡ table_of h (rows ++ rows_to f (n + 1))
grown h f n rows more now new is e m =
    e ∙ ap₂ (λ r s. table_of h (r ++ s)) (ap (λ (t : Grid). t.rows) is) m
    ∙ ap (table_of h) (append_assoc rows (rows_to f n) (f (n + 1)) ∙ ap (λ r. rows ++ r) (sym (rows_more f n)))

-- Rows that are added after others are all added at once.
pub after : (h : Cells) (rows more last : List Cells) (now new : Grid) → now ≡ table_of h (rows ++ more) → new ≡ table_of h (now.rows ++ last) → new ≡ table_of h (rows ++ (more ++ last))
after h rows more last now new is e = e ∙ ap (λ r. table_of h (r ++ last)) (ap (λ (t : Grid). t.rows) is) ∙ ap (table_of h) (append_assoc rows more last)

pub longer : (h : Cells) (rows more : List Cells) (new : Grid) → new ≡ table_of h (rows ++ more) → length new.rows ≡ length rows + length more
longer h rows more new e = ap (λ (t : Grid). length t.rows) e ∙ length-append rows more

-- ---- draws
pub state_none : (x : ℕ) → x ≡ state_after x 0
unfolding state_after
state_none x = refl

pub state_more : (x n now new : ℕ) → now ≡ state_after x n → new ≡ next_state now → new ≡ state_after x (n + 1)
unfolding state_after
state_more x n now new is e = e ∙ (ap next_state is ∙ ap (state_after x) (sym (next n)))

state_sum : (x m n : ℕ) → state_after (state_after x m) n ≡ state_after x (m + n)
unfolding state_after
state_sum x m zero = ap (state_after x) (let e : m ≡ m + 0 = omega arith in e)
state_sum x m (suc n) = ap next_state (state_sum x m n) ∙ ap (state_after x) (let e : suc (m + n) ≡ m + suc n = omega arith in e)

-- four draws for each number
pub four_none : (x : ℕ) → x ≡ state_after x (4 * 0)
four_none x = state_none x

pub four_more : (x i now new : ℕ) → now ≡ state_after x (4 * i) → new ≡ state_after now 4 → new ≡ state_after x (4 * (i + 1))
four_more x i now new is e = e ∙ (ap (λ s. state_after s 4) is ∙ (state_sum x (4 * i) 4 ∙ ap (state_after x) (let q : 4 * i + 4 ≡ 4 * (i + 1) = omega arith in q)))

pub four_before : (x i now : ℕ) → now ≡ state_after x (4 * i) → now ≡ state_after x (4 * (i + 1 - 1))
four_before x i now is = is ∙ ap (λ k. state_after x (4 * k)) (let e : i ≡ i + 1 - 1 = omega arith in e)

-- ---- supplies
pub supplies_none : (x : ℕ) → [] ≡ supplies x 0
unfolding supplies
supplies_none x = refl

pub supplies_more : (x n s r : ℕ) (now new : List ℕ) → now ≡ supplies x n → s ≡ state_after x n → r ≡ drawn s 10 → new ≡ now ++ (r + 1) ∷ [] → new ≡ supplies x (n + 1)
unfolding supplies
supplies_more x n s r now new is at of e =
    e ∙ (ap₂ (λ (l : List ℕ) y. l ++ (y + 1) ∷ []) is (of ∙ ap (λ y. drawn y 10) at) ∙ ap (supplies x) (sym (next n)))
