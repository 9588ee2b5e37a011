-- The rows of a table, one more at a time.
use Rattle.std.proofs.Common.{◌≡◌, ℕ, suc, ◌+◌, ◌<◌, ◌≤◌, List, [], ◌∷◌, ◌++◌, length, take, get_or, None, refl, sym, ◌∙◌, ap, ap₂, subst, arith}
use Rattle.std.proofs.lemmas.List.{take_more, take_all, length-take-le, length_push}
use Rattle.nf_table.specs.Grid.{Cells, Grid}
use Rattle.nf_table.specs.Making.{RowMayEnd}
use Rattle.nf_table.specs.Reading.{repeated_after, repeated_column}
use Rattle.nf_dimacs.specs.Tables.{arcs_header, nodes_header, numbered, table_of}

-- ---- the header
pub may-end : (now : Grid) (cells : Cells) → now ≡ record { header = []; rows = []; hand = cells } → 0 < length cells → repeated_column cells ≡ None → RowMayEnd now
may-end now cells is some apart = subst RowMayEnd (sym is) (refl, some, apart)

pub arcs-apart : repeated_column arcs_header ≡ None
unfolding repeated_after
arcs-apart = refl

pub nodes-apart : repeated_column nodes_header ≡ None
unfolding repeated_after
nodes-apart = refl

-- ---- the rows
module _ {A : Type 0} (row_of : ℕ → A → Cells) where
  numbered-push : (k : ℕ) (xs : List A) (x : A) → numbered row_of k (xs ++ x ∷ []) ≡ numbered row_of k xs ++ row_of (k + length xs) x ∷ []
  unfolding numbered
  numbered-push k [] x = ap (λ (n : ℕ). row_of n x ∷ []) (let e : k ≡ k + 0 = omega arith in e)
  numbered-push k (y ∷ xs) x =
      ap (λ (rows : List Cells). row_of k y ∷ rows)
      (numbered-push (suc k) xs x ∙ ap (λ (n : ℕ). numbered row_of (suc k) xs ++ row_of n x ∷ []) (let e : suc k + length xs ≡ k + suc (length xs) = omega arith in e))

-- The table has the rows of the first i items.
pub record Grown {A : Type 0} (row_of : ℕ → A → Cells) (header : Cells) (xs : List A) (i : ℕ) (now : Grid) : Type 0 where
  pub rows : now ≡ table_of header (numbered row_of 1 (take i xs))
  pub count : length now.rows ≡ i

module _ {A : Type 0} (row_of : ℕ → A → Cells) (header : Cells) (xs : List A) where
  pub grown-none : (now : Grid) → now ≡ table_of header [] → Grown row_of header xs 0 now
  unfolding numbered
  grown-none now is = record { rows = is; count = ap (λ (t : Grid). length t.rows) is }

  pub grown-more : (i : ℕ) (d : A) (now new : Grid) → i < length xs → Grown row_of header xs i now → new ≡ table_of header (now.rows ++ row_of (i + 1) (get_or xs i d) ∷ []) → Grown row_of header xs (i + 1) new
  grown-more i d now new within on e =
      let here : i + 1 ≡ 1 + length (take i xs) = omega (arith, length-take-le i xs (omega (arith, within))) in
      record {
        rows = e ∙ ap₂ (λ (rows : List Cells) (n : ℕ). table_of header (rows ++ row_of n (get_or xs i d) ∷ [])) (ap (λ (t : Grid). t.rows) on.rows) here
            ∙ ap (table_of header) (sym (numbered-push row_of 1 (take i xs) (get_or xs i d)) ∙ ap (numbered row_of 1) (sym (take_more xs i d within)));
        count = ap (λ (t : Grid). length t.rows) e ∙ length_push now.rows (row_of (i + 1) (get_or xs i d)) ∙ ap (λ (n : ℕ). n + 1) on.count;
      }

  pub grown-begun : (i : ℕ) (now : Grid) → Grown row_of header xs i now → now ≡ table_of header now.rows
  grown-begun i now on = on.rows ∙ ap (λ (t : Grid). table_of header t.rows) (sym on.rows)

  pub grown-all : (i : ℕ) (now : Grid) → length xs ≤ i → Grown row_of header xs i now → now ≡ table_of header (numbered row_of 1 xs)
  grown-all i now all on = on.rows ∙ ap (λ (ys : List A). table_of header (numbered row_of 1 ys)) (take_all i xs all)
