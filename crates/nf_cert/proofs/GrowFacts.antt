-- How a certificate's table grows.
use Rattle.std.proofs.Common.{◌≡◌, ◌∙◌, ◌<◌, ◌≤◌, ◌+◌, ◌-◌, ◌^◌, ◌++◌, ◌∷◌, ℕ, suc, List, [], length, take, get_or, refl, sym, ap, subst, arith, append_assoc, length-append, codes}
use Rattle.std.proofs.lemmas.List.{append-nil, length-take, length-take-le, take_more, take_all}
use Rattle.std.specs.List.{All}
use Rattle.std.proofs.lemmas.List.Elements.{All-push}
use Rattle.nf_num.specs.Rational.{ℚ}
use Rattle.nf_frac.specs.Texts.{frac_text}
use Rattle.nf_table.specs.Grid.{Cells, Grid}
use Rattle.nf_table.specs.Making.{RowMayEnd, empty_table, with_cell, with_row_ended}
use Rattle.nf_table.specs.Reading.{repeated_after}
use Rattle.nf_cert.specs.declared.item.Kind.{Kind}
use Rattle.nf_cert.specs.Written.{HasParts, cert_header, frac_rows, with_header, written_row}

-- ---- the header
abbrev headed : Grid
headed = record { header = []; rows = []; hand = cert_header }

header-may-end : RowMayEnd headed
unfolding repeated_after
header-may-end = (refl, omega arith, refl)

header-pushed : (g0 g1 g2 g3 : Grid) (a b c : List ℕ) → g0 ≡ empty_table → g1 ≡ with_cell g0 a → g2 ≡ with_cell g1 b → g3 ≡ with_cell g2 c → a ≡ codes "_ITEM_" → b ≡ codes "_NUMBER_" → c ≡ codes "_VALUE_" → g3 ≡ headed
header-pushed g0 g1 g2 g3 a b c h0 h1 h2 h3 ea eb ec = rw (h3, h2, h1, h0, ea, eb, ec) refl

pub header-ends : (g0 g1 g2 g3 : Grid) (a b c : List ℕ) → g0 ≡ empty_table → g1 ≡ with_cell g0 a → g2 ≡ with_cell g1 b → g3 ≡ with_cell g2 c → a ≡ codes "_ITEM_" → b ≡ codes "_NUMBER_" → c ≡ codes "_VALUE_"
    → RowMayEnd g3 × (with_row_ended g3 ≡ with_header [])
header-ends g0 g1 g2 g3 a b c h0 h1 h2 h3 ea eb ec =
    let same = header-pushed g0 g1 g2 g3 a b c h0 h1 h2 h3 ea eb ec in
    (subst RowMayEnd (sym same) header-may-end, ap with_row_ended same)

-- ---- a row
row-pushed : (rows : List Cells) (g0 g1 g2 g3 : Grid) (a b c : List ℕ) → g0 ≡ with_header rows → g1 ≡ with_cell g0 a → g2 ≡ with_cell g1 b → g3 ≡ with_cell g2 c → g3 ≡ record { header = cert_header; rows = rows; hand = a ∷ b ∷ c ∷ [] }
row-pushed rows g0 g1 g2 g3 a b c h0 h1 h2 h3 = rw (h3, h2, h1, h0) refl

pub row-ends : (g0 g1 g2 g3 : Grid) (a b c : List ℕ) → g0 ≡ with_header g0.rows → length g0.rows < 2 ^ 32 - 1 → g1 ≡ with_cell g0 a → g2 ≡ with_cell g1 b → g3 ≡ with_cell g2 c
    → RowMayEnd g3 × (with_row_ended g3 ≡ with_header (g0.rows ++ (a ∷ b ∷ c ∷ []) ∷ []))
row-ends g0 g1 g2 g3 a b c h0 few h1 h2 h3 =
    let same = row-pushed g0.rows g0 g1 g2 g3 a b c h0 h1 h2 h3 in
    (subst RowMayEnd (sym same) (refl, few), ap with_row_ended same)

-- ---- the rows of one kind
rows-push : (k : Kind) (n : ℕ) (xs : List ℚ) (x : ℚ) → frac_rows k n (xs ++ x ∷ []) ≡ frac_rows k n xs ++ written_row k (n + length xs) (frac_text x) ∷ []
unfolding frac_rows
rows-push k n [] x = ap (λ m. written_row k m (frac_text x) ∷ []) (let e : n ≡ n + 0 = omega arith in e)
rows-push k n (y ∷ xs) x =
    ap (λ (t : List Cells). written_row k n (frac_text y) ∷ t) (rows-push k (suc n) xs x ∙ ap (λ m. frac_rows k (suc n) xs ++ written_row k m (frac_text x) ∷ []) (let e : suc n + length xs ≡ n + suc (length xs) = omega arith in e))

length-rows : (k : Kind) (n : ℕ) (xs : List ℚ) → length (frac_rows k n xs) ≡ length xs
unfolding frac_rows
length-rows k n [] = refl
length-rows k n (x ∷ xs) = ap suc (length-rows k (suc n) xs)

-- so many fractions have their rows
pub record HasGrown (start : List Cells) (k : Kind) (xs : List ℚ) (i : ℕ) (now : Grid) : Type 0 where
  pub rows : now ≡ with_header (start ++ frac_rows k 1 (take i xs))
  pub parts : All HasParts (take i xs)

pub grown-none : (start : List Cells) (k : Kind) (xs : List ℚ) (now : Grid) → now ≡ with_header start → HasGrown start k xs 0 now
unfolding frac_rows
grown-none start k xs now e = record { rows = e ∙ ap with_header (sym (append-nil start)); parts = λ j d h. absurd (omega arith) }

pub grown-more : (start : List Cells) (k : Kind) (xs : List ℚ) (i : ℕ) (x : ℚ) (now next : Grid) → i < length xs → x ≡ get_or xs i x → HasGrown start k xs i now
    → next ≡ with_header (now.rows ++ written_row k (i + 1) (frac_text x) ∷ []) → HasParts x → HasGrown start k xs (i + 1) next
grown-more start k xs i x now next b read g e parts =
    let more : take (i + 1) xs ≡ take i xs ++ x ∷ [] = take_more xs i x b ∙ ap (λ (y : ℚ). take i xs ++ y ∷ []) (sym read) in
    let here : 1 + length (take i xs) ≡ i + 1 = omega (arith, length-take-le i xs (omega (arith, b))) in
    record {
      rows = e
          ∙ ap (λ (t : Grid). with_header (t.rows ++ written_row k (i + 1) (frac_text x) ∷ [])) g.rows
          ∙ ap with_header (append_assoc start (frac_rows k 1 (take i xs)) (written_row k (i + 1) (frac_text x) ∷ [])
          ∙ ap (λ (t : List Cells). start ++ t) (ap (λ m. frac_rows k 1 (take i xs) ++ written_row k m (frac_text x) ∷ []) (sym here) ∙ sym (rows-push k 1 (take i xs) x) ∙ ap (frac_rows k 1) (sym more)));
      parts = subst (All HasParts) (sym more) (All-push HasParts (take i xs) x g.parts parts);
    }

pub grown-begun : (start : List Cells) (k : Kind) (xs : List ℚ) (i : ℕ) (now : Grid) → HasGrown start k xs i now → now ≡ with_header now.rows
grown-begun start k xs i now g = g.rows ∙ ap (λ (t : Grid). with_header t.rows) (sym g.rows)

pub grown-room : (start : List Cells) (k : Kind) (xs : List ℚ) (i : ℕ) (now : Grid) → HasGrown start k xs i now → length start ≤ 2 ^ 30 + 1 → length xs ≤ 2 ^ 30 → length now.rows < 2 ^ 32 - 1
grown-room start k xs i now g few many =
    let size : length now.rows ≡ length start + length (take i xs) = ap (λ (t : Grid). length t.rows) g.rows ∙ length-append start (frac_rows k 1 (take i xs)) ∙ ap (λ n. length start + n) (length-rows k 1 (take i xs)) in
    omega (arith, size, few, many, length-take i xs)

pub grown-all : (start : List Cells) (k : Kind) (xs : List ℚ) (i : ℕ) (now : Grid) → length xs ≤ i → HasGrown start k xs i now → (now ≡ with_header (start ++ frac_rows k 1 xs)) × All HasParts xs
grown-all start k xs i now h g = (g.rows ∙ ap (λ (t : List ℚ). with_header (start ++ frac_rows k 1 t)) (take_all i xs h), subst (All HasParts) (take_all i xs h) g.parts)

pub first-size : (g0 g1 : Grid) (r : Cells) → g0 ≡ with_header [] → g1 ≡ with_header (g0.rows ++ r ∷ []) → length g1.rows ≡ 1
first-size g0 g1 r h0 h1 = ap (λ (t : Grid). length t.rows) h1 ∙ ap (λ (t : Grid). length (t.rows ++ r ∷ [])) h0

pub rows-size : (start : List Cells) (k : Kind) (xs : List ℚ) (now : Grid) → now ≡ with_header (start ++ frac_rows k 1 xs) → length now.rows ≡ length start + length xs
rows-size start k xs now e = ap (λ (t : Grid). length t.rows) e ∙ length-append start (frac_rows k 1 xs) ∙ ap (λ n. length start + n) (length-rows k 1 xs)
