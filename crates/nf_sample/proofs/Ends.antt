-- Cells that are put into the row in hand, one more at a time, and the row that they end.
use Rattle.std.proofs.Common.{◌≡◌, ◌+◌, ◌-◌, ◌^◌, ◌<◌, ◌++◌, ◌∷◌, ℕ, List, [], length, take, get_or, refl, ap, sym, ◌∙◌, subst, arith}
use Rattle.std.proofs.lemmas.List.{take_more, length-map, get_or-map}
use Rattle.std.specs.Borrow.{Bor}
use Rattle.std.specs.Prelude.{None}
use Rattle.nf_table.specs.Grid.{Cells, Grid}
use Rattle.nf_table.specs.Making.{MayEnd, RowMayEnd, empty_table, ended, with_cell, with_row_ended}
use Rattle.nf_table.specs.Reading.{repeated_after, repeated_column}
use Rattle.nf_sample.specs.Rows.{headed, table_of, texts, with_hand}
use Rattle.nf_sample.specs.Sample.{arcs_header, constraints_header, nodes_header}

-- one more cell in hand
pub cell_more : (g now new : Grid) (lent : List (Bor (List ℕ))) (i : ℕ) (cell : List ℕ) (b : Bor (List ℕ)) → i < length lent → now ≡ with_hand g (take i (texts lent)) → cell ≡ (get_or lent i b).now → new ≡ with_cell now cell → new ≡ with_hand g (take (i + 1) (texts lent))
cell_more g now new lent i cell b h is of e =
    e ∙ ap (λ t. with_cell t cell) is
    ∙ ap (λ c. with_hand g (take i (texts lent) ++ c ∷ [])) (of ∙ sym (get_or-map (λ (t : Bor (List ℕ)). t.now) lent i b [] h))
    ∙ ap (λ cells. with_hand g cells) (sym (take_more (texts lent) i [] (subst (λ n. i < n) (sym (length-map lent (λ (t : Bor (List ℕ)). t.now))) h)))

ends : (h : Cells) (rows : List Cells) (cells : Cells) → 0 < length h → length cells ≡ length h → length rows < 2 ^ 32 - 1 → MayEnd h rows cells × (ended h rows cells ≡ table_of h (rows ++ cells ∷ []))
ends [] rows cells p e r = absurd (omega (arith, p))
ends (c ∷ cs) rows cells p e r = ((e, r), refl)

-- The row in hand ends as the next row,
pub row_ends : (g now : Grid) (cells : Cells) → now ≡ with_hand g cells → 0 < length g.header → length cells ≡ length g.header → length g.rows < 2 ^ 32 - 1 → RowMayEnd now × (with_row_ended now ≡ table_of g.header (g.rows ++ cells ∷ []))
row_ends g now cells is p e r =
    let b = ends g.header g.rows cells p e r in
    (subst RowMayEnd (sym is) b.0, ap with_row_ended is ∙ b.1)

-- or as the header.
pub header_ends : (now : Grid) (cells : Cells) → now ≡ with_hand empty_table cells → 0 < length cells → repeated_column cells ≡ None → RowMayEnd now × (with_row_ended now ≡ headed cells)
header_ends now cells is p e = (subst RowMayEnd (sym is) (refl, p, e), ap with_row_ended is)

-- ---- no name of a column comes twice
pub nodes_apart : repeated_column nodes_header ≡ None
unfolding repeated_after
nodes_apart = refl

pub arcs_apart : repeated_column arcs_header ≡ None
unfolding repeated_after
arcs_apart = refl

pub constraints_apart : repeated_column constraints_header ≡ None
unfolding repeated_after
constraints_apart = refl
