-- Facts on adding constraints to a network.
use Rattle.std.proofs.Common.{◌≡◌, ◌<◌, ◌≤◌, ◌+◌, ◌++◌, ℕ, zero, suc, true, List, [], ◌∷◌, length, map, take, get_or, nat_lt, refl, sym, ap, ◌∙◌, arith, append_assoc}
use Rattle.std.proofs.lemmas.List.{append-nil, map-append, take_more}
use Rattle.std.proofs.lemmas.List.Elements.{All-append, All-cons, All-head, All-nil, All-tail}
use Rattle.std.specs.List.{All}
use Rattle.nf_num.specs.Rational.{ℚ}
use Rattle.nf_model.specs.declared.RowKind.{RowKind}
use Rattle.nf_model.specs.Program.{Column, LinearProgram, Row}
use Rattle.nf_prob.specs.Building.{with_row}
use Rattle.nf_labels.specs.Labels.{LabelList}
use Rattle.nf_cells.specs.Names.{Name}
use Rattle.nf_program.specs.declared.program.ProcOptions.{ProcOptions}
use Rattle.nf_network.specs.Excess.{joined_below}
use Rattle.nf_network.proofs.Lists.{joined-ones}
use Rattle.nf_cons.specs.declared.taken.Coefficient.{Coefficient}
use Rattle.nf_cons.specs.Bounds.{nonarc_defaults, figures_of}
use Rattle.nf_cons.specs.Constrained.{column_of, nonarc_column, nonarc_column_at, with_columns, with_rows}
use Rattle.nf_cons.specs.Making.{HasEntriesBelow, IsPlaced, before, with_entries_of, with_entry_of}
use Rattle.nf_cons.specs.Terms.{TermLists}

-- ---- lists with one member more
pub take-more : {A : Type 0} (xs : List A) (k : ℕ) (d x : A) → x ≡ get_or xs k d → k < length xs → take k xs ++ x ∷ [] ≡ take (k + 1) xs
take-more xs k d x is below = ap (λ y. take k xs ++ y ∷ []) is ∙ sym (take_more xs k d below)

pub map-more : {A B : Type 0} (f : A → B) (xs : List A) (k : ℕ) (d x : A) → x ≡ get_or xs k d → k < length xs → map f (take k xs) ++ f x ∷ [] ≡ map f (take (k + 1) xs)
map-more f xs k d x is below = sym (map-append f (take k xs) (x ∷ [])) ∙ ap (map f) (take-more xs k d x is below)

-- ---- labels
pub columns-more : (l0 l : LabelList) (cs : List Name) (n : Name) (ds : List Name) → l ≡ record l0 { columns = l0.columns ++ cs } → cs ++ n ∷ [] ≡ ds
    → record l { columns = l.columns ++ n ∷ [] } ≡ record l0 { columns = l0.columns ++ ds }
columns-more l0 l cs n ds h e = rw (h, append_assoc l0.columns cs (n ∷ []), e) refl

pub constraints-more : (l0 l : LabelList) (cs : List Name) (n : Name) (ds : List Name) → l ≡ record l0 { constraints = l0.constraints ++ cs } → cs ++ n ∷ [] ≡ ds
    → record l { constraints = l.constraints ++ n ∷ [] } ≡ record l0 { constraints = l0.constraints ++ ds }
constraints-more l0 l cs n ds h e = rw (h, append_assoc l0.constraints cs (n ∷ []), e) refl

pub columns-none : (l : LabelList) → l ≡ record l { columns = l.columns ++ [] }
columns-none l = rw (append-nil l.columns) refl

pub constraints-none : (l : LabelList) → l ≡ record l { constraints = l.constraints ++ [] }
constraints-none l = rw (append-nil l.constraints) refl

-- ---- rows and columns
pub rows-none : (p : LinearProgram) → p ≡ with_rows p []
rows-none p = rw (append-nil p.rows) refl

pub rows-next : (p b : LinearProgram) (rs : List Row) (kind : RowKind) (right : ℚ) (ss : List Row) → b ≡ with_rows p rs → rs ++ record { kind = kind; right = right } ∷ [] ≡ ss → with_row b kind right ≡ with_rows p ss
rows-next p b rs kind right ss h e = rw (h, append_assoc p.rows rs (record { kind = kind; right = right } ∷ []), e) refl

pub columns-of-none : (p : LinearProgram) → p ≡ with_columns p []
columns-of-none p = rw (append-nil p.columns) refl

pub columns-next : (p b : LinearProgram) (cs ds : List Column) (c : Column) → b ≡ with_columns p cs → cs ++ c ∷ [] ≡ ds → record b { columns = b.columns ++ c ∷ [] } ≡ with_columns p ds
columns-next p b cs ds c h e = rw (h, append_assoc p.columns cs (c ∷ []), e) refl

pub before-more : (k other n m : ℕ) → m ≡ n → m ≡ before (k + 1) other n
before-more k other n m e = let s : k + 1 ≡ suc k = omega arith in rw s e

-- ---- how many there were before
pub before-most : (k other n m : ℕ) → other ≤ m → n ≤ m → before k other n ≤ m
before-most zero other n m h g = h
before-most (suc k) other n m h g = g

pub before-least : (k other n m : ℕ) → m ≤ other → m ≤ n → m ≤ before k other n
before-least zero other n m h g = h
before-least (suc k) other n m h g = g

pub before-some : (k other n : ℕ) → 0 < k → before k other n ≡ n
before-some zero other n h = absurd (omega arith)
before-some (suc k) other n h = refl

-- With no constraint there is no coefficient, and with no nonarc variable each is of an arc.
pub same-coefs : (a n r m q : ℕ) (p : LinearProgram) (cs : List Coefficient) → All (IsPlaced (a + m) q) cs
    → with_entries_of a (before m a n) (before q 0 r) p cs ≡ with_entries_of a n r p cs
same-coefs a n r m zero p [] placed = refl
same-coefs a n r m zero p (c ∷ cs) placed = absurd (none-below (All-head (IsPlaced (a + m) zero) c cs placed).1)
  where
    none-below : c.constraint < 0 → ⊥
    none-below h = omega (arith, h)
same-coefs a n r (suc m) (suc q) p cs placed = refl
same-coefs a n r zero (suc q) p cs placed = by_list p cs placed
  where
    same-column : (v : ℕ) → v < a + 0 → column_of a a v ≡ column_of a n v
    same-column v h = let e : nat_lt v a ≡ true = grind (arith, h) in rw e refl

    by_list : (b : LinearProgram) (es : List Coefficient) → All (IsPlaced (a + 0) (suc q)) es → with_entries_of a a r b es ≡ with_entries_of a n r b es
    by_list b [] h = refl
    by_list b (e ∷ es) h =
        rw (same-column e.variable (All-head (IsPlaced (a + 0) (suc q)) e es h).0)
        (by_list (with_entry_of a n r b e) es (All-tail (IsPlaced (a + 0) (suc q)) e es h))

-- Nonarc variables stand in no node row.
pub nonarcs-empty : (o : ProcOptions) (arcs : ℕ) (ls : TermLists) (n k : ℕ) → All (HasEntriesBelow n) (joined_below k (nonarc_column_at o arcs ls))
unfolding joined_below
nonarcs-empty o arcs ls n zero = All-nil (HasEntriesBelow n)
nonarcs-empty o arcs ls n (suc k) =
    All-append (HasEntriesBelow n) (joined_below k (nonarc_column_at o arcs ls)) (nonarc_column_at o arcs ls k) (nonarcs-empty o arcs ls n k)
    (All-cons (HasEntriesBelow n) (nonarc_column o (figures_of (nonarc_defaults o) ls (arcs + k))) [] (All-nil (λ e. e.row < n)) (All-nil (HasEntriesBelow n)))

pub nonarcs-length : (o : ProcOptions) (arcs : ℕ) (ls : TermLists) (k : ℕ) → length (joined_below k (nonarc_column_at o arcs ls)) ≡ k
nonarcs-length o arcs ls k = joined-ones k (λ i. nonarc_column o (figures_of (nonarc_defaults o) ls (arcs + i)))
