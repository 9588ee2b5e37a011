-- Stored rows and columns stay those of a network with one more of them.
use Rattle.std.proofs.Common.{◌≡◌, ◌≢◌, ◌⊎◌, inl, inr, ℕ, zero, suc, ◌<◌, ◌≤◌, ◌+◌, ◌-◌, ◌^◌, List, [], ◌∷◌, ◌++◌, length, map, set, get_or, sym, ◌∙◌, ap, ap₂, subst, arith, length-append, add-one, Some, None, Bool, Result, Ok, Err}
use Rattle.smallvec.specs.SmallVec.{SmallVec}
use Rattle.std.specs.Prelude.{IfErr}
use Rattle.std.specs.List.{All}
use Rattle.std.proofs.lemmas.List.{map-append, length-map, map-set, length-set, get_or-map, set-get_or}
use Rattle.std.proofs.lemmas.List.Elements.{All-push, All-set, All-get_or}
use Rattle.nf_num.specs.Rational.{ℚ, zero_ℚ}
use Rattle.nf_model.specs.declared.RowKind.{RowKind}
use Rattle.nf_model.specs.declared.RowKind.TheVariants.{Eq}
use Rattle.nf_model.specs.Program.{Ends, Row, Column, LinearProgram, column}
use Rattle.nf_model.specs.Program as model
use Rattle.nf_model.specs.Problem.{AreInOrder, HaveEndsBelow, IsColumn, IsProblem}
use Rattle.nf_prob.specs.declared.stored.Entry.{Entry}
use Rattle.nf_prob.specs.declared.stored.StoredRow.{StoredRow}
use Rattle.nf_prob.specs.declared.stored.StoredColumn.{StoredColumn}
use Rattle.nf_prob.specs.Numbers.{IsNumber, ends_of, entry_of}
use Rattle.nf_prob.specs.Building.{with_node, with_row, with_column, with_entry, arcs_with, end_entries, new_column, inserted, HasRoom, AreEnds, IsNew}
use Rattle.nf_prob.specs.Stored.{row_of, column_of, program_from, HasNumbers, IsStored}
use Rattle.nf_prob.proofs.Entries.{rise_below}
use Rattle.nf_prob.proofs.Keeps.{with_node_keeps, with_row_keeps, with_ends_keeps, with_entry_keeps}

one_longer : {A : Type 0} (xs ys : List A) (x : A) → ys ≡ xs ++ x ∷ [] → length ys ≡ length xs + 1
one_longer xs ys x e = ap length e ∙ length-append xs (x ∷ [])

rows_pushed : (rows new : List StoredRow) (r : StoredRow) → new ≡ rows ++ r ∷ [] → map row_of rows ++ row_of r ∷ [] ≡ map row_of new
rows_pushed rows new r e = sym (ap (map row_of) e ∙ map-append row_of rows (r ∷ []))

room_for_rows : (columns : List StoredColumn) (rows : List StoredRow) (nodes arcs : ℕ) (m : Bool) (p : LinearProgram) → program_from columns rows nodes arcs m ≡ p → HasRoom p → (length rows < 2 ^ 30) × (length columns < 2 ^ 30)
room_for_rows columns rows nodes arcs m p e h =
    let here : HasRoom (program_from columns rows nodes arcs m) = subst HasRoom (sym e) h in
    (omega (arith, here.0, length-map rows row_of), omega (arith, here.1, length-map columns column_of))

pub stored_node : (columns : List StoredColumn) (rows new : List StoredRow) (nodes arcs : ℕ) (m : Bool) (right : ℚ) (p : LinearProgram) → program_from columns rows nodes arcs m ≡ p → p.nodes ≡ length p.rows → HasRoom p → new ≡ rows ++ record { kind = Eq; right = right } ∷ [] → IsStored columns rows nodes arcs m → IsStored columns new (nodes + 1) arcs m
stored_node columns rows new nodes arcs m right p view none room e s = record {
  problem = subst IsProblem grown (with_node_keeps old right (subst (λ (q : LinearProgram). q.nodes ≡ length q.rows) (sym view) none) s.problem);
  numbered = s.numbered;
  few_columns = s.few_columns;
  few_rows = let space = room_for_rows columns rows nodes arcs m p view room in omega (arith, one_longer rows new _ e, space.0);
}
  where
    old : LinearProgram
    old = program_from columns rows nodes arcs m

    grown : with_node (program_from columns rows nodes arcs m) right ≡ program_from columns new (nodes + 1) arcs m
    grown = λ i. record { columns = map column_of columns; rows = rows_pushed rows new (record { kind = Eq; right = right }) e i; nodes = sym (add-one nodes) i; arcs = arcs; maximizes = m }

pub stored_row : (columns : List StoredColumn) (rows new : List StoredRow) (nodes arcs : ℕ) (m : Bool) (kind : RowKind) (right : ℚ) (p : LinearProgram) → program_from columns rows nodes arcs m ≡ p → HasRoom p → new ≡ rows ++ record { kind = kind; right = right } ∷ [] → IsStored columns rows nodes arcs m → IsStored columns new nodes arcs m
stored_row columns rows new nodes arcs m kind right p view room e s = record {
  problem = subst IsProblem grown (with_row_keeps (program_from columns rows nodes arcs m) kind right s.problem);
  numbered = s.numbered;
  few_columns = s.few_columns;
  few_rows = let space = room_for_rows columns rows nodes arcs m p view room in omega (arith, one_longer rows new _ e, space.0);
}
  where
    grown : with_row (program_from columns rows nodes arcs m) kind right ≡ program_from columns new nodes arcs m
    grown = λ i. record { columns = map column_of columns; rows = rows_pushed rows new (record { kind = kind; right = right }) e i; nodes = nodes; arcs = arcs; maximizes = m }

-- ---- columns
ends_within : (p : LinearProgram) (tail head : ℕ) → AreEnds p tail head → HaveEndsBelow p.nodes (ends_of tail head)
ends_within p zero head h = tt
ends_within p (suc t) head (inl h) = (omega (arith, h.0.1), omega (arith, h.1.0, h.1.1))
ends_within p (suc t) head (inr h) = absurd (omega (arith, h.0))

arcs_so_far : (p : LinearProgram) (tail head : ℕ) → AreEnds p tail head → ends_of tail head ≢ None → p.arcs ≡ length p.columns
arcs_so_far p tail head (inl h) n = h.2
arcs_so_far p tail head (inr h) n = absurd (n (ap (λ t. ends_of t head) h.0))

both_or_none : (p : LinearProgram) (tail head : ℕ) → AreEnds p tail head → ((0 < tail) × (0 < head)) ⊎ ((tail ≡ 0) × (head ≡ 0))
both_or_none p tail head (inl h) = inl (h.0.0, h.1.0)
both_or_none p tail head (inr h) = inr h

pub stored_column : (columns new : List StoredColumn) (rows : List StoredRow) (nodes arcs count : ℕ) (m : Bool) (c : StoredColumn) (p : LinearProgram) → program_from columns rows nodes arcs m ≡ p → HasRoom p → AreInOrder c.lower c.upper → (ends_of c.tail c.head ≢ None → c.lower ≢ None) → AreEnds p c.tail c.head → map entry_of c.entries.items ≡ end_entries (ends_of c.tail c.head) → All (λ e. 0 < e.row) c.entries.items → count ≡ arcs_with (ends_of c.tail c.head) arcs → new ≡ columns ++ c ∷ [] → IsStored columns rows nodes arcs m → IsStored new rows nodes count m
stored_column columns new rows nodes arcs count m c p view room o bounded ends es positive n e s = record {
  problem = subst IsProblem grown (with_ends_keeps old (ends_of c.tail c.head) c.cost c.lower c.upper o bounded (ends_within old c.tail c.head here) (arcs_so_far old c.tail c.head here) s.problem);
  numbered = subst (All HasNumbers) (sym e) (All-push HasNumbers columns c s.numbered (record { ends = both_or_none p c.tail c.head ends; rows = positive }));
  few_columns = let space = room_for_rows columns rows nodes arcs m p view room in omega (arith, one_longer columns new c e, space.1);
  few_rows = s.few_rows;
}
  where
    old : LinearProgram
    old = program_from columns rows nodes arcs m

    here : AreEnds (program_from columns rows nodes arcs m) c.tail c.head
    here = subst (λ q. AreEnds q c.tail c.head) (sym view) ends

    one : new_column (ends_of c.tail c.head) c.cost c.lower c.upper ≡ column_of c
    one = λ i. record { cost = c.cost; lower = c.lower; upper = c.upper; ends = ends_of c.tail c.head; entries = sym es i }

    grown : with_column (program_from columns rows nodes arcs m) c.tail c.head c.cost c.lower c.upper ≡ program_from new rows nodes count m
    grown = ap₂ (λ (cs : List Column) (k : ℕ). record { columns = cs; rows = map row_of rows; nodes = nodes; arcs = k; maximizes = m })
        (ap (λ (d : Column). map column_of columns ++ d ∷ []) one ∙ sym (ap (map column_of) e ∙ map-append column_of columns (c ∷ [])))
        (sym n)

-- ---- entries
no_column : Column
no_column = record { cost = zero_ℚ; lower = None; upper = None; ends = None; entries = [] }

-- a stored column with other entries
abbrev pub entered : StoredColumn → SmallVec Entry → StoredColumn
entered c v = record { cost = c.cost; lower = c.lower; upper = c.upper; tail = c.tail; head = c.head; entries = v }

column_read : (columns : List StoredColumn) (j : ℕ) (c : StoredColumn) (d : Column) → j < length columns → c ≡ get_or columns j c → get_or (map column_of columns) j d ≡ column_of c
column_read columns j c d b read = get_or-map column_of columns j c d b ∙ ap column_of (sym read)

pub with_entry_is : (columns : List StoredColumn) (rows : List StoredRow) (nodes arcs : ℕ) (m : Bool) (j i : ℕ) (value : ℚ) (c : StoredColumn) (v : SmallVec Entry) → j < length columns → c ≡ get_or columns j c → map entry_of v.items ≡ inserted (map entry_of c.entries.items) (record { row = i; value = value }) → with_entry (program_from columns rows nodes arcs m) j i value ≡ program_from (set columns j (entered c v)) rows nodes arcs m
with_entry_is columns rows nodes arcs m j i value c v b read es =
    ap (λ (cs : List Column). record { columns = cs; rows = map row_of rows; nodes = nodes; arcs = arcs; maximizes = m })
    (ap (λ (d : Column). set (map column_of columns) j (record d { entries = inserted d.entries (record { row = i; value = value }) })) (column_read columns j c _ b read)
    ∙ ap (λ (xs : List model.Entry). set (map column_of columns) j (record (column_of c) { entries = xs })) (sym es)
    ∙ sym (map-set column_of columns j (entered c v)))

pub stored_entered : (columns : List StoredColumn) (rows : List StoredRow) (nodes arcs : ℕ) (m : Bool) (j row : ℕ) (value : ℚ) (c : StoredColumn) (v : SmallVec Entry) (p : LinearProgram) → program_from columns rows nodes arcs m ≡ p → j < length columns → c ≡ get_or columns j c → p.nodes < row → row ≤ length p.rows → IsNew p j (row - 1) → map entry_of v.items ≡ inserted (map entry_of c.entries.items) (record { row = row - 1; value = value }) → All (λ e. 0 < e.row) v.items → IsStored columns rows nodes arcs m → IsStored (set columns j (entered c v)) rows nodes arcs m
stored_entered columns rows nodes arcs m j row value c v p view b read above below fresh es positive s = record {
  problem = subst IsProblem (with_entry_is columns rows nodes arcs m j (row - 1) value c v b read es)
      (with_entry_keeps (program_from columns rows nodes arcs m) j (row - 1) value
      (omega (arith, b, length-map columns column_of))
      (subst (λ (q : LinearProgram). q.nodes ≤ row - 1) (sym view) (omega (arith, above)))
      (subst (λ (q : LinearProgram). row - 1 < length q.rows) (sym view) (omega (arith, above, below)))
      (subst (λ q. IsNew q j (row - 1)) (sym view) fresh)
      s.problem);
  numbered = All-set HasNumbers columns j (entered c v) (record { ends = kept.ends; rows = positive }) s.numbered;
  few_columns = omega (arith, length-set columns j (entered c v), s.few_columns);
  few_rows = s.few_rows;
}
  where
    kept : HasNumbers c
    kept = subst HasNumbers (sym read) (All-get_or HasNumbers columns j c b s.numbered)

-- the same entries in another block of memory
same_program : (columns : List StoredColumn) (rows : List StoredRow) (nodes arcs : ℕ) (m : Bool) (j : ℕ) (c : StoredColumn) (v : SmallVec Entry) → j < length columns → c ≡ get_or columns j c → v.items ≡ c.entries.items → program_from columns rows nodes arcs m ≡ program_from (set columns j (entered c v)) rows nodes arcs m
same_program columns rows nodes arcs m j c v b read es =
    ap (λ (cs : List Column). record { columns = cs; rows = map row_of rows; nodes = nodes; arcs = arcs; maximizes = m })
    (sym (set-get_or (map column_of columns) j no_column)
    ∙ ap (λ (d : Column). set (map column_of columns) j d) (column_read columns j c no_column b read)
    ∙ ap (λ (xs : List Entry). set (map column_of columns) j (record (column_of c) { entries = map entry_of xs })) (sym es)
    ∙ sym (map-set column_of columns j (entered c v)))

pub kept_program : (columns : List StoredColumn) (rows : List StoredRow) (nodes arcs : ℕ) (m : Bool) (j : ℕ) (c : StoredColumn) (v : SmallVec Entry) (p : LinearProgram) → program_from columns rows nodes arcs m ≡ p → j < length columns → c ≡ get_or columns j c → v.items ≡ c.entries.items → program_from (set columns j (entered c v)) rows nodes arcs m ≡ p
kept_program columns rows nodes arcs m j c v p view b read es = sym (same_program columns rows nodes arcs m j c v b read es) ∙ view

pub stored_kept : (columns : List StoredColumn) (rows : List StoredRow) (nodes arcs : ℕ) (m : Bool) (j : ℕ) (c : StoredColumn) (v : SmallVec Entry) → j < length columns → c ≡ get_or columns j c → v.items ≡ c.entries.items → IsStored columns rows nodes arcs m → IsStored (set columns j (entered c v)) rows nodes arcs m
stored_kept columns rows nodes arcs m j c v b read es s = record {
  problem = subst IsProblem (same_program columns rows nodes arcs m j c v b read es) s.problem;
  numbered = All-set HasNumbers columns j (entered c v) (record { ends = kept.ends; rows = subst (All (λ (e : Entry). 0 < e.row)) (sym es) kept.rows }) s.numbered;
  few_columns = omega (arith, length-set columns j (entered c v), s.few_columns);
  few_rows = s.few_rows;
}
  where
    kept : HasNumbers c
    kept = subst HasNumbers (sym read) (All-get_or HasNumbers columns j c b s.numbered)

-- ---- all entries have numbers of rows
pub numbers_of_stored : (columns : List StoredColumn) (rows : List StoredRow) (nodes arcs : ℕ) (m : Bool) → IsStored columns rows nodes arcs m → All (λ c. All (λ e. IsNumber e.row (length rows)) c.entries.items) columns
numbers_of_stored columns rows nodes arcs m s k d b l e h =
    let c : StoredColumn = get_or columns k d in
    let numbers : HasNumbers c = s.numbered k d b in
    let whole : IsColumn nodes (length (map row_of rows)) (column_of c) = subst (IsColumn nodes (length (map row_of rows))) (get_or-map column_of columns k d no_column b) (s.problem.each k no_column (omega (arith, b, length-map columns column_of))) in
    let positive : 0 < (get_or c.entries.items l e).row = numbers.rows l e h in
    let rising : (get_or (map entry_of c.entries.items) l (entry_of e)).row < length (map row_of rows) = rise_below 0 (length (map row_of rows)) (map entry_of c.entries.items) l (entry_of e) whole.by_row (omega (arith, h, length-map c.entries.items entry_of)) in
    let below : (get_or c.entries.items l e).row - 1 < length (map row_of rows) = subst (λ (x : model.Entry). x.row < length (map row_of rows)) (get_or-map entry_of c.entries.items l e (entry_of e) h) rising in
    (positive, omega (arith, positive, below, length-map rows row_of))

pub number_within : (columns : List StoredColumn) (rows : List StoredRow) (nodes arcs : ℕ) (m : Bool) (j : ℕ) (p : LinearProgram) → program_from columns rows nodes arcs m ≡ p → IsNumber j (length p.columns) → j - 1 < length columns
number_within columns rows nodes arcs m j p view h =
    let here : j ≤ length (map column_of columns) = subst (λ (q : LinearProgram). j ≤ length q.columns) (sym view) h.1 in
    omega (arith, here, h.0, length-map columns column_of)

-- an answer with an error has what holds of each error
pub of_each_error : {T E : Type 0} (r : Result T E) (P : E → Type 0) → ((e : E) → P e) → IfErr r P
of_each_error (Ok x) P h = tt
of_each_error (Err e) P h = h e
