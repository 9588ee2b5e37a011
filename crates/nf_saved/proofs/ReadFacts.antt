-- The saved tables of a session are read as that session.
use Rattle.std.proofs.Common.{◌≡◌, ◌∙◌, ◌<◌, ◌^◌, ◌+◌, ◌++◌, ◌∷◌, ◌⊎◌, inl, inr, ℕ, zero, suc, Bool, true, false, not, List, [], length, map, get_or, take, Some, Ok, refl, ap, sym, subst, arith, decimal, append_assoc, lt-ltb}
use Rattle.std.specs.Prelude.{codes, nat_lt, if◌then◌else◌}
use Rattle.std.specs.List.{list_any, position_or_len, range_with_len}
use Rattle.std.proofs.lemmas.Bool.{cases_Bool, eq-eqb}
use Rattle.std.proofs.lemmas.List.{length-map, length-append, map-append}
use Rattle.std.proofs.lemmas.List.FromFn.{get_or-map-range_with_len}
use Rattle.nf_model.specs.Program.{LinearProgram}
use Rattle.nf_model.specs.Problem.{IsProblem}
use Rattle.nf_labels.specs.Labels.{LabelList}
use Rattle.nf_cells.specs.Cells.{value_of}
use Rattle.nf_table.specs.Grid.{Cells, column_of, same_name}
use Rattle.nf_simplex.specs.Place.{Lower, Basic}
use Rattle.nf_simplex.specs.Layout.{layout_of}
use Rattle.nf_simplex.specs.Columns.{Artificial, all_columns}
use Rattle.nf_simplex.specs.StageOf.{StageNumber, StageOne, StageTwo, HasStageTwo, IsPresent, rows_in}
use Rattle.nf_simplex.specs.Standing.{Standing, place_at, place_of, rows_of, IsStateOf}
use Rattle.nf_simplex.proofs.StageOf.{column_artificial}
use Rattle.nf_basis.specs.declared.col.Place.TheVariants.{Absent}
use Rattle.nf_print.specs.declared.status.Last.TheVariants as last
use Rattle.nf_out.specs.declared.fields.ArcField.{ArcField}
use Rattle.nf_out.specs.Tables.{grid_of, row_of}
use Rattle.nf_out.specs.Words.{place_word, row_word}
use Rattle.nf_out.specs.Arcs.{ArcLists, arc_cell, arc_fields, arc_name, copied, first_fields, flow_fields, id_fields, is_copied, own_names, status_fields}
use Rattle.nf_out.specs.Rows.{RowLists, TreeLists}
use Rattle.nf_out.specs.Output.{conout_grid, dualout_grid}
use Rattle.nf_saved.specs.Session.{Session, IsSession, count_entering}
use Rattle.nf_saved.specs.SessionTable.{artificial_rows, head_rows, option_rows, queue_rows, session_grid, session_rows}
use Rattle.nf_saved.specs.Statuses.{StatusRow}
use Rattle.nf_saved.specs.Rows.{Recorded, SavedRow, and_then, each_read, first_artificial, has_two, recorded, two_to_come}
use Rattle.nf_saved.specs.Reading.{column_read, columns_found, columns_read, given_read, if_counted, no_row, or_unfit, rows_read, session_read, slack_read, slacks_read, status_row, word_in}
use Rattle.nf_saved.specs.Saved.{HasShortCounts, IsCounted, SavedAreRead}
use Rattle.nf_saved.proofs.ListFacts.{any-append, any-false, first-behind, get-behind, length-numbered, numbered-same}
use Rattle.nf_saved.proofs.EachFacts.{each-back}
use Rattle.nf_saved.proofs.ValueFacts.{decimal-kept, named}
use Rattle.nf_saved.proofs.RowFacts.{all_rows, artificials-read, artificials_of, as_read, behind-queue, head-read, options-read, queue-read, version-read}
use Rattle.nf_saved.proofs.PlaceFacts.{artificial-stands, column-back, may-stand, row-back, slack_of}
use Rattle.nf_saved.proofs.ColumnFacts.{columns_of, few-rows, slacks_of, standing-back}
use Rattle.nf_saved.proofs.MemberFacts.{member-back}

-- ---- columns of CONOUT by name
module _ (l : LabelList) where
  names : List ArcField → Cells
  names fs = map (arc_name l) fs

  flow_columns : List ArcField
  flow_columns = first_fields ++ (id_fields l (length l.id_headers) ++ flow_fields)

  split : arc_fields l true ≡ flow_columns ++ status_fields
  unfolding flow_columns
  split = ap (λ fs. first_fields ++ fs) (sym (append_assoc (id_fields l (length l.id_headers)) flow_fields status_fields))

  -- No ID column that is copied has one of the table's own names.
  ids-other : (name : List ℕ) (i : ℕ) → get_or own_names i [] ≡ name → i < 12 → (cs : List ℕ) → list_any (same_name name) (map (arc_name l) (copied l cs)) ≡ false
  ids-other name i is b [] = refl
  ids-other name i is b (c ∷ cs) = of (cases_Bool (is_copied l c)) (ids-other name i is b cs)
    where
      no-of : (x : Bool) → not x ≡ true → x ≡ false
      no-of true e = let f : false ≡ true = e in absurd cc
      no-of false e = refl

      other : is_copied l c ≡ true → same_name name (get_or l.id_headers c []) ≡ false
      other t = subst (λ n. same_name n (get_or l.id_headers c []) ≡ false) is (any-false (λ n. same_name n (get_or l.id_headers c [])) own_names i [] (no-of _ t) b)

      of : (is_copied l c ≡ true) ⊎ (is_copied l c ≡ false) → list_any (same_name name) (map (arc_name l) (copied l cs)) ≡ false → list_any (same_name name) (map (arc_name l) (copied l (c ∷ cs))) ≡ false
      of (inl t) rest = rw t (rw (other t) rest)
      of (inr f) rest = rw f rest

  none-before : (name : List ℕ) (i : ℕ) → get_or own_names i [] ≡ name → i < 12 → list_any (same_name name) (map (arc_name l) flow_fields) ≡ false
      → list_any (same_name name) (map (arc_name l) (id_fields l (length l.id_headers) ++ flow_fields)) ≡ false
  unfolding id_fields
  none-before name i is b flows =
      subst (λ ns. list_any (same_name name) ns ≡ false) (sym (map-append (arc_name l) (id_fields l (length l.id_headers)) flow_fields))
      (any-append (same_name name) (map (arc_name l) (id_fields l (length l.id_headers))) (map (arc_name l) flow_fields) (ids-other name i is b (range_with_len 0 (length l.id_headers))) flows)

  found-behind : (name : List ℕ) (k : ℕ) → list_any (same_name name) (map (arc_name l) flow_columns) ≡ false → position_or_len (same_name name) (map (arc_name l) status_fields) ≡ k → k < 3
      → column_of (map (arc_name l) (flow_columns ++ status_fields)) name ≡ Some (length flow_columns + k)
  found-behind name k other first h =
      rw (map-append (arc_name l) flow_columns status_fields, first-behind (same_name name) (map (arc_name l) flow_columns) (map (arc_name l) status_fields) other, first, length-map flow_columns (arc_name l))
      (rw (lt-ltb (length flow_columns + k) (length (map (arc_name l) flow_columns ++ map (arc_name l) status_fields)) (omega (arith, h, length-append (map (arc_name l) flow_columns) (map (arc_name l) status_fields), length-map flow_columns (arc_name l), length-map status_fields (arc_name l)))) refl)

  status-found : column_of (map (arc_name l) (arc_fields l true)) (codes "_STATUS_") ≡ Some (length flow_columns + 0)
  unfolding flow_columns
  status-found = ap (λ fs. column_of (map (arc_name l) fs) (codes "_STATUS_")) split ∙ found-behind (codes "_STATUS_") 0 (none-before (codes "_STATUS_") 9 refl (omega arith) refl) refl (omega arith)

  number-found : column_of (map (arc_name l) (arc_fields l true)) (codes "_ANUMB_") ≡ Some (length flow_columns + 1)
  unfolding flow_columns
  number-found = ap (λ fs. column_of (map (arc_name l) fs) (codes "_ANUMB_")) split ∙ found-behind (codes "_ANUMB_") 1 (none-before (codes "_ANUMB_") 10 refl (omega arith) refl) refl (omega arith)

  cell-behind : (cell : ArcField → ℕ → List ℕ) (r k : ℕ) → get_or (row_of cell (arc_fields l true) r) (length flow_columns + k) [] ≡ get_or (row_of cell status_fields r) k []
  cell-behind cell r k =
      ap (λ fs. get_or (row_of cell fs r) (length flow_columns + k) []) split
      ∙ (ap (λ cs. get_or cs (length flow_columns + k) []) (map-append (λ f. cell f r) flow_columns status_fields)
      ∙ (ap (λ n. get_or (map (λ f. cell f r) flow_columns ++ map (λ f. cell f r) status_fields) (n + k) []) (sym (length-map flow_columns (λ f. cell f r)))
      ∙ get-behind (map (λ f. cell f r) flow_columns) (map (λ f. cell f r) status_fields) k []))

-- ---- the cells that are looked at
module _ (p : LinearProgram) (l : LabelList) (s : Standing) where
  status_cells : ℕ → StatusRow
  status_cells j = record { status = value_of (place_word (place_at s j)); number = decimal (suc j) }

  word_cell : ℕ → List ℕ
  word_cell i = value_of (row_word p s i)

  statuses-read : (n : ArcLists) → length p.columns < 10 ^ 63
      → map (status_row (length (flow_columns l) + 0) (length (flow_columns l) + 1)) (conout_grid p l s n true).rows ≡ map status_cells (range_with_len 0 (length p.columns))
  unfolding grid_of status_cells
  statuses-read n few = numbered-same (status_row (length (flow_columns l) + 0) (length (flow_columns l) + 1)) (row_of (arc_cell p l s n) (arc_fields l true)) status_cells 0 (length p.columns)
      (λ j a b. λ i. record {
        status = ap value_of (cell-behind l (arc_cell p l s n) j 0) i;
        number = (ap value_of (cell-behind l (arc_cell p l s n) j 1) ∙ decimal-kept (suc j) (omega (arith, b, few))) i;
      })

  words-read : (n : RowLists) (tree : TreeLists) → map (word_in 6) (dualout_grid p l s n tree true).rows ≡ map word_cell (range_with_len 0 (length p.rows))
  unfolding grid_of word_cell
  words-read n tree = numbered-same (word_in 6) _ word_cell 0 (length p.rows) (λ j a b. refl)

  -- The three headers have the columns.
  columns-found : (n : ArcLists) (m : RowLists) (tree : TreeLists) (session : Session)
      → columns_found (conout_grid p l s n true).header (dualout_grid p l s m tree true).header (session_grid p session).header
      ≡ Ok (record { key = 0; number = 1; value = 2; status = length (flow_columns l) + 0; anumb = length (flow_columns l) + 1; word = 6 })
  unfolding columns_found and_then column_read grid_of session_grid
  columns-found n m tree session = rw (status-found l, number-found l) refl

-- ---- the state
module _ (p : LinearProgram) (s : Standing) (ok : IsProblem p) (st : IsStateOf p s) (l : LabelList) where
  statuses : List StatusRow
  statuses = map (status_cells p l s) (range_with_len 0 (length p.columns))

  words : List (List ℕ)
  words = map (word_cell p l s) (range_with_len 0 (length p.rows))

  columns-read : columns_read p s.stage statuses ≡ Ok (columns_of p s ok st)
  unfolding columns_read if_counted statuses status_cells columns_of or_unfit
  columns-read =
      rw (length-numbered (status_cells p l s) 0 (length p.columns), eq-eqb (length p.columns) (length p.columns) refl)
      (ap (λ n. each_read (given_read p s.stage statuses) n 0 []) (sym (length-numbered (λ j. named (place_at s j)) 0 (length p.columns)))
      ∙ each-back (given_read p s.stage statuses) Absent (map (λ j. named (place_at s j)) (range_with_len 0 (length p.columns))) 0 []
      (λ j h. one j (subst (λ n. j < n) (length-numbered (λ j. named (place_at s j)) 0 (length p.columns)) h)))
    where
      one : (j : ℕ) → j < length p.columns → given_read p s.stage statuses ([] ++ take j (map (λ j. named (place_at s j)) (range_with_len 0 (length p.columns)))) (0 + j) ≡ Ok (get_or (map (λ j. named (place_at s j)) (range_with_len 0 (length p.columns))) j Absent)
      one j h =
          let e : 0 + j ≡ j = omega arith in
          rw (e, get_or-map-range_with_len (status_cells p l s) 0 (length p.columns) j j no_row h (omega arith), column-back p s st j h, get_or-map-range_with_len (λ j. named (place_at s j)) 0 (length p.columns) j j Absent h (omega arith)) refl

  slacks-read : slacks_read p s.stage words ≡ Ok (slacks_of p s ok st)
  unfolding slacks_read if_counted words word_cell slacks_of or_unfit
  slacks-read =
      rw (length-numbered (word_cell p l s) 0 (length p.rows), eq-eqb (length p.rows) (length p.rows) refl)
      (ap (λ n. each_read (slack_read p s.stage words) n 0 []) (sym (length-numbered (λ i. named (slack_of p s st i)) 0 (length p.rows)))
      ∙ each-back (slack_read p s.stage words) Absent (map (λ i. named (slack_of p s st i)) (range_with_len 0 (length p.rows))) 0 []
      (λ i h. one i (subst (λ n. i < n) (length-numbered (λ i. named (slack_of p s st i)) 0 (length p.rows)) h)))
    where
      one : (i : ℕ) → i < length p.rows → slack_read p s.stage words ([] ++ take i (map (λ i. named (slack_of p s st i)) (range_with_len 0 (length p.rows)))) (0 + i) ≡ Ok (get_or (map (λ i. named (slack_of p s st i)) (range_with_len 0 (length p.rows))) i Absent)
      one i h =
          let e : 0 + i ≡ i = omega arith in
          rw (e, get_or-map-range_with_len (word_cell p l s) 0 (length p.rows) i i [] h (omega arith), row-back p s st i (let w = ok.nodes_within in omega (arith, h, w)), get_or-map-range_with_len (λ i. named (slack_of p s st i)) 0 (length p.rows) i i Absent h (omega arith)) refl

-- ---- the rows of the session
pub two-there : (p : LinearProgram) → HasStageTwo (layout_of p) → has_two p ≡ true
two-there p (inl s) = rw (lt-ltb 0 (layout_of p).sides s) refl
two-there p (inr n) = of (layout_of p).sides
  where
    of : (k : ℕ) → (if nat_lt 0 k then true else nat_lt p.arcs (length p.columns)) ≡ true
    of zero = lt-ltb p.arcs (length p.columns) n
    of (suc k) = rw (lt-ltb 0 (suc k) (omega arith)) refl

abbrev recorded_of : LinearProgram → Session → Recorded
recorded_of p s = record { stage = s.standing.stage; carried = s.carried; artificials = artificials_of p s.standing (rows_of p s.standing) }

module _ (p : LinearProgram) (s : Session) (ok : IsProblem p) (counted : IsCounted p) (session : IsSession p s) (counts : HasShortCounts s) where
  st : IsStateOf p s.standing
  st = session.state.state

  rest : List SavedRow
  rest = map as_read (artificial_rows p s.standing (rows_of p s.standing))

  rows : List SavedRow
  rows = all_rows p s.standing.stage s.carried s.carried.pricing.queue rest

  rows-split : map as_read (session_rows p s) ≡ rows
  unfolding rows rest all_rows
  rows-split =
      map-append as_read (head_rows s.standing.stage s.carried) (option_rows s.carried.options ++ (queue_rows s.carried.pricing.queue ++ artificial_rows p s.standing (rows_of p s.standing)))
      ∙ ap (λ r. map as_read (head_rows s.standing.stage s.carried) ++ r)
      (map-append as_read (option_rows s.carried.options) (queue_rows s.carried.pricing.queue ++ artificial_rows p s.standing (rows_of p s.standing))
      ∙ ap (λ r. map as_read (option_rows s.carried.options) ++ r) (map-append as_read (queue_rows s.carried.pricing.queue) (artificial_rows p s.standing (rows_of p s.standing))))

  many : count_entering p < 10 ^ 63
  many = let c = counted.columns in let r = counted.rows in omega (arith, c, r)

  few : rows_of p s.standing < 10 ^ 63
  few = let r = counted.rows in let w = few-rows p ok.nodes_within s.standing.stage in omega (arith, r, w)

  may-be : s.carried.last ≡ last.StageOne → two_to_come p s.standing.stage ≡ true
  may-be e = let b = session.carried.between e in rw (b.0, two-there p b.1) refl

  stands : (r : ℕ) → r < rows_of p s.standing → (place_of p s.standing (Artificial r) ≡ Basic) ⊎ (place_of p s.standing (Artificial r) ≡ Lower)
  stands i h =
      artificial-stands p s.standing st (place_of p s.standing (Artificial i))
      (may-stand p s.standing st (length p.columns + (layout_of p).sides + i) (Artificial i) (within s.standing.stage i h) (column_artificial (layout_of p) i) (there s.standing.stage i h))
    where
      within : (stage : StageNumber) (i : ℕ) → i < rows_in (layout_of p) stage → length p.columns + (layout_of p).sides + i < all_columns (layout_of p)
      within StageOne i h = omega (arith, h)
      within StageTwo i h = omega (arith, h)

      there : (stage : StageNumber) (i : ℕ) → i < rows_in (layout_of p) stage → IsPresent (layout_of p) stage (Artificial i)
      there StageOne i h = h
      there StageTwo i h = h

  recorded-back : recorded p rows ≡ Ok (recorded_of p s)
  unfolding recorded and_then rows all_rows rest
  recorded-back =
      rw (
        version-read p s.standing.stage s.carried (map as_read (option_rows s.carried.options) ++ (map as_read (queue_rows s.carried.pricing.queue) ++ rest)),
        head-read p s.standing.stage s.carried (map as_read (option_rows s.carried.options) ++ (map as_read (queue_rows s.carried.pricing.queue) ++ rest))
            (λ e. two-there p (session.carried.has_stage e)) session.carried.none_yet counts.one counts.two session.carried.cursor many may-be,
        options-read s.standing.stage s.carried s.carried.options session.carried.options (map as_read (queue_rows s.carried.pricing.queue) ++ rest),
        queue-read p s.standing.stage s.carried s.carried.pricing.queue rest session.carried.short (member-back p s.standing st (let m = many in omega (arith, m)) s.carried.pricing.queue session.carried.queued session.carried.once),
        artificials-read p s.standing (rows_of p s.standing) few rows (first_artificial true s.carried.pricing.queue) (behind-queue p s.standing.stage s.carried s.carried.pricing.queue rest) stands,
      ) refl

  rows-back : (l : LabelList) → rows_read p (map as_read (session_rows p s)) (statuses p s.standing ok st l) (words p s.standing ok st l) ≡ Ok s
  unfolding rows_read and_then if_counted
  rows-back l =
      rw (
        rows-split,
        recorded-back,
        columns-read p s.standing ok st l,
        slacks-read p s.standing ok st l,
        standing-back p s.standing ok st (recorded_of p s) refl refl,
        eq-eqb _ _ session.state.feasible.basis.as_many,
      ) refl

pub saved_are_read : SavedAreRead
unfolding session_read and_then session_grid statuses words
saved_are_read p l s x y z ok counted session counts saved =
    rw (saved.conout, saved.dualout, saved.sessionout, columns-found p l s.standing saved.by_arc saved.by_row saved.tree s)
    (rw (statuses-read p l s.standing saved.by_arc (let c = counted.columns in omega (arith, c)), words-read p l s.standing saved.by_row saved.tree)
    (rows-back p s ok counted session counts l))
