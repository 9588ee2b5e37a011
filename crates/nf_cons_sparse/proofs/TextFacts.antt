-- The names that sparse CONDATA adds to labels are UTF-8.
use Rattle.std.proofs.Common.{◌≡◌, ◌⊎◌, ◌+◌, ◌++◌, ◌∷◌, ℕ, true, false, cond, List, [], Option, None, inl, inr, length, sym, ◌∙◌}
use Rattle.std.specs.List.{All}
use Rattle.std.proofs.lemmas.Bool.{cases_Bool}
use Rattle.std.proofs.lemmas.List.Elements.{All-cons, All-map, All-nil}
use Rattle.nf_model.specs.Program.{LinearProgram}
use Rattle.nf_labels.specs.Labels.{AreLabelsOf, AreNumbered}
use Rattle.nf_table.specs.Grid.{Grid}
use Rattle.nf_cells.specs.Names.{Name}
use Rattle.nf_program.specs.declared.program.ProcOptions.{ProcOptions}
use Rattle.nf_program.specs.declared.program.Role.TheVariants as role
use Rattle.nf_roles.specs.First.{or_else}
use Rattle.nf_roles.specs.Roles.{RoleColumns, cell_for}
use Rattle.nf_network.specs.Network.{Network}
use Rattle.nf_network.proofs.AsciiFacts.{IsPlain, all-joined, all-seen, plain-nil, plain-said}
use Rattle.nf_cons.specs.declared.places.PlacedFault.{PlacedFault}
use Rattle.nf_cons.specs.declared.taken.SideRow.{SideRow}
use Rattle.nf_cons.specs.Constrained.{constrained_labels}
use Rattle.nf_cons.specs.Making.{AreConstraints}
use Rattle.nf_cons.specs.Naming.{VariableList}
use Rattle.nf_cons.specs.Places.{first_of, in_row}
use Rattle.nf_cons.specs.Terms.{TermLists}
use Rattle.nf_cons.specs.Variables.{Mention, arcs_of, names_in}
use Rattle.nf_cons.proofs.FaultFacts.{first-append, no-row, none-at, or-first, or-second}
use Rattle.nf_cons.proofs.TextFacts.{IsOfVariable, at-map, labels-stay, nonarcs-plain, variable-clear}
use Rattle.nf_cons_sparse.specs.Sparse.{Sparse, SparseLine, coef_faults, coef_right, first_line_fault, given_right, given_type, has_variable, line_at, line_fault_at, mention_at, mention_of, mentions, name_faults, no_line, pairs, right_faults, row_faults, row_name_at, row_number, row_of, sparse_line, type_faults, value_if, variable_number}
use Rattle.nf_cons_sparse.specs.SparseDue.{sparse_constraints, sparse_fault, sparse_of}

abbrev IsOfMention : List Name → Mention → Type 0
IsOfMention arcs m = IsOfVariable arcs m.variable

line-named : (arcs : List Name) (above : List Mention) (n : ℕ) (l : SparseLine) → first_of (name_faults arcs above n l) ≡ None
    → All (IsOfMention arcs) (cond (has_variable l) (mention_of n l ∷ []) [])
line-named arcs above n l h = by_test (cases_Bool (has_variable l))
  where
    by_test : (has_variable l ≡ true) ⊎ (has_variable l ≡ false) → All (IsOfMention arcs) (cond (has_variable l) (mention_of n l ∷ []) [])
    by_test (inl e) = rw e (All-cons (IsOfMention arcs) (mention_of n l) [] (variable-clear arcs above false (mention_of n l) (rw e at h)) (All-nil (IsOfMention arcs)))
    by_test (inr e) = rw e (All-nil (IsOfMention arcs))

front-clear : (xs ys : List (Option PlacedFault)) → first_of (xs ++ ys) ≡ None → first_of xs ≡ None
front-clear xs ys h = or-first (first_of xs) (first_of ys) (sym (first-append xs ys) ∙ h)

third-clear : (a b c d e f : List (Option PlacedFault)) → first_of (a ++ b ++ c ++ d ++ e ++ f) ≡ None → first_of c ≡ None
third-clear a b c d e f h =
    let three = front-clear (a ++ b ++ c) d (front-clear (a ++ b ++ c ++ d) e (front-clear (a ++ b ++ c ++ d ++ e) f h)) in
    or-second (first_of (a ++ b)) (first_of c) (sym (first-append (a ++ b) c) ∙ three)

lines-named : (s : Sparse) → first_line_fault s ≡ None → All (IsOfVariable s.arcs) (names_in (mentions s (length s.lines)))
unfolding line_fault_at
lines-named s clear =
    All-map (IsOfVariable s.arcs) (λ m. m.variable) (mentions s (length s.lines))
    (all-joined (IsOfMention s.arcs) (length s.lines) (mention_at s)
    (λ k below. let l = line_at s k in
    line-named s.arcs (mentions s k) (k + 1) l
    (third-clear (row_faults l.row) (type_faults (given_type s k (row_of l)) l.row_type) (name_faults s.arcs (mentions s k) (k + 1) l)
    (right_faults role.Coef (given_right s k (row_of l)) (coef_right l)) (coef_faults (pairs s k) (row_number s k, variable_number s k) l)
    (right_faults role.Rhs (or_else (given_right s k (row_of l)) (value_if (coef_right l))) l.right)
    (no-row (k + 1) (line_fault_at s k) (none-at (length s.lines) k (λ i. in_row (i + 1) (line_fault_at s i)) clear below)))))

rows-plain : (o : ProcOptions) (arcs : List Name) (roles : RoleColumns) (table : Grid) → All IsPlain (sparse_constraints o arcs roles table).names
rows-plain o arcs roles table =
    all-seen IsPlain _
    (all-joined IsPlain (length (sparse_of o arcs roles table).lines) (row_name_at (sparse_of o arcs roles table))
    (λ k below. All-cons IsPlain (row_of (line_at (sparse_of o arcs roles table) k)) []
    (at-map (λ (l : SparseLine). IsPlain (row_of l)) (sparse_line roles) no_line plain-nil (λ cells. plain-said [] (cell_for roles role.Row cells) plain-nil) table.rows k)
    (All-nil IsPlain)))

pub sparse-labels : (o : ProcOptions) (n : Network) (roles : RoleColumns) (table : Grid) → sparse_fault o (arcs_of n.labels) roles table ≡ None
    → (v : VariableList) (ns : List Name) (ss : List SideRow) (ls : TermLists) → AreConstraints (arcs_of n.labels) (sparse_constraints o (arcs_of n.labels) roles table) v ns ss ls
    → (p : LinearProgram) → AreNumbered (constrained_labels n.labels (record { nonarcs = v.nonarcs; names = ns; sides = ss; lists = ls })) p → AreLabelsOf n.labels n.program
    → AreLabelsOf (constrained_labels n.labels (record { nonarcs = v.nonarcs; names = ns; sides = ss; lists = ls })) p
sparse-labels o n roles table clear v ns ss ls e p numbered of =
    labels-stay n (record { nonarcs = v.nonarcs; names = ns; sides = ss; lists = ls }) p of numbered
    (rw e.nonarcs_are (nonarcs-plain (arcs_of n.labels) _ (lines-named (sparse_of o (arcs_of n.labels) roles table) (or-first _ _ clear))))
    (rw e.names_are (rows-plain o (arcs_of n.labels) roles table))
