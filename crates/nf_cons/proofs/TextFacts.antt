-- The names that CONDATA adds to labels are UTF-8, so labels of a network stay labels of its program.
use Rattle.std.proofs.Common.{◌≡◌, ◌⊎◌, ◌+◌, ◌++◌, ◌∷◌, ◌||◌, ℕ, zero, suc, Bool, true, false, not, List, [], None, inl, inr, length, map, filter, take, get_or, codes, decimal, refl}
use Rattle.std.specs.List.{All}
use Rattle.std.specs.Str.{IsUtf8}
use Rattle.std.proofs.lemmas.Bool.{cases_Bool}
use Rattle.std.proofs.lemmas.List.Elements.{All-append, All-cons, All-from_get_or, All-head, All-map, All-nil, All-tail, All-weaker}
use Rattle.nf_model.specs.Program.{LinearProgram}
use Rattle.nf_labels.specs.Labels.{AreLabelsOf, AreNumbered}
use Rattle.nf_table.specs.Grid.{Grid}
use Rattle.nf_cells.specs.Cells.{is_blank, is_name}
use Rattle.nf_cells.specs.Names.{Name, has_name}
use Rattle.nf_program.specs.declared.program.ProcOptions.{ProcOptions}
use Rattle.nf_program.specs.declared.program.Role.TheVariants as role
use Rattle.nf_roles.specs.declared.fault.DataKind.TheVariants as kind
use Rattle.nf_roles.specs.Roles.{RoleColumns, cell_for}
use Rattle.nf_network.specs.Network.{Network}
use Rattle.nf_network.proofs.AsciiFacts.{IsPlain, all-joined, all-seen, plain-append, plain-at, plain-decimal, plain-name, plain-said, plain-utf8}
use Rattle.nf_cons.specs.declared.taken.SideRow.{SideRow}
use Rattle.nf_cons.specs.Constrained.{Constraints, constrained_labels, side_name}
use Rattle.nf_cons.specs.Dense.{DenseRow, column_fault_at, dense_row, first_header_fault, mentions, names_at, no_mention, no_row, row_at, row_name}
use Rattle.nf_cons.specs.Due.{dense_constraints, dense_fault, dense_of}
use Rattle.nf_cons.specs.Making.{AreConstraints}
use Rattle.nf_cons.specs.Naming.{VariableList}
use Rattle.nf_cons.specs.Places.{fault_if, first_of, in_row}
use Rattle.nf_cons.specs.Terms.{TermLists}
use Rattle.nf_cons.specs.Variables.{Mention, arcs_of, is_arc, names_in, nonarcs, variable_faults}
use Rattle.nf_cons.proofs.FaultFacts.{no-row, none-at, or-first, or-second, passed}

-- ---- nonarc variables
-- A name is that of an arc, or of the form of names.
abbrev pub IsOfVariable : List Name → Name → Type 0
IsOfVariable arcs n = (is_name n || is_arc arcs n) ≡ true

pub variable-clear : (arcs : List Name) (above : List Mention) (taken : Bool) (m : Mention) → first_of (variable_faults arcs above taken m) ≡ None → IsOfVariable arcs m.variable
variable-clear arcs above taken m h = by_test (is_name m.variable || is_arc arcs m.variable) (passed _ m.home.place kind.BadName (or-first _ _ h))
  where
    by_test : (b : Bool) → not b ≡ false → b ≡ true
    by_test true e = refl
    by_test false e = absurd (cc)

all-kept : {A : Type 0} (P : A → Type 0) (p : A → Bool) (xs : List A) → All (λ x. p x ≡ true → P x) xs → All P (filter p xs)
all-kept P p [] h = All-nil P
all-kept P p (x ∷ xs) h = by_test (cases_Bool (p x)) (all-kept P p xs (All-tail (λ y. p y ≡ true → P y) x xs h))
  where
    by_test : (p x ≡ true) ⊎ (p x ≡ false) → All P (filter p xs) → All P (filter p (x ∷ xs))
    by_test (inl e) rest = rw e (All-cons P x (filter p xs) (All-head (λ y. p y ≡ true → P y) x xs h e) rest)
    by_test (inr e) rest = rw e rest

pub nonarcs-plain : (arcs : List Name) (ms : List Mention) → All (IsOfVariable arcs) (names_in ms) → All IsPlain (nonarcs arcs ms)
nonarcs-plain arcs ms h =
    all-seen IsPlain (filter (λ n. not (is_arc arcs n)) (names_in ms))
    (all-kept IsPlain (λ n. not (is_arc arcs n)) (names_in ms)
    (All-weaker (IsOfVariable arcs) (λ n. not (is_arc arcs n) ≡ true → IsPlain n) (λ n of free. plain-name n (by_tests (is_name n) (is_arc arcs n) of free)) (names_in ms) h))
  where
    by_tests : (a b : Bool) → (a || b) ≡ true → not b ≡ true → a ≡ true
    by_tests true b h k = refl
    by_tests false true h k = k
    by_tests false false h k = h

-- ---- labels
pub labels-stay : (n : Network) (c : Constraints) (p : LinearProgram) → AreLabelsOf n.labels n.program → AreNumbered (constrained_labels n.labels c) p → All IsPlain c.nonarcs → All IsPlain c.names
    → AreLabelsOf (constrained_labels n.labels c) p
labels-stay n c p of numbered nonarcs names = record {
  numbered = numbered;
  own_headers = of.own_headers;
  node_texts = of.node_texts;
  column_texts = All-append IsUtf8 n.labels.columns c.nonarcs of.column_texts (All-weaker IsPlain IsUtf8 plain-utf8 c.nonarcs nonarcs);
  constraint_texts = All-append IsUtf8 n.labels.constraints (map (side_name c.names) c.sides) of.constraint_texts
      (All-map IsUtf8 (side_name c.names) c.sides (λ i d below. plain-utf8 (side_name c.names (get_or c.sides i d)) (plain-at c.names (get_or c.sides i d).name names)));
  header_texts = of.header_texts;
  id_texts = of.id_texts;
}

-- What holds of another element and of all that a function gives holds at each place.
pub at-map : {A B : Type 0} (P : B → Type 0) (f : A → B) (d : B) → P d → ((x : A) → P (f x)) → (xs : List A) (k : ℕ) → P (get_or (map f xs) k d)
at-map P f d none some [] k = none
at-map P f d none some (x ∷ xs) zero = some x
at-map P f d none some (x ∷ xs) (suc k) = at-map P f d none some xs k

-- ---- dense CONDATA
columns-named : (arcs : List Name) (ms : List Mention) → first_header_fault arcs ms ≡ None → All (IsOfVariable arcs) (names_in ms)
unfolding column_fault_at
columns-named arcs ms clear =
    All-map (IsOfVariable arcs) (λ m. m.variable) ms
    (All-from_get_or (λ m. IsOfVariable arcs m.variable) ms no_mention
    (λ k below. let here = no-row 0 (column_fault_at arcs ms k) (none-at (length ms) k (λ i. in_row 0 (column_fault_at arcs ms i)) clear below) in
    variable-clear arcs (take k ms) (has_name (get_or ms k no_mention).variable (names_in (take k ms))) (get_or ms k no_mention)
    (or-second (fault_if (is_blank (get_or ms k no_mention).variable) (get_or ms k no_mention).home.place kind.BadName) _ here)))

rows-plain : (o : ProcOptions) (arcs : List Name) (roles : RoleColumns) (table : Grid) → All IsPlain (dense_constraints o arcs roles table).names
rows-plain o arcs roles table =
    all-joined IsPlain (length (dense_of o arcs roles table).rows) (names_at (dense_of o arcs roles table))
    (λ k below. All-cons IsPlain (row_name (k + 1) (row_at (dense_of o arcs roles table) k).name) []
    (at-map (λ (r : DenseRow). IsPlain (row_name (k + 1) r.name)) (dense_row roles) no_row (unnamed (k + 1))
    (λ cells. plain-said (codes "_OBS" ++ (decimal (k + 1) ++ codes "_")) (cell_for roles role.Row cells) (unnamed (k + 1))) table.rows k)
    (All-nil IsPlain))
  where
    unnamed : (n : ℕ) → IsPlain (codes "_OBS" ++ (decimal n ++ codes "_"))
    unnamed n = plain-append (codes "_OBS") (decimal n ++ codes "_") (plain-name (codes "_OBS") refl) (plain-append (decimal n) (codes "_") (plain-decimal n) (plain-name (codes "_") refl))

pub dense-labels : (o : ProcOptions) (n : Network) (roles : RoleColumns) (table : Grid) → dense_fault o (arcs_of n.labels) roles table ≡ None
    → (v : VariableList) (ns : List Name) (ss : List SideRow) (ls : TermLists) → AreConstraints (arcs_of n.labels) (dense_constraints o (arcs_of n.labels) roles table) v ns ss ls
    → (p : LinearProgram) → AreNumbered (constrained_labels n.labels (record { nonarcs = v.nonarcs; names = ns; sides = ss; lists = ls })) p → AreLabelsOf n.labels n.program
    → AreLabelsOf (constrained_labels n.labels (record { nonarcs = v.nonarcs; names = ns; sides = ss; lists = ls })) p
dense-labels o n roles table clear v ns ss ls e p numbered of =
    labels-stay n (record { nonarcs = v.nonarcs; names = ns; sides = ss; lists = ls }) p of numbered
    (rw e.nonarcs_are (nonarcs-plain (arcs_of n.labels) (mentions roles table.header) (columns-named (arcs_of n.labels) (mentions roles table.header) (or-first _ _ clear))))
    (rw e.names_are (rows-plain o (arcs_of n.labels) roles table))
