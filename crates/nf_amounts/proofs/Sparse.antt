-- What sparse CONDATA says are amounts, and not too many.
use Rattle.std.proofs.Common.{◌≡◌, ◌++◌, ℕ, zero, suc, ◌+◌, ◌<◌, ◌≤◌, Bool, true, false, List, [], ◌∷◌, length, map, Option, Some, None, IfSome, unwrap_or, if◌then◌else◌, sym, ◌∙◌, subst, arith}
use Rattle.std.specs.List.{All}
use Rattle.std.proofs.lemmas.List.{append-nil}
use Rattle.std.proofs.lemmas.List.Elements.{All-nil, All-cons}
use Rattle.std.specs.Str.{bytes_eq}
use Rattle.nf_frac.specs.declared.amount.Amount.{Amount}
use Rattle.nf_frac.specs.Amounts as text
use Rattle.nf_table.specs.Grid.{Cells, Grid}
use Rattle.nf_cells.specs.Names.{Name}
use Rattle.nf_cells.specs.declared.values.Cell.{Cell}
use Rattle.nf_cells.specs.declared.values.Cell.TheVariants.{Missing, Bad, Is}
use Rattle.nf_program.specs.declared.program.ProcOptions.{ProcOptions}
use Rattle.nf_program.specs.declared.program.Role.TheVariants as role
use Rattle.nf_roles.specs.First.{first_below, or_else}
use Rattle.nf_roles.specs.Roles.{RoleColumns, cell_for}
use Rattle.nf_network.specs.Arcs.{said}
use Rattle.nf_network.specs.Excess.{joined_below}
use Rattle.nf_network.proofs.AsciiFacts.{all-joined}
use Rattle.nf_cons.specs.declared.places.PlacedFault.{PlacedFault}
use Rattle.nf_cons.specs.declared.taken.SideRow.{SideRow}
use Rattle.nf_cons.specs.declared.value.Value.{Value}
use Rattle.nf_cons.specs.declared.value.Value.TheVariants.{Finite, NoLower, NoUpper}
use Rattle.nf_cons.specs.Constrained.{constrained}
use Rattle.nf_cons.specs.Places.{first_of, in_row}
use Rattle.nf_cons.specs.Terms.{Given}
use Rattle.nf_cons.specs.Types.{side_kind}
use Rattle.nf_cons.specs.Variables.{arcs_of, most_nonarcs, nonarcs, variable_faults}
use Rattle.nf_cons.proofs.FaultFacts.{first-append, no-row, none-at, or-first, or-second}
use Rattle.nf_cons_sparse.specs.Sparse.{Sparse, SparseLine, as_right, coef_faults, coef_right, first_line_fault, first_typed_fault, given_at, given_right, givens, has_coefficient, has_variable, is_first, is_right, line_at, line_fault_at, mention_of, mentions, name_faults, no_line, right_faults, right_said, row_faults, row_names, row_of, row_type_of, side_at, side_of, sides, sparse_line, type_faults, typed_fault_at, given_type, row_number, variable_number, pairs, value_if}
use Rattle.nf_cons_sparse.specs.SparseDue.{sparse_constraints, sparse_due, sparse_fault, sparse_of}
use Rattle.nf_cons_sparse.proofs.ReadyLines.{few-sides}
use Rattle.nf_width.specs.Amounts.{HasAmounts}
use Rattle.nf_amounts.specs.Laws.{SparseHasAmounts}
use Rattle.nf_amounts.proofs.Constrained.{AreFewConstraints, constrained_has_amounts}
use Rattle.nf_amounts.proofs.Dense.{IsGivenValue, at_or, few_after, lists_small, mapped, none_named, side_small, unless_any}
use Rattle.nf_amounts.proofs.Networks.{networks_are_of_nodes, networks_have_amounts, zero_amount}
use Rattle.nf_amounts.proofs.Reading.{IsCellOf, IsValue, amount_cell, value_cell}

-- ---- lines
-- A line says an amount as its right side, and an amount or no bound as its coefficient.
pub record IsLineOf (l : SparseLine) : Type 0 where
  pub coef : IsCellOf IsValue l.coef
  pub right : IsCellOf text.IsAmount l.right

line_small : (roles : RoleColumns) (cells : Cells) → IsLineOf (sparse_line roles cells)
line_small roles cells = record { coef = value_cell (cell_for roles role.Coef cells); right = amount_cell (cell_for roles role.Rhs cells) }

if_small : {A : Type 0} (P : A → Type 0) (cell : Cell A) → IsCellOf P cell → IfSome (value_if cell) P
if_small P Missing h = tt
if_small P Bad h = tt
if_small P (Is x) h = h

as_right_small : (cell : Cell Value) → IsCellOf IsValue cell → IsCellOf text.IsAmount (as_right cell)
as_right_small Missing h = tt
as_right_small Bad h = tt
as_right_small (Is (Finite a)) h = h
as_right_small (Is NoUpper) h = tt
as_right_small (Is NoLower) h = tt

coef_right_small : (l : SparseLine) → IsLineOf l → IsCellOf text.IsAmount (coef_right l)
coef_right_small l h = of (is_right l)
  where
    of : (b : Bool) → IsCellOf text.IsAmount (if b then as_right l.coef else Missing)
    of true = as_right_small l.coef h.coef
    of false = tt

-- ---- the first of some
else_small : {A : Type 0} (P : A → Type 0) (a b : Option A) → IfSome a P → IfSome b P → IfSome (or_else a b) P
else_small P None b h k = k
else_small P (Some x) b h k = h

below_small : {A : Type 0} (P : A → Type 0) (n : ℕ) (f : ℕ → Option A) → ((k : ℕ) → IfSome (f k) P) → IfSome (first_below n f) P
unfolding first_below
below_small P zero f h = tt
below_small P (suc n) f h = else_small P (first_below n f) (f n) (below_small P n f h) (h n)

or_zero_small : (a : Option Amount) (d : Amount) → IfSome a text.IsAmount → text.IsAmount d → text.IsAmount (unwrap_or a d)
or_zero_small None d h k = k
or_zero_small (Some a) d h k = h

value_or_small : (cell : Cell Value) → IsCellOf IsValue cell → IsValue (said NoUpper cell)
value_or_small Missing h = tt
value_or_small Bad h = tt
value_or_small (Is x) h = h

module _ (s : Sparse) (lines : (k : ℕ) → IsLineOf (line_at s k)) where
  -- ---- right sides
  right_said_small : (r : Name) (k : ℕ) → IfSome (right_said s r k) text.IsAmount
  right_said_small r k = of (bytes_eq r (row_of (line_at s k)))
    where
      of : (b : Bool) → IfSome (if b then or_else (value_if (coef_right (line_at s k))) (value_if (line_at s k).right) else None) text.IsAmount
      of true =
          else_small text.IsAmount (value_if (coef_right (line_at s k))) (value_if (line_at s k).right) (if_small text.IsAmount (coef_right (line_at s k)) (coef_right_small (line_at s k) (lines k)))
          (if_small text.IsAmount (line_at s k).right (lines k).right)
      of false = tt

  side_of_small : (i : ℕ) (r : Name) → All (λ q. text.IsAmount q.right) (side_of s i r)
  side_of_small i r =
      side_small i _ (side_kind (row_type_of s r))
      (or_zero_small (given_right s (length s.lines) r) _ (below_small text.IsAmount (length s.lines) (right_said s r) (right_said_small r)) zero_amount)

  side_at_small : (k : ℕ) → All (λ q. text.IsAmount q.right) (side_at s k)
  side_at_small k = of (is_first s k)
    where
      of : (b : Bool) → All (λ (q : SideRow). text.IsAmount q.right) (if b then side_of s (length (row_names s k)) (row_of (line_at s k)) else [])
      of true = side_of_small (length (row_names s k)) (row_of (line_at s k))
      of false = All-nil (λ (q : SideRow). text.IsAmount q.right)

  pub rights_small : (k : ℕ) → All (λ q. text.IsAmount q.right) (sides s k)
  rights_small k = all-joined (λ q. text.IsAmount q.right) k (side_at s) (λ i below. side_at_small i)

  -- ---- what is given
  at_small : (k : ℕ) → All IsGivenValue (given_at s k)
  unfolding given_at
  at_small k = of (has_coefficient (line_at s k)) _ (value_or_small (line_at s k).coef (lines k).coef)
    where
      of : (b : Bool) (g : Given) → IsGivenValue g → All IsGivenValue (if b then g ∷ [] else [])
      of true g h = All-cons IsGivenValue g [] h (All-nil IsGivenValue)
      of false g h = All-nil IsGivenValue

  pub givens_small : (k : ℕ) → All IsGivenValue (givens s k)
  givens_small k = all-joined IsGivenValue k (given_at s) (λ i below. at_small i)

-- ---- nonarc variables
front_clear : (a b : List (Option PlacedFault)) → first_of (a ++ b) ≡ None → first_of a ≡ None
front_clear a b h = or-first (first_of a) (first_of b) (sym (first-append a b) ∙ h)

third_clear : (a b c d e f : List (Option PlacedFault)) → first_of (a ++ b ++ c ++ d ++ e ++ f) ≡ None → first_of c ≡ None
third_clear a b c d e f h =
    let three = front_clear (a ++ b ++ c) d (front_clear (a ++ b ++ c ++ d) e (front_clear (a ++ b ++ c ++ d ++ e) f h)) in
    or-second (first_of (a ++ b)) (first_of c) (sym (first-append (a ++ b) c) ∙ three)

module _ (s : Sparse) where
  named_clear : (k : ℕ) → line_fault_at s k ≡ None → first_of (name_faults s.arcs (mentions s k) (k + 1) (line_at s k)) ≡ None
  unfolding line_fault_at
  named_clear k h =
      third_clear (row_faults (line_at s k).row) (type_faults (given_type s k (row_of (line_at s k))) (line_at s k).row_type) (name_faults s.arcs (mentions s k) (k + 1) (line_at s k))
      (right_faults role.Coef (given_right s k (row_of (line_at s k))) (coef_right (line_at s k))) (coef_faults (pairs s k) (row_number s k, variable_number s k) (line_at s k))
      (right_faults role.Rhs (or_else (given_right s k (row_of (line_at s k))) (value_if (coef_right (line_at s k)))) (line_at s k).right) h

  few_mentioned : (k : ℕ) → ((j : ℕ) → j < k → line_fault_at s j ≡ None) → length (nonarcs s.arcs (mentions s k)) ≤ most_nonarcs
  unfolding joined_below
  few_mentioned zero clear = none_named s.arcs
  few_mentioned (suc k) clear = of (has_variable (line_at s k)) (named_clear k (clear k (omega arith))) (few_mentioned k (λ j less. clear j (omega (arith, less))))
    where
      of : (b : Bool) → first_of (if b then variable_faults s.arcs (mentions s k) false (mention_of (k + 1) (line_at s k)) else []) ≡ None → length (nonarcs s.arcs (mentions s k)) ≤ most_nonarcs
          → length (nonarcs s.arcs (mentions s k ++ (if b then mention_of (k + 1) (line_at s k) ∷ [] else []))) ≤ most_nonarcs
      of true h before = few_after s.arcs (mentions s k) false (mention_of (k + 1) (line_at s k)) h
      of false h before = subst (λ ms. length (nonarcs s.arcs ms) ≤ most_nonarcs) (sym (append-nil (mentions s k))) before

  pub few_named : first_line_fault s ≡ None → length (nonarcs s.arcs (mentions s (length s.lines))) ≤ most_nonarcs
  few_named h = few_mentioned (length s.lines) (λ j below. no-row (j + 1) (line_fault_at s j) (none-at (length s.lines) j (λ i. in_row (i + 1) (line_fault_at s i)) h below))

  pub few_constraints : first_typed_fault s ≡ None → length (sides s (length s.lines)) ≤ 500
  few_constraints h = few-sides s (length s.lines) (λ j below. no-row (j + 1) (typed_fault_at s j) (none-at (length s.lines) j (λ i. in_row (i + 1) (typed_fault_at s i)) h below))

-- ---- the constraints
sparse_few : (o : ProcOptions) (arcs : List Name) (roles : RoleColumns) (table : Grid) → sparse_fault o arcs roles table ≡ None → AreFewConstraints (sparse_constraints o arcs roles table)
sparse_few o arcs roles table h =
    let s = sparse_of o arcs roles table in
    let first = or-first (first_line_fault s) _ h in
    let typed = or-first (first_typed_fault s) _ (or-second (first_line_fault s) _ h) in
    let lines = λ (k : ℕ). at_or IsLineOf (map (sparse_line roles) table.rows) no_line k (mapped IsLineOf (sparse_line roles) table.rows (line_small roles)) (record { coef = tt; right = tt }) in
    record {
      few_nonarcs = few_named s first;
      few_sides = few_constraints s typed;
      rights = rights_small s lines (length s.lines);
      lists = lists_small (givens s (length s.lines)) (givens_small s lines (length s.lines));
    }

pub sparse_has_amounts : SparseHasAmounts
unfolding sparse_due
sparse_has_amounts o n roles table m has is e =
    unless_any (λ q. HasAmounts q.program) roles table.header (sparse_fault o (arcs_of n.labels) roles table) (constrained o n (sparse_constraints o (arcs_of n.labels) roles table)) m
    (λ clear. constrained_has_amounts o has n (sparse_constraints o (arcs_of n.labels) roles table) (networks_are_of_nodes o n has is) (networks_have_amounts o n has is)
    (sparse_few o (arcs_of n.labels) roles table clear)) e
