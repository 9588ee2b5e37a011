-- What dense CONDATA says are amounts, and not too many.
use Rattle.std.proofs.Common.{◌≡◌, ◌⊎◌, inl, inr, ◌++◌, ◌||◌, not, ℕ, zero, suc, ◌+◌, ◌<◌, ◌≤◌, Bool, true, false, List, [], ◌∷◌, length, map, take, get_or, Option, Some, None, Ok, if◌then◌else◌, refl, sym, ◌∙◌, subst, arith}
use Rattle.std.specs.List.{All}
use Rattle.std.proofs.lemmas.List.{get_or_past, take_all, take_more}
use Rattle.std.proofs.lemmas.List.Elements.{All-nil, All-cons}
use Rattle.std.specs.Bool.{nat_lt}
use Rattle.std.specs.Str.{bytes_eq}
use Rattle.nf_frac.specs.declared.amount.Amount.{Amount}
use Rattle.nf_frac.specs.Amounts as text
use Rattle.nf_table.specs.Grid.{Cells, Grid}
use Rattle.nf_cells.specs.Cells.{is_name}
use Rattle.nf_cells.specs.Names.{Name, first_seen}
use Rattle.nf_cells.specs.declared.values.Cell.{Cell}
use Rattle.nf_cells.specs.declared.values.Cell.TheVariants.{Missing, Bad, Is}
use Rattle.nf_model.specs.declared.RowKind.{RowKind}
use Rattle.nf_program.specs.declared.program.ProcOptions.{ProcOptions}
use Rattle.nf_program.specs.declared.program.Role.TheVariants as role
use Rattle.nf_roles.specs.declared.fault.DataKind.TheVariants as kind
use Rattle.nf_roles.specs.First.{or_else}
use Rattle.nf_roles.specs.Roles.{RoleColumns, cell_for}
use Rattle.nf_network.specs.Arcs.{said}
use Rattle.nf_network.specs.Faults.{excess}
use Rattle.nf_network.specs.Network.{Network}
use Rattle.nf_network.proofs.AsciiFacts.{all-flat, all-joined}
use Rattle.nf_cons.specs.declared.places.PlacedFault.{PlacedFault}
use Rattle.nf_cons.specs.declared.places.RowFault.{RowFault}
use Rattle.nf_cons.specs.declared.row_type.RowType.{RowType}
use Rattle.nf_cons.specs.declared.row_type.RowType.TheVariants.{Cost, Lower, Upper}
use Rattle.nf_cons.specs.declared.taken.Coefficient.{Coefficient}
use Rattle.nf_cons.specs.declared.taken.SideRow.{SideRow}
use Rattle.nf_cons.specs.declared.value.Value.{Value}
use Rattle.nf_cons.specs.declared.value.Value.TheVariants.{Finite, NoLower, NoUpper}
use Rattle.nf_cons.specs.Constrained.{constrained}
use Rattle.nf_cons.specs.Dense.{Dense, DenseRow, cell_at, column_fault_at, dense_row, first_header_fault, first_row_fault, given_at, given_by, given_in, givens, mentions, no_mention, no_row, right_at, row_at, side_at, side_if, sides, type_at}
use Rattle.nf_cons.specs.Due.{dense_constraints, dense_due, dense_fault, dense_of, unless_fault}
use Rattle.nf_cons.specs.Places.{fault_if, first_of, in_row}
use Rattle.nf_cons.specs.Terms.{Given, amount_in, coefficient_of, gift_of, lists_of}
use Rattle.nf_cons.specs.Types.{is_side, same_type, side_kind}
use Rattle.nf_cons.specs.Values.{value_in}
use Rattle.nf_cons.specs.Variables.{Mention, arcs_of, is_arc, is_shared, most_nonarcs, nonarcs, variable_faults}
use Rattle.nf_cons.proofs.FaultFacts.{no-row, none-at, or-first, or-second, passed}
use Rattle.nf_cons.proofs.ReadyFacts.{clear-of, few-sides}
use Rattle.nf_simplex.proofs.Orders.{less_or_not}
use Rattle.nf_width.specs.Amounts.{HasAmounts}
use Rattle.nf_amounts.specs.Laws.{DenseHasAmounts}
use Rattle.nf_amounts.proofs.Constrained.{AreFewConstraints, HasListAmounts, constrained_has_amounts}
use Rattle.nf_amounts.proofs.Networks.{networks_are_of_nodes, networks_have_amounts, zero_amount}
use Rattle.nf_amounts.proofs.Reading.{IsCellOf, IsValue, amount_cell, value_cell}

-- ---- lists of what is given
-- What is given is an amount that a text can write, or no bound.
abbrev pub IsGivenValue : Given → Type 0
IsGivenValue g = IsValue g.term.value

coefficient_small : (g : Given) → IsGivenValue g → All (λ c. text.IsAmount c.value) (coefficient_of g)
coefficient_small g h = of (is_side g.row_type) g.term.value h
  where
    of : (b : Bool) (v : Value) → IsValue v
        → All (λ (c : Coefficient). text.IsAmount c.value) (if b then map (λ a. record { variable = g.term.variable; constraint = g.constraint; value = a }) (amount_in v) else [])
    of false v k = All-nil (λ (c : Coefficient). text.IsAmount c.value)
    of true (Finite a) k = All-cons (λ (c : Coefficient). text.IsAmount c.value) (record { variable = g.term.variable; constraint = g.constraint; value = a }) [] k (All-nil (λ (c : Coefficient). text.IsAmount c.value))
    of true NoUpper k = All-nil (λ (c : Coefficient). text.IsAmount c.value)
    of true NoLower k = All-nil (λ (c : Coefficient). text.IsAmount c.value)

gift_small : (t : RowType) (g : Given) → IsGivenValue g → All (λ d. IsValue d.1.0) (gift_of t g)
gift_small t g h = of (same_type t g.row_type)
  where
    of : (b : Bool) → All (λ (d : ℕ × (Value × ℕ)). IsValue d.1.0) (if b then (g.term.variable, (g.term.value, g.row)) ∷ [] else [])
    of true = All-cons (λ (d : ℕ × (Value × ℕ)). IsValue d.1.0) (g.term.variable, (g.term.value, g.row)) [] h (All-nil (λ (d : ℕ × (Value × ℕ)). IsValue d.1.0))
    of false = All-nil (λ (d : ℕ × (Value × ℕ)). IsValue d.1.0)

pub lists_small : (gs : List Given) → All IsGivenValue gs → HasListAmounts (lists_of gs)
lists_small gs h = record {
  coefficients = all-flat (λ c. text.IsAmount c.value) coefficient_of gs (λ k d l. coefficient_small (get_or gs k d) (h k d l));
  costs = all-flat (λ d. IsValue d.1.0) (gift_of Cost) gs (λ k d l. gift_small Cost (get_or gs k d) (h k d l));
  lowers = all-flat (λ d. IsValue d.1.0) (gift_of Lower) gs (λ k d l. gift_small Lower (get_or gs k d) (h k d l));
  uppers = all-flat (λ d. IsValue d.1.0) (gift_of Upper) gs (λ k d l. gift_small Upper (get_or gs k d) (h k d l));
}

pub side_small : (i : ℕ) (a : Amount) (o : Option RowKind) → text.IsAmount a → All (λ s. text.IsAmount s.right) (side_if i a o)
side_small i a None h = All-nil (λ (s : SideRow). text.IsAmount s.right)
side_small i a (Some k) h = All-cons (λ (s : SideRow). text.IsAmount s.right) (record { name = i; kind = k; right = a }) [] h (All-nil (λ (s : SideRow). text.IsAmount s.right))

-- ---- rows
-- The cells of a row say such values, and an amount as its right side.
pub record IsRowOf (r : DenseRow) : Type 0 where
  pub right : IsCellOf text.IsAmount r.right
  pub cells : (i : ℕ) → IsCellOf IsValue (get_or r.cells i Missing)

pub at_or : {A : Type 0} (P : A → Type 0) (xs : List A) (d : A) (i : ℕ) → All P xs → P d → P (get_or xs i d)
at_or P xs d i all other = of (less_or_not i (length xs))
  where
    of : (i < length xs) ⊎ (length xs ≤ i) → P (get_or xs i d)
    of (inl l) = all i d l
    of (inr l) = subst P (sym (get_or_past xs i d l)) other

pub mapped : {A B : Type 0} (P : B → Type 0) (f : A → B) (xs : List A) → ((x : A) → P (f x)) → All P (map f xs)
mapped P f [] h = All-nil P
mapped P f (x ∷ xs) h = All-cons P (f x) (map f xs) (h x) (mapped P f xs h)

row_small : (roles : RoleColumns) (cells : Cells) → IsRowOf (dense_row roles cells)
row_small roles cells = record {
  right = amount_cell (cell_for roles role.Rhs cells);
  cells = λ i. at_or (IsCellOf IsValue) (map (λ c. value_in (get_or cells c [])) roles.variables) Missing i (mapped (IsCellOf IsValue) (λ c. value_in (get_or cells c [])) roles.variables (λ c. value_cell (get_or cells c []))) tt;
}

none_small : IsRowOf no_row
none_small = record { right = tt; cells = λ i. at_or (IsCellOf IsValue) [] Missing i (All-nil (IsCellOf IsValue)) tt }

-- A cell that says such a value, or else the default.
pub said_small : (P : Amount → Type 0) (d : Amount) (cell : Cell Amount) → P d → IsCellOf P cell → P (said d cell)
said_small P d Missing h k = h
said_small P d Bad h k = h
said_small P d (Is a) h k = k

module _ (o : ProcOptions) (arcs : List Name) (roles : RoleColumns) (table : Grid) where
  abbrev d : Dense
  d = dense_of o arcs roles table

  row_is : (k : ℕ) → IsRowOf (row_at d k)
  row_is k = at_or IsRowOf (map (dense_row roles) table.rows) no_row k (mapped IsRowOf (dense_row roles) table.rows (row_small roles)) none_small

  rights_small : (k : ℕ) → All (λ s. text.IsAmount s.right) (sides d k)
  rights_small k =
      all-joined (λ s. text.IsAmount s.right) k (side_at d)
      (λ i below. side_small i (right_at d i) (side_kind (type_at d i)) (said_small text.IsAmount _ (row_at d i).right zero_amount (row_is i).right))

  by_small : (t : RowType) (a c v constraint n : ℕ) (cell : Cell Value) → IsCellOf IsValue cell → All IsGivenValue (given_by t a c v constraint n cell)
  by_small t a c v constraint n Missing h = All-nil IsGivenValue
  by_small t a c v constraint n Bad h = All-nil IsGivenValue
  by_small t a c v constraint n (Is x) h = All-cons IsGivenValue _ [] h (All-nil IsGivenValue)

  at_small : (k i : ℕ) → All IsGivenValue (given_at d k i)
  unfolding given_at
  at_small k i = by_small (type_at d k) d.arcs (get_or d.columns i 0) (get_or d.variables i 0) (length (sides d k)) (k + 1) (cell_at d k i) ((row_is k).cells i)

  givens_small : (k : ℕ) → All IsGivenValue (givens d k)
  givens_small k = all-joined IsGivenValue k (given_in d) (λ i below. all-joined IsGivenValue (length d.variables) (given_at d i) (λ j less. at_small i j))

-- ---- the header
third_of_four : (a b c e : Option PlacedFault) → or_else a (or_else b (or_else c e)) ≡ None → e ≡ None
third_of_four a b c e h = or-second c e (or-second b (or_else c e) (or-second a (or_else b (or_else c e)) h))

-- A mention without a fault leaves few nonarc variables.
pub few_after : (arcs : List Name) (above : List Mention) (taken : Bool) (m : Mention) → first_of (variable_faults arcs above taken m) ≡ None → length (nonarcs arcs (above ++ m ∷ [])) ≤ most_nonarcs
few_after arcs above taken m h =
    let limit = third_of_four (fault_if (not (is_name m.variable || is_arc arcs m.variable)) m.home.place kind.BadName) (fault_if (bytes_eq m.variable excess) m.home.place kind.ReservedName)
    (fault_if (taken || is_shared arcs m.variable) m.home.place kind.AmbiguousName) (or_else (fault_if (nat_lt most_nonarcs (length (nonarcs arcs (above ++ m ∷ [])))) m.home.place kind.LimitPassed) None) h in
    let no : nat_lt most_nonarcs (length (nonarcs arcs (above ++ m ∷ []))) ≡ false =
    passed (nat_lt most_nonarcs (length (nonarcs arcs (above ++ m ∷ [])))) m.home.place kind.LimitPassed (or-first _ None limit) in
    grind (arith, no)

pub none_named : (arcs : List Name) → length (nonarcs arcs []) ≤ most_nonarcs
unfolding first_seen
none_named arcs = omega arith

column_few : (arcs : List Name) (ms : List Mention) (k : ℕ) → column_fault_at arcs ms k ≡ None → length (nonarcs arcs (take k ms ++ get_or ms k no_mention ∷ [])) ≤ most_nonarcs
unfolding column_fault_at
column_few arcs ms k h = few_after arcs (take k ms) _ (get_or ms k no_mention) (or-second _ _ h)

few_named : (arcs : List Name) (ms : List Mention) → first_header_fault arcs ms ≡ None → length (nonarcs arcs ms) ≤ most_nonarcs
few_named arcs ms h = of (length ms) refl
  where
    empty : (qs : List Mention) → length qs ≡ 0 → length (nonarcs arcs qs) ≤ most_nonarcs
    empty [] e = none_named arcs
    empty (q ∷ qs) e = absurd (omega (arith, e))

    of : (n : ℕ) → length ms ≡ n → length (nonarcs arcs ms) ≤ most_nonarcs
    of zero e = empty ms e
    of (suc k) e =
        let below : k < length ms = omega (arith, e) in
        let whole : take k ms ++ get_or ms k no_mention ∷ [] ≡ ms = sym (take_more ms k no_mention below) ∙ take_all (k + 1) ms (omega (arith, e)) in
        subst (λ qs. length (nonarcs arcs qs) ≤ most_nonarcs) whole
        (column_few arcs ms k (no-row 0 (column_fault_at arcs ms k) (none-at (length ms) k (λ i. in_row 0 (column_fault_at arcs ms i)) h below)))

-- ---- the constraints
pub dense_few : (o : ProcOptions) (arcs : List Name) (roles : RoleColumns) (table : Grid) → dense_fault o arcs roles table ≡ None → AreFewConstraints (dense_constraints o arcs roles table)
dense_few o arcs roles table h =
    let d = dense_of o arcs roles table in
    let head = or-first (first_header_fault arcs (mentions roles table.header)) _ h in
    let rows = or-first (first_row_fault d) _ (or-second (first_header_fault arcs (mentions roles table.header)) _ h) in
    record {
      few_nonarcs = few_named arcs (mentions roles table.header) head;
      few_sides = few-sides d (length d.rows) (clear-of d rows) (omega arith);
      rights = rights_small o arcs roles table (length d.rows);
      lists = lists_small (givens d (length d.rows)) (givens_small o arcs roles table (length d.rows));
    }

same_network : (roles : RoleColumns) (header : Cells) (a b : Network) → unless_fault roles header None a ≡ Ok b → a ≡ b
same_network roles header a b q = cc

-- What holds of the network with constraints, if there is no fault, holds of the one that is read.
pub unless_any : (P : Network → Type 0) (roles : RoleColumns) (header : Cells) (f : Option RowFault) (c m : Network) → (f ≡ None → P c) → unless_fault roles header f c ≡ Ok m → P m
unless_any P roles header None c m h e = subst P (same_network roles header c m e) (h refl)
unless_any P roles header (Some f) c m h e = absurd (cc)

pub dense_has_amounts : DenseHasAmounts
unfolding dense_due
dense_has_amounts o n roles table m has is e =
    unless_any (λ q. HasAmounts q.program) roles table.header (dense_fault o (arcs_of n.labels) roles table) (constrained o n (dense_constraints o (arcs_of n.labels) roles table)) m
    (λ clear. constrained_has_amounts o has n (dense_constraints o (arcs_of n.labels) roles table) (networks_are_of_nodes o n has is) (networks_have_amounts o n has is)
    (dense_few o (arcs_of n.labels) roles table clear)) e
