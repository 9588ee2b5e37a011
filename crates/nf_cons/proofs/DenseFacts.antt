-- Facts on the rows of dense CONDATA: what the pass finds is what the rows say.
use Rattle.std.proofs.Common.{◌≡◌, ◌<◌, ◌≤◌, ◌+◌, ◌++◌, ℕ, suc, true, false, List, [], ◌∷◌, None, length, map, get_or, refl, sym, ap, ◌∙◌, inr, arith, append_assoc}
use Rattle.std.proofs.lemmas.List.{append-nil, length-append, get_or-map}
use Rattle.std.specs.Bool.{nat_le}
use Rattle.nf_table.specs.Grid.{Grid}
use Rattle.nf_cells.specs.Names.{Name, has_name}
use Rattle.nf_cells.specs.declared.values.Cell.{Cell}
use Rattle.nf_cells.specs.declared.values.Cell.TheVariants.{Missing, Bad, Is}
use Rattle.nf_program.specs.declared.program.Role.TheVariants as role
use Rattle.nf_roles.specs.declared.fault.DataKind.TheVariants as kind
use Rattle.nf_roles.specs.First.{first_below, or_else}
use Rattle.nf_roles.specs.Roles.{RoleColumns}
use Rattle.nf_network.specs.Excess.{joined_below}
use Rattle.nf_network.specs.Faults.{is_bad}
use Rattle.nf_network.proofs.Lists.{joined-more, joined-none, joined-ones}
use Rattle.nf_cons.specs.declared.places.DataColumn.TheVariants.{OfRole, Column}
use Rattle.nf_cons.specs.declared.places.PlacedFault.{PlacedFault}
use Rattle.nf_cons.specs.declared.row_type.RowType.{RowType}
use Rattle.nf_cons.specs.declared.value.Value.{Value}
use Rattle.nf_cons.specs.Places.{IsFaultOf, fault_if, first_of}
use Rattle.nf_cons.specs.Terms.{Given, TermLists, lists_of, term_faults}
use Rattle.nf_cons.specs.Dense.{Dense, cell_at, cell_fault_at, cell_faults, cell_term, dense_row, given_at, given_before, given_by, given_in, givens, head_faults, most_coefficients, name_faults, names, names_at, no_row, right_at, right_faults, row_at, row_fault_at, row_name, side_at, side_if, sides, type_at, type_faults}
use Rattle.nf_cons.specs.Types.{side_kind}
use Rattle.nf_cons.specs.Values.{value_in}
use Rattle.nf_cons.specs.Naming.{VariableList}
use Rattle.nf_cons.specs.Passing.{DenseState, IsAfterRows, dense_now, lists_with, state_before, state_with}
use Rattle.nf_cons.proofs.FaultFacts.{first-append, left, or-assoc, or-first, or-second, passed, right}
use Rattle.nf_cons.proofs.TermFacts.{lists-more}

-- ---- names of rows
pub name-repeated : (above : List Name) (n : ℕ) (cell : Cell Name) → is_bad cell ≡ false → has_name (row_name n cell) above ≡ true
    → IsFaultOf (first_of (name_faults above n cell)) (record { place = OfRole role.Row; kind = kind.RepeatedRow })
name-repeated above n cell good there = rw (good, there) (inr refl)

pub name-clear : (above : List Name) (n : ℕ) (cell : Cell Name) → is_bad cell ≡ false → has_name (row_name n cell) above ≡ false → first_of (name_faults above n cell) ≡ None
name-clear above n cell good absent = rw (good, absent) refl

-- ---- what is given, one list behind another
pub lists-with : (gs hs : List Given) → lists_with (lists_of gs) hs ≡ lists_of (gs ++ hs)
lists-with gs [] = ap lists_of (sym (append-nil gs))
lists-with gs (h ∷ hs) = ap (λ ls. lists_with ls hs) (sym (lists-more gs h)) ∙ lists-with (gs ++ h ∷ []) hs ∙ ap lists_of (append_assoc gs (h ∷ []) hs)

pub before-more : (d : Dense) (k i : ℕ) → given_before d k (i + 1) ≡ given_before d k i ++ given_at d k i
before-more d k i = ap (λ l. givens d k ++ l) (joined-more i (given_at d k)) ∙ sym (append_assoc (givens d k) (joined_below i (given_at d k)) (given_at d k i))

pub before-none : (d : Dense) (k : ℕ) → given_before d k 0 ≡ givens d k
before-none d k = ap (λ l. givens d k ++ l) (joined-none (given_at d k)) ∙ append-nil (givens d k)

pub before-all : (d : Dense) (k : ℕ) → given_before d k (length d.variables) ≡ givens d (k + 1)
before-all d k = sym (joined-more k (given_in d))

pub state-more : (s : DenseState) (d : Dense) (k i : ℕ) (gs : List Given) → gs ≡ given_at d k i → state_with (state_before s d k i) gs ≡ state_before s d k (i + 1)
state-more s d k i gs is =
    let lists : lists_with (lists_of (given_before d k i)) (given_at d k i) ≡ lists_of (given_before d k (i + 1)) = lists-with (given_before d k i) (given_at d k i) ∙ ap lists_of (sym (before-more d k i)) in
    let count : length (given_before d k i) + length (given_at d k i) ≡ length (given_before d k (i + 1)) =
    sym (length-append (given_before d k i) (given_at d k i)) ∙ ap length (sym (before-more d k i)) in
    rw (is, lists, count) refl

pub state-none : (s : DenseState) (d : Dense) (k : ℕ) → s.lists ≡ lists_of (givens d k) → s.count ≡ length (givens d k) → s ≡ state_before s d k 0
state-none s d k h g = rw (before-none d k, ← h, ← g) refl

-- ---- a cell
pub given-is : (d : Dense) (k i : ℕ) (t : RowType) (c v constraint n : ℕ) (cell : Cell Value) → t ≡ type_at d k → c ≡ get_or d.columns i 0 → v ≡ get_or d.variables i 0
    → constraint ≡ length (sides d k) → n ≡ k + 1 → cell ≡ cell_at d k i → given_by t d.arcs c v constraint n cell ≡ given_at d k i
unfolding given_at
given-is d k i t c v constraint n cell et ec ev es en ex = rw (et, ec, ev, es, en, ex) refl

pub fault-is : (d : Dense) (k i : ℕ) (t : RowType) (c v : ℕ) (ls : TermLists) (n : ℕ) (cell : Cell Value) → t ≡ type_at d k → c ≡ get_or d.columns i 0 → v ≡ get_or d.variables i 0
    → ls ≡ lists_of (given_before d k i) → n ≡ length (given_before d k i) → cell ≡ cell_at d k i → cell_fault_at d k i ≡ first_of (cell_faults t d.arcs c v ls n cell)
unfolding cell_fault_at
fault-is d k i t c v ls n cell et ec ev el en ex = rw (et, ec, ev, el, en, ex) refl

pub few-more : (t : RowType) (arcs c v : ℕ) (ls : TermLists) (n constraint row : ℕ) (cell : Cell Value) → first_of (cell_faults t arcs c v ls n cell) ≡ None → n ≤ most_coefficients
    → n + length (given_by t arcs c v constraint row cell) ≤ most_coefficients
few-more t arcs c v ls n constraint row Missing h few = omega (arith, few)
few-more t arcs c v ls n constraint row Bad h few = omega (arith, few)
few-more t arcs c v ls n constraint row (Is x) h few =
    let limit = fault_if (nat_le most_coefficients n) (Column c) kind.LimitPassed in
    let both = sym (first-append (term_faults t (cell_term arcs c v x) ls) (limit ∷ [])) ∙ h in
    let room = passed (nat_le most_coefficients n) (Column c) kind.LimitPassed (or-first limit None (or-second (first_of (term_faults t (cell_term arcs c v x) ls)) _ both)) in
    let less : n < most_coefficients = grind (arith, room) in
    omega (arith, less)

-- ---- the row of a number
pub row-is : (roles : RoleColumns) (table : Grid) (s : DenseState) (k : ℕ) → k < length table.rows
    → row_at (dense_now roles table s) k ≡ dense_row roles (get_or (table.header ∷ table.rows) (k + 1) [])
row-is roles table s k below =
    let next : k + 1 ≡ suc k = omega arith in
    rw next (get_or-map (dense_row roles) table.rows k [] no_row below)

pub cell-is : (roles : RoleColumns) (table : Grid) (s : DenseState) (k i c : ℕ) → k < length table.rows → i < length roles.variables → c ≡ get_or roles.variables i 0
    → value_in (get_or (get_or (table.header ∷ table.rows) (k + 1) []) c []) ≡ cell_at (dense_now roles table s) k i
cell-is roles table s k i c below inside is =
    rw (row-is roles table s k below, is) (sym (get_or-map (λ q. value_in (get_or (get_or (table.header ∷ table.rows) (k + 1) []) q [])) roles.variables i 0 Missing inside))

-- ---- a row
pub head-split : (d : Dense) (k : ℕ) → first_of (head_faults d k)
    ≡ or_else (first_of (name_faults (names d k) (k + 1) (row_at d k).name)) (or_else (first_of (type_faults d.default (length (sides d k)) (row_at d k).row_type)) (first_of (right_faults (row_at d k).right)))
head-split d k =
    first-append (name_faults (names d k) (k + 1) (row_at d k).name) (type_faults d.default (length (sides d k)) (row_at d k).row_type ++ right_faults (row_at d k).right)
    ∙ ap (or_else (first_of (name_faults (names d k) (k + 1) (row_at d k).name))) (first-append (type_faults d.default (length (sides d k)) (row_at d k).row_type) (right_faults (row_at d k).right))

module _ (d : Dense) (k : ℕ) where
  whole : row_fault_at d k ≡ or_else (first_of (name_faults (names d k) (k + 1) (row_at d k).name))
      (or_else (or_else (first_of (type_faults d.default (length (sides d k)) (row_at d k).row_type)) (first_of (right_faults (row_at d k).right))) (first_below (length d.variables) (cell_fault_at d k)))
  unfolding row_fault_at
  whole =
      ap (λ f. or_else f (first_below (length d.variables) (cell_fault_at d k))) (head-split d k)
      ∙ or-assoc (first_of (name_faults (names d k) (k + 1) (row_at d k).name))
      (or_else (first_of (type_faults d.default (length (sides d k)) (row_at d k).row_type)) (first_of (right_faults (row_at d k).right)))
      (first_below (length d.variables) (cell_fault_at d k))

  pub typed-clear : row_fault_at d k ≡ None → first_of (type_faults d.default (length (sides d k)) (row_at d k).row_type) ≡ None
  typed-clear h = or-first _ _ (or-first _ _ (or-second (first_of (name_faults (names d k) (k + 1) (row_at d k).name)) _ (sym whole ∙ h)))

  pub row-name : (f : PlacedFault) → IsFaultOf (first_of (name_faults (names d k) (k + 1) (row_at d k).name)) f → IsFaultOf (row_fault_at d k) f
  row-name f h = rw whole (left _ _ f h)

  module _ (named : first_of (name_faults (names d k) (k + 1) (row_at d k).name) ≡ None) where
    pub row-type : (f : PlacedFault) → IsFaultOf (first_of (type_faults d.default (length (sides d k)) (row_at d k).row_type)) f → IsFaultOf (row_fault_at d k) f
    row-type f h = rw whole (right _ _ f named (left _ _ f (left _ _ f h)))

    module _ (typed : first_of (type_faults d.default (length (sides d k)) (row_at d k).row_type) ≡ None) where
      pub row-right : (f : PlacedFault) → IsFaultOf (first_of (right_faults (row_at d k).right)) f → IsFaultOf (row_fault_at d k) f
      row-right f h = rw whole (right _ _ f named (left _ _ f (right _ _ f typed h)))

      module _ (righted : first_of (right_faults (row_at d k).right) ≡ None) where
        heads : or_else (first_of (type_faults d.default (length (sides d k)) (row_at d k).row_type)) (first_of (right_faults (row_at d k).right)) ≡ None
        heads = rw typed righted

        pub row-cells : (f : PlacedFault) → IsFaultOf (first_below (length d.variables) (cell_fault_at d k)) f → IsFaultOf (row_fault_at d k) f
        row-cells f h = rw whole (right _ _ f named (right _ _ f heads h))

        pub row-clear : first_below (length d.variables) (cell_fault_at d k) ≡ None → row_fault_at d k ≡ None
        row-clear h = rw (whole, named, heads) h

pub names-more : (d : Dense) (k : ℕ) → names d (k + 1) ≡ names d k ++ row_name (k + 1) (row_at d k).name ∷ []
names-more d k = joined-more k (names_at d)

pub sides-more : (d : Dense) (k : ℕ) → sides d (k + 1) ≡ sides d k ++ side_at d k
sides-more d k = joined-more k (side_at d)

-- ---- before the first row
pub after-none : (d : Dense) (s : DenseState) → s.names ≡ [] → s.sides ≡ [] → s.lists ≡ lists_of [] → s.count ≡ 0 → IsAfterRows d 0 s
after-none d s n e l c = record {
  names_are = n ∙ sym (joined-none (names_at d));
  sides_are = e ∙ sym (joined-none (side_at d));
  lists_are = l ∙ ap lists_of (sym (joined-none (given_in d)));
  count_is = c ∙ ap length (sym (joined-none (given_in d)));
  few = omega (arith, c);
}

-- ---- the next row
pub names-length : (d : Dense) (k : ℕ) → length (names d k) ≡ k
names-length d k = joined-ones k (λ i. row_name (i + 1) (row_at d i).name)

pub row-next : (s : DenseState) (d : Dense) (k : ℕ) → IsAfterRows d k s → (new : DenseState)
    → new ≡ record s {
      names = s.names ++ row_name (k + 1) (row_at d k).name ∷ [];
      sides = s.sides ++ side_if (length s.names) (right_at d k) (side_kind (type_at d k));
      lists = lists_of (givens d (k + 1));
      count = length (givens d (k + 1));
    }
    → length (givens d (k + 1)) ≤ most_coefficients
    → IsAfterRows d (k + 1) new × (new ≡ record s { names = new.names; sides = new.sides; lists = new.lists; count = new.count })
row-next s d k after new is few =
    let number : length s.names ≡ k = ap length after.names_are ∙ names-length d k in
    rw is (
      record {
        names_are = ap (λ l. l ++ row_name (k + 1) (row_at d k).name ∷ []) after.names_are ∙ sym (names-more d k);
        sides_are = rw number (ap (λ l. l ++ side_at d k) after.sides_are ∙ sym (sides-more d k));
        lists_are = refl;
        count_is = refl;
        few = few;
      },
      refl,
    )

-- The rows by what is kept are those by the header.
pub dense-is : (roles : RoleColumns) (table : Grid) (s : DenseState) (numbers : List ℕ) (default : RowType) (v : VariableList) → s.numbers ≡ numbers → s.default ≡ default → s.variables ≡ v
    → dense_now roles table s ≡ record { columns = roles.variables; variables = numbers; arcs = v.arcs.count; default = default; rows = map (dense_row roles) table.rows }
dense-is roles table s numbers default v en ed ev = rw (en, ed, ev) refl
