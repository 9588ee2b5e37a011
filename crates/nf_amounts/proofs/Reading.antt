-- What is read as an amount is one, and so is what cells, rows and gifts say.
use Rattle.std.proofs.Common.{◌≡◌, ◌==◌, ◌&&◌, ℕ, ◌+◌, ◌-◌, ◌*◌, ◌^◌, ◌≤◌, ℤ, pos, neg_ℤ, unsigned_abs, Bool, true, false, cond, List, [], ◌∷◌, length, map, Option, Some, None, Result, Ok, Err, IfOk, IfSome, option_map, codes, refl, sym, subst, arith}
use Rattle.std.specs.Bool.{nat_le}
use Rattle.std.specs.List.{All, flat_map, position_or_len, before_first, after_first}
use Rattle.std.specs.Result.{result_ok}
use Rattle.std.proofs.lemmas.Bool.{leb-true}
use Rattle.std.proofs.lemmas.List.Elements.{All-nil, All-cons, All-head, All-tail, All-append}
use Rattle.nf_num.proofs.Reduce.{abs-neg}
use Rattle.nf_frac.specs.Digits.{are_digits, decimal_value}
use Rattle.nf_frac.specs.Amounts.{IsAmount, most_thousandths, is_point, whole_read, parts_read, magnitude_read, signed_amount, amount_read}
use Rattle.nf_frac.specs.declared.amount.Amount.{Amount}
use Rattle.nf_frac.specs.declared.amount.AmountFault.{AmountFault}
use Rattle.nf_frac.specs.declared.amount.AmountFault.TheVariants as fault
use Rattle.nf_frac.proofs.AmountFacts.{whole_small, rest_small}
use Rattle.std.specs.Str.{bytes_eq, str_eq_ignore_ascii_case}
use Rattle.nf_cells.specs.Cells.{value_of, is_blank}
use Rattle.nf_cells.specs.Names.{Name}
use Rattle.nf_cells.specs.Values.{value_or_bad, cell_by, amount_of, amount_in, bound_of, bound_in, may_supply, may_demand, is_open_supply, is_open_demand, as_supply, supply_of, supply_in}
use Rattle.nf_cells.specs.declared.values.Cell.{Cell}
use Rattle.nf_cells.specs.declared.values.Cell.TheVariants.{Missing, Bad, Is}
use Rattle.nf_cells.specs.declared.values.Bound.{Bound as CellBound}
use Rattle.nf_cells.specs.declared.values.Bound.TheVariants.{Finite, Infinite}
use Rattle.nf_cells.specs.declared.values.Supply.{Supply}
use Rattle.nf_cells.specs.declared.values.Supply.TheVariants as supply
use Rattle.nf_cells.specs.declared.values.Gives.{Gives}
use Rattle.nf_cells.specs.declared.values.Gives.TheVariants as gives
use Rattle.nf_table.specs.Grid.{Cells}
use Rattle.nf_program.specs.declared.program.ProcOptions.{ProcOptions}
use Rattle.nf_program.specs.declared.program.Role.TheVariants as role
use Rattle.nf_roles.specs.Roles.{RoleColumns, cell_for}
use Rattle.nf_network.specs.Rows.{arc_row, node_row, arc_rows, node_rows}
use Rattle.nf_network.specs.Arcs.{Gift, said, gift, gifts, gifts_of, given}
use Rattle.nf_network.specs.NodeData.{node_gift, option_gift, negated, source_gift, sink_gift, gifts_to}
use Rattle.nf_network.specs.Excess.{thousandths_of}
use Rattle.nf_cons.specs.declared.value.Value.{Value}
use Rattle.nf_cons.specs.declared.value.Value.TheVariants as value
use Rattle.nf_cons.specs.Values.{value_in, value_read}
use Rattle.nf_amounts.specs.Laws.{HasOptionAmounts}

-- ---- amounts of texts
whole_range : (ds : List ℕ) → IfOk (whole_read ds) (λ n. n ≤ most_thousandths)
whole_range ds = of (are_digits ds) (nat_le (length ds) 9) refl refl
  where
    of : (a b : Bool) → are_digits ds ≡ a → nat_le (length ds) 9 ≡ b → IfOk (cond a (cond b (Ok (decimal_value ds * 1000)) (Err fault.Wide)) (Err fault.Form)) (λ n. n ≤ most_thousandths)
    of true true h k = let s = whole_small ds h (leb-true (length ds) 9 k) in omega arith
    of true false h k = tt
    of false b h k = tt

parts_range : (whole rest : List ℕ) → IfOk (parts_read whole rest) (λ n. n ≤ most_thousandths)
parts_range whole rest = of (are_digits whole) (are_digits rest) (nat_le (length whole) 9) (nat_le (length rest) 3) refl refl refl refl
  where
    of : (a b c d : Bool) → are_digits whole ≡ a → are_digits rest ≡ b → nat_le (length whole) 9 ≡ c → nat_le (length rest) 3 ≡ d
        → IfOk (cond (a && b) (cond (c && d) (Ok (decimal_value whole * 1000 + decimal_value rest * 10 ^ (3 - length rest))) (Err fault.Wide)) (Err fault.Form)) (λ n. n ≤ most_thousandths)
    of true true true true h i j k = let s = whole_small whole h (leb-true (length whole) 9 j) in let t = rest_small rest i (leb-true (length rest) 3 k) in omega arith
    of true true true false h i j k = tt
    of true true false d h i j k = tt
    of true false c d h i j k = tt
    of false b c d h i j k = tt

magnitude_range : (text : List ℕ) → IfOk (magnitude_read text) (λ n. n ≤ most_thousandths)
magnitude_range text = of (position_or_len is_point text == length text)
  where
    of : (b : Bool) → IfOk (cond b (whole_read text) (parts_read (before_first is_point text) (after_first is_point text))) (λ n. n ≤ most_thousandths)
    of true = whole_range text
    of false = parts_range (before_first is_point text) (after_first is_point text)

signed_range : (sign : ℕ → ℤ) (r : Result ℕ AmountFault) → ((n : ℕ) → unsigned_abs (sign n) ≡ n) → IfOk r (λ n. n ≤ most_thousandths) → IfOk (signed_amount sign r) IsAmount
signed_range sign (Ok n) same h = subst (λ k. k ≤ most_thousandths) (sym (same n)) h
signed_range sign (Err e) same h = tt

pub amount_range : (text : List ℕ) → IfOk (amount_read text) IsAmount
unfolding amount_read
amount_range [] = tt
amount_range (b ∷ text) = of (b == 45)
  where
    of : (c : Bool) → IfOk (cond c (signed_amount (λ n. neg_ℤ (pos n)) (magnitude_read text)) (signed_amount pos (magnitude_read (b ∷ text)))) IsAmount
    of true = signed_range (λ n. neg_ℤ (pos n)) (magnitude_read text) (λ n. abs-neg (pos n)) (magnitude_range text)
    of false = signed_range pos (magnitude_read (b ∷ text)) (λ n. refl) (magnitude_range (b ∷ text))

-- ---- cells
-- A bound of the data is infinite, or an amount that a text can write.
abbrev pub IsCellBound : CellBound → Type 0
IsCellBound (Finite a) = IsAmount a
IsCellBound Infinite = Unit {0}

amount_some : (r : Result Amount AmountFault) → IfOk r IsAmount → IfSome (result_ok r) IsAmount
amount_some (Ok a) h = h
amount_some (Err e) h = tt

pub amount_of_range : (v : List ℕ) → IfSome (amount_of v) IsAmount
amount_of_range v = amount_some (amount_read v) (amount_range v)

bound_of_range : (v : List ℕ) → IfSome (bound_of v) IsCellBound
bound_of_range v = of (str_eq_ignore_ascii_case v (codes "INF")) (amount_of v) (amount_of_range v)
  where
    of : (b : Bool) (o : Option Amount) → IfSome o IsAmount → IfSome (cond b (Some Infinite) (option_map Finite o)) IsCellBound
    of true o h = tt
    of false None h = tt
    of false (Some a) h = h

-- A supply is open, or an amount that a text can write.
abbrev pub IsSupply : Supply → Type 0
IsSupply (supply.Amount a) = IsAmount a
IsSupply supply.OpenSupply = Unit {0}
IsSupply supply.OpenDemand = Unit {0}

turned_amount : (a : Amount) → IsAmount a → IsAmount (record { thousandths = neg_ℤ a.thousandths })
turned_amount a h = subst (λ n. n ≤ most_thousandths) (sym (abs-neg a.thousandths)) h

as_supply_range : (g : Gives) (a : Amount) → IsAmount a → IsAmount (as_supply g a)
as_supply_range gives.Supply a h = h
as_supply_range gives.Demand a h = turned_amount a h
as_supply_range gives.Either a h = h

supply_of_range : (g : Gives) (v : List ℕ) → IfSome (supply_of g v) IsSupply
supply_of_range g v = of (may_supply g && is_open_supply v) (may_demand g && is_open_demand v) (amount_of v) (amount_of_range v)
  where
    of : (a b : Bool) (o : Option Amount) → IfSome o IsAmount
        → IfSome (cond a (Some supply.OpenSupply) (cond b (Some supply.OpenDemand) (option_map (λ a. supply.Amount (as_supply g a)) o))) IsSupply
    of true b o h = tt
    of false true o h = tt
    of false false None h = tt
    of false false (Some a) h = as_supply_range g a h

-- What a cell says, with a default, is such a value.
pub cell_said : {A : Type 0} (P : A → Type 0) (read : List ℕ → Option A) (d : A) (cell : List ℕ) → ((v : List ℕ) → IfSome (read v) P) → P d → P (said d (cell_by read cell))
cell_said {A} P read d cell each pd = of (is_blank (value_of cell)) (read (value_of cell)) (each (value_of cell))
  where
    of : (b : Bool) (o : Option A) → IfSome o P → P (said d (cond b Missing (value_or_bad o)))
    of true o h = pd
    of false None h = pd
    of false (Some x) h = h

pub amount_said : (d : Amount) (cell : List ℕ) → IsAmount d → IsAmount (said d (amount_in cell))
amount_said d cell h = cell_said IsAmount amount_of d cell amount_of_range h

pub bound_said : (d : CellBound) (cell : List ℕ) → IsCellBound d → IsCellBound (said d (bound_in cell))
bound_said d cell h = cell_said IsCellBound bound_of d cell bound_of_range h

-- ---- gifts
abbrev pub IsGift : Gift → Type 0
IsGift g = IsSupply g.value

cell_gift : (node : Name) (g : Gives) (cell : List ℕ) → All IsGift (gift node (supply_in g cell))
cell_gift node g cell = of (is_blank (value_of cell)) (supply_of g (value_of cell)) (supply_of_range g (value_of cell))
  where
    of : (b : Bool) (o : Option Supply) → IfSome o IsSupply → All IsGift (gift node (cond b Missing (value_or_bad o)))
    of true o h = All-nil IsGift
    of false None h = All-nil IsGift
    of false (Some v) h = All-cons IsGift (record { node = node; value = v }) [] h (All-nil IsGift)

mapped_gifts : {R C : Type 0} (f : R → List Gift) (row : C → R) (cs : List C) → ((c : C) → All IsGift (f (row c))) → All IsGift (flat_map f (map row cs))
mapped_gifts f row [] h = All-nil IsGift
mapped_gifts f row (c ∷ cs) h = All-append IsGift (f (row c)) (flat_map f (map row cs)) (h c) (mapped_gifts f row cs h)

option_given : (n : Option Name) (a : Option Amount) → IfSome a IsAmount → All IsGift (option_gift n a)
option_given None a h = All-nil IsGift
option_given (Some n) None h = All-nil IsGift
option_given (Some n) (Some a) h = All-cons IsGift (record { node = n; value = supply.Amount a }) [] h (All-nil IsGift)

negated_range : (a : Option Amount) → IfSome a IsAmount → IfSome (negated a) IsAmount
negated_range None h = tt
negated_range (Some a) h = turned_amount a h

pub all_given : (o : ProcOptions) (arc_roles node_roles : RoleColumns) (arcs nodes : List Cells) → HasOptionAmounts o → All IsGift (gifts_to o (arc_rows arc_roles arcs) (node_rows node_roles nodes))
all_given o arc_roles node_roles arcs nodes has =
    All-append IsGift _ (sink_gift o)
    (All-append IsGift _ (source_gift o)
    (All-append IsGift (gifts (arc_rows arc_roles arcs)) (flat_map node_gift (node_rows node_roles nodes))
    (mapped_gifts gifts_of (arc_row arc_roles) arcs of_arc) (mapped_gifts node_gift (node_row node_roles) nodes of_node))
    (option_given o.source o.supply has.supply)) (option_given o.sink (negated o.demand) (negated_range o.demand has.demand))
  where
    of_arc : (c : Cells) → All IsGift (gifts_of (arc_row arc_roles c))
    of_arc c = All-append IsGift _ _ (cell_gift _ gives.Supply (cell_for arc_roles role.Supply c)) (cell_gift _ gives.Demand (cell_for arc_roles role.Demand c))

    of_node : (c : Cells) → All IsGift (node_gift (node_row node_roles c))
    of_node c = cell_gift _ gives.Either (cell_for node_roles role.Supdem c)

-- ---- the values of nodes
pub given_range : (gs : List Gift) (node : Name) → All IsGift gs → IfSome (given gs node) IsSupply
given_range [] node h = tt
given_range (g ∷ gs) node h = of (bytes_eq node g.node) (given_range gs node (All-tail IsGift g gs h))
  where
    of : (b : Bool) → IfSome (given gs node) IsSupply → IfSome (cond b (Some g.value) (given gs node)) IsSupply
    of true later = All-head IsGift g gs h
    of false later = later

pub thousandths_small : (v : Option Supply) → IfSome v IsSupply → unsigned_abs (thousandths_of v) ≤ most_thousandths
thousandths_small None h = omega arith
thousandths_small (Some (supply.Amount a)) h = h
thousandths_small (Some supply.OpenSupply) h = omega arith
thousandths_small (Some supply.OpenDemand) h = omega arith

-- ---- cells that say values of a kind
-- A cell says a value of which P holds, or none.
abbrev pub IsCellOf : {A : Type 0} → (A → Type 0) → Cell A → Type 0
IsCellOf P Missing = Unit {0}
IsCellOf P Bad = Unit {0}
IsCellOf P (Is x) = P x

cell_of : {A : Type 0} (P : A → Type 0) (read : List ℕ → Option A) (cell : List ℕ) → ((v : List ℕ) → IfSome (read v) P) → IsCellOf P (cell_by read cell)
cell_of {A} P read cell each = of (is_blank (value_of cell)) (read (value_of cell)) (each (value_of cell))
  where
    of : (b : Bool) (o : Option A) → IfSome o P → IsCellOf P (cond b Missing (value_or_bad o))
    of true o h = tt
    of false None h = tt
    of false (Some x) h = h

pub amount_cell : (cell : List ℕ) → IsCellOf IsAmount (amount_in cell)
amount_cell cell = cell_of IsAmount amount_of cell amount_of_range

-- The value of a cell of CONDATA is an amount that a text can write, or no bound.
abbrev pub IsValue : Value → Type 0
IsValue (value.Finite a) = IsAmount a
IsValue value.NoUpper = Unit {0}
IsValue value.NoLower = Unit {0}

value_range : (v : List ℕ) → IfSome (value_read v) IsValue
value_range v = of (str_eq_ignore_ascii_case v (codes "INF")) (str_eq_ignore_ascii_case v (codes "-INF")) (amount_of v) (amount_of_range v)
  where
    of : (b c : Bool) (o : Option Amount) → IfSome o IsAmount → IfSome (cond b (Some value.NoUpper) (cond c (Some value.NoLower) (option_map value.Finite o))) IsValue
    of true c o h = tt
    of false true o h = tt
    of false false None h = tt
    of false false (Some a) h = h

pub value_cell : (cell : List ℕ) → IsCellOf IsValue (value_in cell)
value_cell cell = cell_of IsValue value_read cell value_range
