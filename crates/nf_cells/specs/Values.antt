-- What a cell says: nothing, a value of the kind that is asked for, or another value.
-- The readers of rows rest on these words, and by them every fault of a cell.
use Rattle.std.specs.Prelude.{◌||◌, ◌&&◌, ℕ, neg_ℤ, Bool, true, false, List, Option, Some, None, option_map, if◌then◌else◌, codes}
use Rattle.std.specs.Borrow.{Bor}
use Rattle.std.specs.Result.{result_ok}
use Rattle.std.specs.Str.{bytes_eq, str_eq_ignore_ascii_case}
use Rattle.nf_frac.specs.declared.amount.Amount.{Amount}
use Rattle.nf_frac.specs.Amounts.{amount_read}
use Rattle.nf_cells.specs.Cells.{value_of, is_blank, is_name}
use Rattle.nf_cells.specs.Names.{Name}
use Rattle.nf_cells.specs.declared.values.Cell.{Cell}
use Rattle.nf_cells.specs.declared.values.Cell.TheVariants.{Missing, Bad, Is}
use Rattle.nf_cells.specs.declared.values.Bound.{Bound}
use Rattle.nf_cells.specs.declared.values.Bound.TheVariants.{Finite, Infinite}
use Rattle.nf_cells.specs.declared.values.Supply.{Supply}
use Rattle.nf_cells.specs.declared.values.Supply.TheVariants as supply
use Rattle.nf_cells.specs.declared.values.Gives.{Gives}
use Rattle.nf_cells.specs.declared.values.Gives.TheVariants as gives

-- A value that is not of its kind is bad.
abbrev pub value_or_bad : {A : Type 0} → Option A → Cell A
value_or_bad None = Bad
value_or_bad (Some x) = Is x

-- A cell says nothing where its value is missing, and else what is read from its value.
abbrev pub cell_by : {A : Type 0} → (List ℕ → Option A) → List ℕ → Cell A
cell_by read cell = if is_blank (value_of cell) then Missing else value_or_bad (read (value_of cell))

-- The name that a value is, and the name in a cell.
abbrev pub name_of : List ℕ → Option Name
name_of value = if is_name value then Some value else None

abbrev pub name_in : List ℕ → Cell Name
name_in = cell_by name_of

-- The amount that a value writes, and the amount in a cell.
abbrev pub amount_of : List ℕ → Option Amount
amount_of value = result_ok (amount_read value)

abbrev pub amount_in : List ℕ → Cell Amount
amount_in = cell_by amount_of

-- A bound is INF in any case, or an amount.
abbrev pub bound_of : List ℕ → Option Bound
bound_of value = if str_eq_ignore_ascii_case value (codes "INF") then Some Infinite else option_map Finite (amount_of value)

abbrev pub bound_in : List ℕ → Cell Bound
bound_in = cell_by bound_of

-- Which cells may give an open supply, and which an open demand.
abbrev pub may_supply : Gives → Bool
may_supply gives.Supply = true
may_supply gives.Demand = false
may_supply gives.Either = true

abbrev pub may_demand : Gives → Bool
may_demand gives.Supply = false
may_demand gives.Demand = true
may_demand gives.Either = true

-- The words of an open supply and of an open demand.
abbrev pub is_open_supply : List ℕ → Bool
is_open_supply value = bytes_eq value (codes ".S") || bytes_eq value (codes "S")

abbrev pub is_open_demand : List ℕ → Bool
is_open_demand value = bytes_eq value (codes ".D") || bytes_eq value (codes "D")

-- An amount as a supply: a demand is one of the opposite sign.
abbrev pub as_supply : Gives → Amount → Amount
as_supply gives.Supply a = a
as_supply gives.Demand a = record { thousandths = neg_ℤ a.thousandths }
as_supply gives.Either a = a

-- The supply that a value gives, and the supply in a cell.
abbrev pub supply_of : Gives → List ℕ → Option Supply
supply_of g value =
    if may_supply g && is_open_supply value then Some supply.OpenSupply
    else if may_demand g && is_open_demand value then Some supply.OpenDemand
    else option_map (λ a. supply.Amount (as_supply g a)) (amount_of value)

abbrev pub supply_in : Gives → List ℕ → Cell Supply
supply_in g = cell_by (supply_of g)

-- The bytes that a cell lends.
abbrev pub cell_now : Cell (Bor (List ℕ)) → Cell (List ℕ)
cell_now Missing = Missing
cell_now Bad = Bad
cell_now (Is x) = Is x.now
