-- The excess arcs: which nodes send what is too much to the node `_EXCESS_`, and which get from it what is too little.
-- The network's columns, its last node and their names rest on these words.
use Rattle.std.specs.Prelude.{◌++◌, ◌||◌, ◌&&◌, ℕ, zero, suc, ℤ, pos, ◌+ℤ◌, Bool, true, false, not, List, [], ◌∷◌, Option, Some, None, if◌then◌else◌}
use Rattle.std.specs.List.{list_any, fold}
use Rattle.std.specs.Ordering.{int_eq}
use lib.Signed.{lt_z}
use Rattle.nf_cells.specs.declared.values.Supply.{Supply}
use Rattle.nf_cells.specs.declared.values.Supply.TheVariants.{Amount, OpenSupply, OpenDemand}
use Rattle.nf_network.specs.declared.excess.Balance.{Balance}

-- The lists f 0, f 1 and so on, below n, joined.
unfoldable pub joined_below : {A : Type 0} → ℕ → (ℕ → List A) → List A
joined_below zero f = []
joined_below (suc n) f = joined_below n f ++ f n

-- The thousandths of a node's value: 0 where it is given no amount.
abbrev pub thousandths_of : Option Supply → ℤ
thousandths_of None = pos 0
thousandths_of (Some (Amount a)) = a.thousandths
thousandths_of (Some OpenSupply) = pos 0
thousandths_of (Some OpenDemand) = pos 0

-- The total of the values.
abbrev pub total : List (Option Supply) → ℤ
total vs = fold (λ t v. t +ℤ thousandths_of v) (pos 0) vs

-- A value is open.
abbrev pub is_open_supply : Option Supply → Bool
is_open_supply None = false
is_open_supply (Some (Amount a)) = false
is_open_supply (Some OpenSupply) = true
is_open_supply (Some OpenDemand) = false

abbrev pub is_open_demand : Option Supply → Bool
is_open_demand None = false
is_open_demand (Some (Amount a)) = false
is_open_demand (Some OpenSupply) = false
is_open_demand (Some OpenDemand) = true

-- A value is more, or less, than 0.
abbrev pub is_positive : Option Supply → Bool
is_positive v = lt_z (pos 0) (thousandths_of v)

abbrev pub is_negative : Option Supply → Bool
is_negative v = lt_z (thousandths_of v) (pos 0)

-- The balance of the nodes' values.
abbrev pub balance_of : Bool → List (Option Supply) → Balance
balance_of thrunet vs = record { total = total vs; open_supply = list_any is_open_supply vs; open_demand = list_any is_open_demand vs; thrunet = thrunet }

-- A node sends to `_EXCESS_` where its demand is open; and, where the total is more than 0 and no demand is open, where its
-- value is more than 0, or under THRUNET less than 0.
abbrev pub sends : Balance → Option Supply → Bool
sends b v = is_open_demand v || (lt_z (pos 0) b.total && not b.open_demand && (if b.thrunet then is_negative v else is_positive v))

-- A node gets from `_EXCESS_` where its supply is open; and, where the total is less than 0 and no supply is open, where its
-- value is less than 0, or under THRUNET more than 0.
abbrev pub gets : Balance → Option Supply → Bool
gets b v = is_open_supply v || (lt_z b.total (pos 0) && not b.open_supply && (if b.thrunet then is_positive v else is_negative v))

-- An excess arc meets a node.
abbrev pub is_met : Balance → Option Supply → Bool
is_met b v = sends b v || gets b v

-- `_EXCESS_` is there where an arc meets it, or the total is not 0.
abbrev pub has_excess : Balance → List (Option Supply) → Bool
has_excess b vs = list_any (is_met b) vs || not (int_eq b.total (pos 0))

-- What there is for each excess arc of a node: for one that leads to `_EXCESS_`, and for one that leads from it.
abbrev pub for_each : {A : Type 0} → Balance → Option Supply → A → A → List A
for_each b v to from = (if sends b v then to ∷ [] else []) ++ (if gets b v then from ∷ [] else [])
