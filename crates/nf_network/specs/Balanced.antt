-- For a proof alone: a balance with one more value, and how far from 0 the total of some values can be.
-- The pass that finds the balance of the nodes rests on it.
use Rattle.std.specs.Prelude.{◌≤◌, ◌*◌, ◌^◌, ◌||◌, ℕ, ℤ, ◌+ℤ◌, Option, unsigned_abs}
use Rattle.nf_cells.specs.declared.values.Supply.{Supply}
use Rattle.nf_network.specs.declared.excess.Balance.{Balance}
use Rattle.nf_network.specs.Excess.{is_open_demand, is_open_supply, thousandths_of}

-- The balance with one more value.
abbrev pub with_value : Balance → Option Supply → Balance
with_value b v = record
    { total = b.total +ℤ thousandths_of v; open_supply = b.open_supply || is_open_supply v; open_demand = b.open_demand || is_open_demand v; thrunet = b.thrunet }

-- The total of n amounts: each is a whole number of 64 bits.
abbrev pub IsWithin : ℕ → ℤ → Type 0
IsWithin n total = unsigned_abs total ≤ n * 2 ^ 63
