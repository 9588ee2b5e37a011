-- The cost and bounds of nonarc variables, and where bounds that cross are reported.
-- The columns of nonarc variables and the fault CrossedBounds of CONDATA rest on these words.
use Rattle.std.specs.Prelude.{◌+◌, ℕ, Bool, false, Option, Some, None, List, length, get_or, if◌then◌else◌, unwrap_or}
use Rattle.std.specs.Bool.{nat_lt}
use Rattle.nf_frac.specs.declared.amount.Amount.{Amount}
use Rattle.nf_cells.specs.declared.values.Bound.{Bound}
use Rattle.nf_cells.specs.declared.values.Bound.TheVariants as bound
use Rattle.nf_program.specs.declared.program.ProcOptions.{ProcOptions}
use Rattle.nf_roles.specs.declared.fault.DataKind.TheVariants as kind
use Rattle.nf_roles.specs.First.{first_below}
use Rattle.nf_network.specs.Faults.{are_crossed}
use Rattle.nf_network.specs.Network.{defaults_of}
use Rattle.nf_cons.specs.declared.places.Home.{Home}
use Rattle.nf_cons.specs.declared.places.DataColumn.TheVariants.{Column}
use Rattle.nf_cons.specs.declared.places.RowFault.{RowFault}
use Rattle.nf_cons.specs.declared.taken.Figures.{Figures}
use Rattle.nf_cons.specs.declared.value.Value.{Value}
use Rattle.nf_cons.specs.declared.value.Value.TheVariants.{Finite, NoUpper, NoLower}
use Rattle.nf_cons.specs.Terms.{TermLists, gift_to}

-- What a nonarc variable has if no row gives it: the same as an arc.
abbrev pub nonarc_defaults : ProcOptions → Figures
nonarc_defaults o = record { cost = (defaults_of o).cost; lower = Some (defaults_of o).lower; upper = (defaults_of o).upper }

-- The cost that a row gives, or else a default.
abbrev pub cost_or : Amount → Option (Value × ℕ) → Amount
cost_or default None = default
cost_or default (Some (Finite a, row)) = a
cost_or default (Some (NoUpper, row)) = default
cost_or default (Some (NoLower, row)) = default

-- The lower bound that a LOWERBD row gives, which may be none, or else a default.
abbrev pub lower_or : Option Amount → Option (Value × ℕ) → Option Amount
lower_or default None = default
lower_or default (Some (Finite a, row)) = Some a
lower_or default (Some (NoUpper, row)) = default
lower_or default (Some (NoLower, row)) = None

-- The upper bound that an UPPERBD row gives, which may be none, or else a default.
abbrev pub upper_or : Bound → Option (Value × ℕ) → Bound
upper_or default None = default
upper_or default (Some (Finite a, row)) = bound.Finite a
upper_or default (Some (NoUpper, row)) = bound.Infinite
upper_or default (Some (NoLower, row)) = default

-- The cost and bounds of a nonarc variable.
abbrev pub figures_of : Figures → TermLists → ℕ → Figures
figures_of d ls v = record {
  cost = cost_or d.cost (gift_to v ls.costs);
  lower = lower_or d.lower (gift_to v ls.lowers);
  upper = upper_or d.upper (gift_to v ls.uppers);
}

-- Bounds cross if both are there, and the upper one is less than the lower one.
abbrev pub bounds_cross : Option Amount → Bound → Bool
bounds_cross None upper = false
bounds_cross (Some lower) upper = are_crossed lower upper

-- The later of the rows of two gifts.
abbrev pub later_row : Option (Value × ℕ) → Option (Value × ℕ) → Option ℕ
later_row None None = None
later_row None (Some h) = Some h.1
later_row (Some g) None = Some g.1
later_row (Some g) (Some h) = Some (if nat_lt g.1 h.1 then h.1 else g.1)

-- The last row that gave a bound of a variable: each bound is given once.
abbrev pub bound_row : TermLists → ℕ → Option ℕ
bound_row ls v = later_row (gift_to v ls.lowers) (gift_to v ls.uppers)

-- Bounds that cross are reported in the last row that gave one, or else where the variable first stands.
abbrev pub crossed_at : Home → Option ℕ → RowFault
crossed_at home row = record { row = unwrap_or row home.row; fault = record { place = home.place; kind = kind.CrossedBounds } }

abbrev pub no_home : Home
no_home = record { row = 0; place = Column 0 }

-- The fault of the bounds of nonarc variable k, from 0, where so many arcs come before.
abbrev pub bound_fault_at : ℕ → Figures → List Home → TermLists → ℕ → Option RowFault
bound_fault_at arcs d hs ls k =
    let f = figures_of d ls (arcs + k) in
    if bounds_cross f.lower f.upper then Some (crossed_at (get_or hs k no_home) (bound_row ls (arcs + k))) else None

-- The first fault of bounds, by the number of the variable.
abbrev pub first_bound_fault : ℕ → Figures → List Home → TermLists → Option RowFault
first_bound_fault arcs d hs ls = first_below (length hs) (bound_fault_at arcs d hs ls)
