-- The faults of the rows of ARCDATA, in the order in which they are looked for.
-- The promise of `network` to tell the first fault rests on them.
use Rattle.std.specs.Prelude.{◌++◌, ℕ, Bool, true, false, not, List, [], ◌∷◌, Option, Some, None, length, take, get_or, codes}
use Rattle.std.specs.Bool.{nat_lt, nat_le}
use Rattle.std.specs.List.{list_any}
use Rattle.std.specs.Str.{bytes_eq}
use lib.Signed.{lt_z}
use Rattle.nf_frac.specs.declared.amount.Amount.{Amount}
use Rattle.nf_cells.specs.Names.{Name, with_name}
use Rattle.nf_cells.specs.declared.values.Cell.{Cell}
use Rattle.nf_cells.specs.declared.values.Cell.TheVariants.{Missing, Bad, Is}
use Rattle.nf_cells.specs.declared.values.Bound.{Bound}
use Rattle.nf_cells.specs.declared.values.Bound.TheVariants.{Finite, Infinite}
use Rattle.nf_cells.specs.declared.values.Supply.{Supply}
use Rattle.nf_program.specs.declared.program.Role.{Role}
use Rattle.nf_program.specs.declared.program.Role.TheVariants as role
use Rattle.nf_roles.specs.declared.fault.CellFault.{CellFault}
use Rattle.nf_roles.specs.declared.fault.DataKind.TheVariants as kind
use Rattle.nf_roles.specs.First.{fault_if, first_of, first_row_fault}
use Rattle.nf_network.specs.declared.rows.Defaults.{Defaults}
use Rattle.nf_network.specs.Rows.{ArcRow}
use Rattle.nf_network.specs.Arcs.{said, tail_of, head_of, same_arc, figures_of, nodes_in, gift, gifts, given, same_supply}

-- A cell has a value that is not of its kind.
abbrev pub is_bad : {A : Type 0} → Cell A → Bool
is_bad Missing = false
is_bad Bad = true
is_bad (Is x) = false

-- A cell says a value.
abbrev pub is_said : {A : Type 0} → Cell A → Bool
is_said Missing = false
is_said Bad = false
is_said (Is x) = true

-- The name of the node that takes and gives what is too much or too little.
abbrev pub excess : Name
excess = codes "_EXCESS_"

-- The most nodes of the data, and the most rows of ARCDATA.
abbrev pub most_nodes : ℕ
most_nodes = 20_000

abbrev pub most_arcs : ℕ
most_arcs = 200_000

-- A cell that names a node, where these are the nodes so far.
abbrev pub node_faults : Role → List Name → Cell Name → List (Option CellFault)
node_faults r nodes cell =
    fault_if (not (is_said cell)) r kind.BadName
    ∷ fault_if (bytes_eq (said [] cell) excess) r kind.ReservedName
    ∷ fault_if (nat_lt most_nodes (length (with_name nodes (said [] cell)))) r kind.LimitPassed
    ∷ []

-- The name of an arc, which may repeat an earlier arc.
abbrev pub name_faults : ArcRow → Bool → List (Option CellFault)
name_faults r repeats =
    fault_if (is_bad r.name) role.ArcName kind.BadName
    ∷ fault_if repeats role.ArcName kind.RepeatedArc
    ∷ []

-- An upper bound is less than a lower bound.
abbrev pub are_crossed : Amount → Bound → Bool
are_crossed lower (Finite upper) = lt_z upper.thousandths lower.thousandths
are_crossed lower Infinite = false

-- The figures of an arc; with the defaults its bounds may cross.
abbrev pub figure_faults : Defaults → ArcRow → List (Option CellFault)
figure_faults d r =
    fault_if (is_bad r.cost) role.Cost kind.Amount
    ∷ fault_if (is_bad r.lower) role.Lo kind.Amount
    ∷ fault_if (is_bad r.capacity) role.Capacity kind.Amount
    ∷ fault_if (are_crossed (figures_of d r).lower (figures_of d r).upper) role.Capacity kind.CrossedBounds
    ∷ []

-- A cell gives a value that is another than the one given before.
abbrev pub is_other : Option Supply → Cell Supply → Bool
is_other (Some v) (Is w) = not (same_supply v w)
is_other (Some v) Missing = false
is_other (Some v) Bad = false
is_other None cell = false

-- A cell that gives a node a value, where this was given before.
abbrev pub gift_faults : Role → Option Supply → Cell Supply → List (Option CellFault)
gift_faults r before cell =
    fault_if (is_bad cell) r kind.Amount
    ∷ fault_if (is_other before cell) r kind.TwoSupplies
    ∷ []

-- A row of ARCDATA below these rows.
abbrev pub arc_faults : Defaults → List ArcRow → ArcRow → List (Option CellFault)
arc_faults d above r =
    fault_if (nat_le most_arcs (length above)) role.TailNode kind.LimitPassed
    ∷ node_faults role.TailNode (nodes_in above) r.tail
    ++ node_faults role.HeadNode (with_name (nodes_in above) (tail_of r)) r.head
    ++ name_faults r (list_any (same_arc r) above)
    ++ figure_faults d r
    ++ gift_faults role.Supply (given (gifts above) (tail_of r)) r.supply
    ++ gift_faults role.Demand (given (gifts above ++ gift (tail_of r) r.supply) (head_of r)) r.demand

-- A row of which every cell is missing.
abbrev pub empty_row : ArcRow
empty_row = record { tail = Missing; head = Missing; name = Missing; cost = Missing; lower = Missing; capacity = Missing; supply = Missing; demand = Missing }

-- The fault of row k of ARCDATA, counted from 0: the first of its faults.
unfoldable pub arc_fault_at : Defaults → List ArcRow → ℕ → Option CellFault
arc_fault_at d rows k = first_of (arc_faults d (take k rows) (get_or rows k empty_row))

-- The first fault of ARCDATA: that of the first row that has one.
abbrev pub first_arc_fault : Defaults → List ArcRow → Option (ℕ × CellFault)
first_arc_fault d rows = first_row_fault (length rows) (arc_fault_at d rows)
