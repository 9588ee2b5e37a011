-- What NODEDATA and the options SOURCE=, SINK=, SUPPLY= and DEMAND= add to the arcs, and their faults.
-- The network and the promise of its first fault rest on them.
use Rattle.std.specs.Prelude.{◌++◌, ℕ, neg_ℤ, Bool, false, not, List, [], ◌∷◌, Option, Some, None, if◌then◌else◌, length, map, take, get_or, codes}
use Rattle.std.specs.Bool.{nat_lt}
use Rattle.std.specs.List.{flat_map}
use Rattle.std.specs.Str.{bytes_eq}
use Rattle.nf_frac.specs.declared.amount.Amount.{Amount}
use Rattle.nf_cells.specs.Names.{Name, first_seen, has_name, with_name}
use Rattle.nf_cells.specs.declared.values.Cell.TheVariants.{Missing, Is}
use Rattle.nf_cells.specs.declared.values.Supply.TheVariants as supply
use Rattle.nf_program.specs.declared.program.ProcOptions.{ProcOptions}
use Rattle.nf_program.specs.declared.program.Role.TheVariants as role
use Rattle.nf_program.specs.declared.program.SetName.TheVariants as set
use Rattle.nf_roles.specs.declared.fault.CellFault.{CellFault}
use Rattle.nf_roles.specs.declared.fault.DataFault.{DataFault}
use Rattle.nf_roles.specs.declared.fault.DataKind.{DataKind}
use Rattle.nf_roles.specs.declared.fault.DataKind.TheVariants as kind
use Rattle.nf_roles.specs.First.{fault_if, first_of, first_row_fault, or_else}
use Rattle.nf_network.specs.Rows.{ArcRow, NodeRow}
use Rattle.nf_network.specs.Arcs.{said, ends, Gift, gift, gifts, given}
use Rattle.nf_network.specs.Faults.{is_said, is_other, excess, most_nodes, gift_faults}

-- The node of a row of NODEDATA.
abbrev pub node_name : NodeRow → Name
node_name r = said [] r.node

-- The nodes in their order: ARCDATA row by row, the tail before the head, and then NODEDATA.
abbrev pub all_nodes : List ArcRow → List NodeRow → List Name
all_nodes arcs nodes = first_seen (ends arcs ++ map node_name nodes)

-- A row of NODEDATA gives its SUPDEM to its node.
abbrev pub node_gift : NodeRow → List Gift
node_gift r = gift (node_name r) r.supdem

-- All gifts of the rows, in their order.
abbrev pub all_gifts : List ArcRow → List NodeRow → List Gift
all_gifts arcs nodes = gifts arcs ++ flat_map node_gift nodes

-- A row of NODEDATA below these rows.
abbrev pub node_row_faults : List ArcRow → List NodeRow → NodeRow → List (Option CellFault)
node_row_faults arcs above r =
    fault_if (not (is_said r.node)) role.Node kind.BadName
    ∷ fault_if (bytes_eq (node_name r) excess) role.Node kind.ReservedName
    ∷ fault_if (has_name (node_name r) (map node_name above)) role.Node kind.RepeatedNode
    ∷ fault_if (nat_lt most_nodes (length (with_name (all_nodes arcs above) (node_name r)))) role.Node kind.LimitPassed
    ∷ gift_faults role.Supdem (given (all_gifts arcs above) (node_name r)) r.supdem

-- A row of which every cell is missing.
abbrev pub no_node_row : NodeRow
no_node_row = record { node = Missing; supdem = Missing }

-- The fault of row k of NODEDATA, counted from 0.
unfoldable pub node_fault_at : List ArcRow → List NodeRow → ℕ → Option CellFault
node_fault_at arcs rows k = first_of (node_row_faults arcs (take k rows) (get_or rows k no_node_row))

-- The first fault of NODEDATA.
abbrev pub first_node_fault : List ArcRow → List NodeRow → Option (ℕ × CellFault)
first_node_fault arcs rows = first_row_fault (length rows) (node_fault_at arcs rows)

-- ---- the options
-- A node that an option names is given the amount of another option, where that is there.
abbrev pub option_gift : Option Name → Option Amount → List Gift
option_gift None a = []
option_gift (Some n) None = []
option_gift (Some n) (Some a) = record { node = n; value = supply.Amount a } ∷ []

-- A demand is a supply of the opposite sign.
abbrev pub negated : Option Amount → Option Amount
negated None = None
negated (Some a) = Some (record { thousandths = neg_ℤ a.thousandths })

-- SUPPLY= is given to SOURCE=, and then DEMAND= to SINK=.
abbrev pub source_gift : ProcOptions → List Gift
source_gift o = option_gift o.source o.supply

abbrev pub sink_gift : ProcOptions → List Gift
sink_gift o = option_gift o.sink (negated o.demand)

-- All that the nodes are given.
abbrev pub gifts_to : ProcOptions → List ArcRow → List NodeRow → List Gift
gifts_to o arcs nodes = (all_gifts arcs nodes ++ source_gift o) ++ sink_gift o

-- An option names no node.
abbrev pub is_unknown : List Name → Option Name → Bool
is_unknown nodes None = false
is_unknown nodes (Some n) = not (has_name n nodes)

-- The gift of an option is another than what its node was given before.
abbrev pub gift_differs : List Gift → List Gift → Bool
gift_differs before [] = false
gift_differs before (g ∷ gs) = is_other (given before g.node) (Is g.value)

-- A fault of an option stands in row 0 of PROC.
abbrev pub option_fault : Bool → Name → DataKind → Option DataFault
option_fault fails column k = if fails then Some (record { set = set.Proc; row = 0; column = column; kind = k }) else None

-- The faults of an option that names a node, where these gifts came before its own.
abbrev pub option_faults : List Name → Name → Option Name → List Gift → List Gift → Option DataFault
option_faults nodes column named before own =
    or_else (option_fault (is_unknown nodes named) column kind.UnknownSource) (option_fault (gift_differs before own) column kind.TwoSupplies)

-- The first fault of the options: of SOURCE=, then of SINK=.
abbrev pub first_option_fault : ProcOptions → List ArcRow → List NodeRow → Option DataFault
first_option_fault o arcs nodes =
    or_else (option_faults (all_nodes arcs nodes) (codes "SOURCE") o.source (all_gifts arcs nodes) (source_gift o))
    (option_faults (all_nodes arcs nodes) (codes "SINK") o.sink (all_gifts arcs nodes ++ source_gift o) (sink_gift o))
