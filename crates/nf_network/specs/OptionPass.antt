-- For a proof alone: the faults and gifts of options, by the nodes so far.
-- The promise of the pass over the options rests on it.
use Rattle.std.specs.Prelude.{not, Option, None, Some, codes}
use Rattle.nf_frac.specs.declared.amount.Amount.{Amount}
use Rattle.nf_cells.specs.Names.{Name, has_name, place_of}
use Rattle.nf_cells.specs.declared.values.Cell.TheVariants.{Is}
use Rattle.nf_cells.specs.declared.values.Supply.TheVariants as supply
use Rattle.nf_program.specs.declared.program.ProcOptions.{ProcOptions}
use Rattle.nf_roles.specs.declared.fault.DataFault.{DataFault}
use Rattle.nf_roles.specs.declared.fault.DataKind.TheVariants as kind
use Rattle.nf_roles.specs.First.{or_else}
use Rattle.nf_network.specs.Faults.{is_other}
use Rattle.nf_network.specs.NodeData.{negated, option_fault}
use Rattle.nf_network.specs.Nodes.{NodeList, given_at}
use Rattle.nf_network.specs.Given.{given_after}

-- The fault of the amount that an option gives a node.
abbrev pub gift_fault_now : NodeList → Name → Name → Option Amount → Option DataFault
gift_fault_now ns column n None = None
gift_fault_now ns column n (Some a) = option_fault (is_other (given_at ns n) (Is (supply.Amount a))) column kind.TwoSupplies

-- The fault of an option that names a node, with the amount of another.
abbrev pub option_fault_now : NodeList → Name → Option Name → Option Amount → Option DataFault
option_fault_now ns column None a = None
option_fault_now ns column (Some n) a = or_else (option_fault (not (has_name n ns.names)) column kind.UnknownSource) (gift_fault_now ns column n a)

-- The nodes after it.
abbrev pub option_given : NodeList → Option Name → Option Amount → NodeList
option_given ns None a = ns
option_given ns (Some n) None = ns
option_given ns (Some n) (Some a) = given_after ns (place_of n ns.names) (Is (supply.Amount a))

-- The first fault of both options, and the nodes after both.
abbrev pub options_fault_now : NodeList → ProcOptions → Option DataFault
options_fault_now ns o =
    or_else (option_fault_now ns (codes "SOURCE") o.source o.supply)
    (option_fault_now (option_given ns o.source o.supply) (codes "SINK") o.sink (negated o.demand))

abbrev pub options_given : NodeList → ProcOptions → NodeList
options_given ns o = option_given (option_given ns o.source o.supply) o.sink (negated o.demand)
