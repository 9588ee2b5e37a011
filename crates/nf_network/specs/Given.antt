-- For a proof alone: what naming a node and giving it a value leave.
-- The contracts of `Nodes` and of the passes over rows rest on it.
use Rattle.std.specs.Prelude.{◌≡◌, ◌<◌, ℕ, [], Some, None, length, get_or, slice_set}
use Rattle.nf_cells.specs.Names.{Name, place_of}
use Rattle.nf_cells.specs.declared.values.Cell.{Cell}
use Rattle.nf_cells.specs.declared.values.Cell.TheVariants.{Missing, Bad, Is}
use Rattle.nf_cells.specs.declared.values.Supply.{Supply}
use Rattle.nf_program.specs.declared.program.Role.{Role}
use Rattle.nf_roles.specs.First.{first_of}
use Rattle.nf_network.specs.Arcs.{said}
use Rattle.nf_network.specs.Faults.{node_faults, gift_faults}
use Rattle.nf_network.specs.Nodes.{NodeList, with_node}

-- There is one value for each node.
pub record IsEven (ns : NodeList) : Type 0 where
  pub same_length : length ns.given ≡ length ns.names

-- A cell names a node, which now has this number.
pub record IsNamed (r : Role) (old : NodeList) (cell : Cell Name) (new : NodeList) (number : ℕ) : Type 0 where
  pub clear : first_of (node_faults r old.names cell) ≡ None
  pub place : number ≡ place_of (said [] cell) old.names
  pub below : number < length new.names
  pub nodes : new ≡ with_node old (said [] cell)

-- The nodes after the node of a number is given what a cell says.
abbrev pub given_after : NodeList → ℕ → Cell Supply → NodeList
given_after ns i Missing = ns
given_after ns i Bad = ns
given_after ns i (Is v) = record { names = ns.names; given = slice_set ns.given i (Some v) }

-- A cell gave the node of a number what it says, and nothing is wrong with it.
pub record IsGiven (r : Role) (old : NodeList) (i : ℕ) (cell : Cell Supply) (new : NodeList) : Type 0 where
  pub clear : first_of (gift_faults r (get_or old.given i None) cell) ≡ None
  pub nodes : new ≡ given_after old i cell
