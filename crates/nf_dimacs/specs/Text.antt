-- A DIMACS text: its first fault, and the tables of its problem.
-- The contract of `read_dimacs` rests on it.
use Rattle.std.specs.Prelude.{◌≡◌, ℕ, List, length, Option, Some, None, if◌then◌else◌}
use Rattle.std.specs.Bool.{nat_lt}
use Rattle.nf_io.specs.Held.{most_bytes}
use Rattle.nf_dimacs.specs.declared.fault.DimacsFault.{DimacsFault}
use Rattle.nf_dimacs.specs.declared.fault.DimacsKind.TheVariants as kind
use Rattle.nf_dimacs.specs.declared.tables.DimacsTables.{DimacsTables}
use Rattle.nf_dimacs.specs.Faults.{fault_at, fault_in}
use Rattle.nf_dimacs.specs.Says.{said_by, size_of, supplies_of, arcs_of}
use Rattle.nf_dimacs.specs.Tables.{arcs_table, nodes_table}

-- The first fault of a text.
abbrev pub fault_of : List ℕ → Option DimacsFault
fault_of text = if nat_lt most_bytes (length text) then Some (fault_at 0 kind.TooLong) else fault_in (said_by text)

-- The text has no fault, and these are the tables of its problem.
pub record AreTables (text : List ℕ) (t : DimacsTables) : Type 0 where
  pub sound : fault_of text ≡ None
  pub arcs : t.arcs ≡ arcs_table (arcs_of (said_by text))
  pub nodes : t.nodes ≡ nodes_table (size_of (said_by text)) (supplies_of (said_by text))
