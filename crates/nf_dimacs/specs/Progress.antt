-- For a proof alone: what was read of the lines up to one.
-- The promise of `read_lines`, and by it that of `read_dimacs`, rests on it.
use Rattle.std.specs.Prelude.{◌≡◌, ◌<◌, ◌≤◌, ◌*◌, ◌^◌, ℕ, suc, ◌+◌, ◌-◌, List, [], ◌++◌, length, Option, None, ℤ, pos, unsigned_abs, get_or}
use Rattle.nf_io.specs.Held.{most_bytes}
use Rattle.nf_dimacs.specs.declared.line.Arc.{Arc}
use Rattle.nf_dimacs.specs.declared.line.Line.{Line}
use Rattle.nf_dimacs.specs.declared.line.Size.{Size}
use Rattle.nf_dimacs.specs.declared.reading.Reading.{Reading}
use Rattle.nf_dimacs.specs.Faults.{first_fault, most_nodes}
use Rattle.nf_dimacs.specs.Says.{size_of, supplies_of, arcs_of, flow_of, total_of}
use Rattle.nf_dimacs.specs.Tables.{nodes_in}

-- The supply of a node in a list by number.
abbrev pub given_at : List (Option ℤ) → ℤ → Option ℤ
given_at supplies node = get_or supplies (unsigned_abs node - 1) None

-- The lines say these counts, supplies by node, arcs and total.
pub record Say (lines : List Line) (size : Option Size) (supplies : List (Option ℤ)) (arcs : List Arc) (total : ℤ) : Type 0 where
  pub size_is : size ≡ size_of lines
  pub nodes : length supplies ≡ nodes_in size
  pub few : length supplies ≤ most_nodes
  pub given : (node : ℕ) → node < length supplies → get_or supplies node None ≡ flow_of (supplies_of lines) (pos (suc node))
  pub arcs_are : arcs ≡ arcs_of lines
  pub total_is : total ≡ total_of (supplies_of lines)
  pub counts_first : size ≡ None → supplies_of lines ≡ []

-- The lines were read.
pub record HasRead (lines : List Line) (r : Reading) : Type 0 where
  pub count : r.lines ≡ length lines
  pub say : Say lines r.size r.supplies.items r.arcs.items r.balance

-- So many supplies have no greater total.
abbrev pub IsSmall : ℤ → ℕ → Type 0
IsSmall total lines = unsigned_abs total ≤ lines * 2 ^ 31

-- Of all lines those before were read, which have no fault, and the rest are to come.
pub record ReadOn (all rest : List Line) (r : Reading) : Type 0 where
  pub before : List Line
  pub parts : all ≡ before ++ rest
  pub read : HasRead before r
  pub same : first_fault [] all ≡ first_fault before rest
  pub small : IsSmall r.balance r.lines
  pub few : r.lines + length rest ≤ most_bytes
