-- The first fault of what the lines of a text say.
-- The fault that `read_dimacs` returns rests on it.
use Rattle.std.specs.Prelude.{ℕ, ◌+◌, ◌||◌, ◌&&◌, ◌==◌, not, Bool, List, [], ◌∷◌, ◌++◌, length, Option, Some, None, ℤ, pos, int_lt, int_le, unsigned_abs, if◌then◌else◌}
use Rattle.std.specs.Option.{option_map, option_or, is_some}
use Rattle.std.specs.Ordering.{int_eq}
use Rattle.nf_dimacs.specs.declared.fault.DimacsFault.{DimacsFault}
use Rattle.nf_dimacs.specs.declared.fault.DimacsKind.{DimacsKind}
use Rattle.nf_dimacs.specs.declared.fault.DimacsKind.TheVariants as kind
use Rattle.nf_dimacs.specs.declared.line.Line.{Line}
use Rattle.nf_dimacs.specs.declared.line.Line.TheVariants.{Skipped, Problem, Node, Arc as ArcLine, Bad}
use Rattle.nf_dimacs.specs.declared.line.Size.{Size}
use Rattle.nf_dimacs.specs.declared.line.Supply.{Supply}
use Rattle.nf_dimacs.specs.declared.line.Arc.{Arc}
use Rattle.nf_dimacs.specs.Says.{size_of, supplies_of, arcs_of, flow_of, total_of}

abbrev pub most_nodes : ℕ
most_nodes = 20_000

abbrev pub most_arcs : ℕ
most_arcs = 200_000

-- The fault of counts that are numbers.
abbrev pub size_fault : Size → Option DimacsKind
size_fault size =
    if int_lt size.nodes (pos 0) || int_lt size.arcs (pos 0) then Some kind.Number
    else (if int_lt (pos most_nodes) size.nodes || int_lt (pos most_arcs) size.arcs then Some kind.LimitPassed
    else None)

-- The fault of a `p` line after those before it, which have a `p` line or not.
abbrev pub problem_fault : Option Size → Option Size → Option DimacsKind
problem_fault (Some earlier) size = Some kind.BadLine
problem_fault None None = Some kind.Number
problem_fault None (Some size) = size_fault size

-- A node is one of those from 1 to the number of nodes.
abbrev pub is_node : Size → ℤ → Bool
is_node size node = int_le (pos 1) node && int_le node size.nodes

-- The fault of a node that the lines before it give a supply or not.
abbrev pub supply_fault : Size → Option ℤ → ℤ → Option DimacsKind
supply_fault size given node =
    if not (is_node size node) then Some kind.Node
    else (if is_some given then Some kind.RepeatedNode
    else None)

-- The fault of an `n` line after a `p` line and supplies.
abbrev pub node_fault : Option Size → (ℤ → Option ℤ) → Option Supply → Option DimacsKind
node_fault None given supply = Some kind.BadLine
node_fault (Some size) given None = Some kind.Number
node_fault (Some size) given (Some supply) = supply_fault size (given supply.node) supply.node

-- The fault of an arc whose fields are numbers.
abbrev pub ends_fault : Size → Arc → Option DimacsKind
ends_fault size arc =
    if not (is_node size arc.tail && is_node size arc.head) then Some kind.Node
    else (if int_lt arc.capacity (pos 0) then Some kind.Negative
    else (if int_lt arc.capacity arc.lower then Some kind.Crossed
    else None))

-- The fault of an `a` line after a `p` line.
abbrev pub arc_fault : Option Size → Option Arc → Option DimacsKind
arc_fault None arc = Some kind.BadLine
arc_fault (Some size) None = Some kind.Number
arc_fault (Some size) (Some arc) = ends_fault size arc

-- The fault of a line, after a `p` line and supplies if there are some.
abbrev pub line_fault : Option Size → (ℤ → Option ℤ) → Line → Option DimacsKind
line_fault size given Skipped = None
line_fault size given Bad = Some kind.BadLine
line_fault size given (Problem counts) = problem_fault size counts
line_fault size given (Node supply) = node_fault size given supply
line_fault size given (ArcLine arc) = arc_fault size arc

-- The fault of a line after those before it.
abbrev pub next_fault : List Line → Line → Option DimacsKind
next_fault before line = line_fault (size_of before) (flow_of (supplies_of before)) line

-- A kind at a line.
abbrev pub fault_at : ℕ → DimacsKind → DimacsFault
fault_at line kind = record { line = line; kind = kind }

-- The first line with a fault, after those before, which have none.
unfoldable pub first_fault : List Line → List Line → Option DimacsFault
first_fault before [] = None
first_fault before (line ∷ lines) =
    option_or (option_map (fault_at (length before + 1)) (next_fault before line)) (first_fault (before ++ line ∷ []) lines)

-- The fault of a whole text with counts, with so many arcs and a total of its supplies.
abbrev pub sums_fault : Size → ℕ → ℤ → Option DimacsKind
sums_fault size arcs total =
    if not (arcs == unsigned_abs size.arcs) then Some kind.WrongCount
    else (if not (int_eq total (pos 0)) then Some kind.Unbalanced
    else None)

-- The fault of a whole text whose lines have none.
abbrev pub end_fault : Option Size → ℕ → ℤ → Option DimacsKind
end_fault None arcs total = Some kind.NoProblem
end_fault (Some size) arcs total = sums_fault size arcs total

-- The fault of all lines, at the line after the last.
abbrev pub whole_fault : List Line → Option DimacsFault
whole_fault lines =
    option_map (fault_at (length lines + 1)) (end_fault (size_of lines) (length (arcs_of lines)) (total_of (supplies_of lines)))

-- The first fault of what the lines of a text say.
abbrev pub fault_in : List Line → Option DimacsFault
fault_in lines = option_or (first_fault [] lines) (whole_fault lines)
