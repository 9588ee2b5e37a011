-- What a line says, by its fields; and what lines say together.
-- The faults of a text and its tables rest on it.
use Rattle.std.specs.Prelude.{ℕ, ◌==◌, Bool, false, List, [], ◌∷◌, codes, map, Option, Some, None, ℤ, pos, ◌+ℤ◌, if◌then◌else◌}
use Rattle.std.specs.List.{filter_map, fold}
use Rattle.std.specs.Option.{option_and_then, option_map}
use Rattle.std.specs.Ordering.{int_eq}
use Rattle.std.specs.Str.{bytes_eq}
use Rattle.nf_dimacs.specs.declared.line.Line.{Line}
use Rattle.nf_dimacs.specs.declared.line.Line.TheVariants.{Skipped, Problem, Node, Arc as ArcLine, Bad}
use Rattle.nf_dimacs.specs.declared.line.Size.{Size}
use Rattle.nf_dimacs.specs.declared.line.Supply.{Supply}
use Rattle.nf_dimacs.specs.declared.line.Arc.{Arc}
use Rattle.nf_dimacs.specs.Lines.{fields_of, lines_of}
use Rattle.nf_dimacs.specs.Numbers.{number_of}

-- A field that begins with this byte.
abbrev pub begins_with : ℕ → List ℕ → Bool
begins_with letter [] = false
begins_with letter (b ∷ bs) = b == letter

-- A field of this byte.
abbrev pub is_letter : ℕ → List ℕ → Bool
is_letter letter (b ∷ []) = b == letter
is_letter letter _ = false

-- The counts of nodes and arcs, if both fields are numbers.
abbrev pub size_read : List ℕ → List ℕ → Option Size
size_read nodes arcs =
    option_and_then (λ n. option_map (λ a. record { nodes = n; arcs = a }) (number_of arcs)) (number_of nodes)

-- A node and its supply, if both fields are numbers.
abbrev pub supply_read : List ℕ → List ℕ → Option Supply
supply_read node flow =
    option_and_then (λ i. option_map (λ f. record { node = i; flow = f }) (number_of flow)) (number_of node)

-- An arc, if all fields are numbers.
abbrev pub arc_read : List ℕ → List ℕ → List ℕ → List ℕ → List ℕ → Option Arc
arc_read tail head lower capacity cost =
    option_and_then (λ t. option_and_then (λ h. option_and_then (λ l. option_and_then (λ u. option_map (λ c.
    record { tail = t; head = h; lower = l; capacity = u; cost = c })
    (number_of cost)) (number_of capacity)) (number_of lower)) (number_of head)) (number_of tail)

-- The fields after `p`: `min`, the number of nodes and that of arcs.
abbrev pub problem_line : List (List ℕ) → Line
problem_line (word ∷ nodes ∷ arcs ∷ []) = if bytes_eq word (codes "min") then Problem (size_read nodes arcs) else Bad
problem_line _ = Bad

-- The fields after `n`: a node and its supply.
abbrev pub node_line : List (List ℕ) → Line
node_line (node ∷ flow ∷ []) = Node (supply_read node flow)
node_line _ = Bad

-- The fields after `a`: tail, head, lower bound, capacity and cost.
abbrev pub arc_line : List (List ℕ) → Line
arc_line (tail ∷ head ∷ lower ∷ capacity ∷ cost ∷ []) = ArcLine (arc_read tail head lower capacity cost)
arc_line _ = Bad

-- A line by its first field: 99 is `c`, 112 is `p`, 110 is `n` and 97 is `a`.
abbrev pub line_by : List ℕ → List (List ℕ) → Line
line_by first fields =
    if begins_with 99 first then Skipped
    else (if is_letter 112 first then problem_line fields
    else (if is_letter 110 first then node_line fields
    else (if is_letter 97 first then arc_line fields
    else Bad)))

-- A line by its fields.
abbrev pub line_of : List (List ℕ) → Line
line_of [] = Skipped
line_of (first ∷ fields) = line_by first fields

-- What a line of a text says.
abbrev pub said : List ℕ → Line
said line = line_of (fields_of line)

-- What the lines of a text say.
abbrev pub said_by : List ℕ → List Line
said_by text = map said (lines_of text)

-- ---- what lines say together
abbrev pub size_in : Line → Option Size
size_in (Problem size) = size
size_in _ = None

abbrev pub supply_in : Line → Option Supply
supply_in (Node supply) = supply
supply_in _ = None

abbrev pub arc_in : Line → Option Arc
arc_in (ArcLine arc) = arc
arc_in _ = None

-- The first of some values.
abbrev pub first_of : {A : Type 0} → List A → Option A
first_of [] = None
first_of (x ∷ xs) = Some x

-- The counts of the `p` line.
abbrev pub size_of : List Line → Option Size
size_of lines = first_of (filter_map size_in lines)

-- The nodes and supplies of the `n` lines.
abbrev pub supplies_of : List Line → List Supply
supplies_of lines = filter_map supply_in lines

-- The arcs of the `a` lines.
abbrev pub arcs_of : List Line → List Arc
arcs_of lines = filter_map arc_in lines

-- The supply that a node is given, if it is given one.
abbrev pub flow_of : List Supply → ℤ → Option ℤ
flow_of [] node = None
flow_of (s ∷ supplies) node = if int_eq s.node node then Some s.flow else flow_of supplies node

-- What the supplies add up to.
abbrev pub total_of : List Supply → ℤ
total_of supplies = fold ◌+ℤ◌ (pos 0) (map (λ s. s.flow) supplies)
