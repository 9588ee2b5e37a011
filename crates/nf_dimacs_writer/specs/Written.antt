-- The DIMACS text of a problem, which is minimised.
-- What `write_dimacs` writes rests on it.
use Rattle.std.specs.Prelude.{ℕ, suc, List, [], ◌∷◌, ◌++◌, length, Option, Some, None, if◌then◌else◌, pos, codes, decimal}
use Rattle.std.specs.Fmt.{signed_decimal}
use Rattle.std.specs.Ordering.{int_eq}
use Rattle.nf_num.specs.Rational.{ℚ, zero_ℚ, numer}
use Rattle.nf_model.specs.Program.{LinearProgram, Row, Column}
use Rattle.nf_prob.specs.Numbers.{tail_number, head_number}

-- Fields, each after a space, and the end of the line.
abbrev pub spaced : List (List ℕ) → List ℕ
spaced [] = codes "\n"
spaced (field ∷ fields) = 32 ∷ (field ++ spaced fields)

-- The text of a whole number.
abbrev pub whole_text : ℚ → List ℕ
whole_text x = signed_decimal (numer x)

-- A bound, or 0 if there is none.
abbrev pub or_zero : Option ℚ → ℚ
or_zero None = zero_ℚ
or_zero (Some x) = x

-- The line of so many nodes and arcs.
abbrev pub problem_line : ℕ → ℕ → List ℕ
problem_line nodes arcs = codes "p" ++ spaced (codes "min" ∷ decimal nodes ∷ decimal arcs ∷ [])

-- The line of node i with its right side, and nothing if that is 0.
abbrev pub node_line : ℕ → Row → List ℕ
node_line i r = if int_eq (numer r.right) (pos 0) then [] else codes "n" ++ spaced (decimal i ∷ whole_text r.right ∷ [])

-- The line of an arc: tail, head, lower bound, capacity and cost.
abbrev pub arc_line : ℕ → Column → List ℕ
arc_line j c = codes "a" ++ spaced (decimal (tail_number c.ends) ∷ decimal (head_number c.ends) ∷ whole_text (or_zero c.lower) ∷ whole_text (or_zero c.upper) ∷ whole_text c.cost ∷ [])

-- The lines of items that are numbered from k on.
unfoldable pub lines_from : {A : Type 0} → (ℕ → A → List ℕ) → ℕ → List A → List ℕ
lines_from line_of k [] = []
lines_from line_of k (x ∷ xs) = line_of k x ++ lines_from line_of (suc k) xs

-- The text of a problem: the `p` line, the nodes by number and the arcs by number.
abbrev pub dimacs_text : LinearProgram → List ℕ
dimacs_text p = problem_line p.nodes (length p.columns) ++ (lines_from node_line 1 p.rows ++ lines_from arc_line 1 p.columns)
