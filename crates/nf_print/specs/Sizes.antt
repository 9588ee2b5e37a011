-- The exact text of SHOW PROBLEM: the sizes of a problem.
-- What a session prints of its problem's size rests on it.
use Rattle.std.specs.Prelude.{◌+◌, ◌-◌, ◌++◌, ℕ, zero, suc, pos, Bool, not, List, codes, count_by, decimal, length}
use Rattle.std.specs.Ordering.{int_eq}
use Rattle.nf_num.specs.Rational.{numer}
use Rattle.nf_model.specs.Program.{LinearProgram}
use Rattle.nf_labels.specs.Labels.{LabelList}
use Rattle.nf_prob.specs.declared.stored.RowEntry.{RowEntry}
use Rattle.nf_prob.specs.Numbers.{row_list}

-- An entry that is not 0.
abbrev pub has_value : RowEntry → Bool
has_value e = not (int_eq (numer e.value) (pos 0))

-- How many coefficients are not 0 in the first k constraints, and in all.
unfoldable pub coefficients_in : LinearProgram → ℕ → ℕ
coefficients_in p zero = 0
coefficients_in p (suc k) = coefficients_in p k + count_by has_value (row_list p (p.nodes + k))

abbrev pub coefficients : LinearProgram → ℕ
coefficients p = coefficients_in p (length p.rows - p.nodes)

-- The nodes, the arcs of ARCDATA, and the other arcs, which are excess arcs.
abbrev pub network_lines : LinearProgram → LabelList → List ℕ
network_lines p l = codes "NODES " ++ (decimal p.nodes ++ (codes "\nARCS " ++ (decimal l.own_arcs ++ (codes "\nEXCESS ARCS " ++ (decimal (p.arcs - l.own_arcs) ++ codes "\n")))))

-- The nonarc variables, the constraints, and how many coefficients of these are not 0.
abbrev pub side_lines : LinearProgram → List ℕ
side_lines p = codes "NONARCS " ++ (decimal (length p.columns - p.arcs) ++ (codes "\nCONSTRAINTS " ++ (decimal (length p.rows - p.nodes) ++ (codes "\nCOEFFICIENTS " ++ (decimal (coefficients p) ++ codes "\n")))))

unfoldable pub problem_lines : LinearProgram → LabelList → List ℕ
problem_lines p l = network_lines p l ++ side_lines p
