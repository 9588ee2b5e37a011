-- The faults of one line of sparse CONDATA, by the steps that find them.
use Rattle.std.proofs.Common.{◌≡◌, ◌++◌, ◌∷◌, ◌∙◌, ℕ, List, [], Option, refl, ap}
use Rattle.nf_program.specs.declared.program.Role.TheVariants as role
use Rattle.nf_roles.specs.First.{or_else}
use Rattle.nf_cons.specs.declared.places.PlacedFault.{PlacedFault}
use Rattle.nf_cons.specs.Places.{first_of}
use Rattle.nf_cons.proofs.FaultFacts.{first-append}
use Rattle.nf_cons_sparse.specs.LineState.{LineState, given_now, line_faults_now, name_faults_now, pair_now}
use Rattle.nf_cons_sparse.specs.Sparse.{SparseLine, coef_faults, coef_right, right_faults, row_faults, row_of, type_faults, value_if}

grouped : {A : Type 0} (a b c d e f : List A) → a ++ b ++ c ++ d ++ e ++ f ≡ a ++ (b ++ ((c ++ (d ++ e)) ++ f))
grouped [] [] [] d e f = refl
grouped [] [] (x ∷ c) d e f = ap (λ l. x ∷ l) (grouped [] [] c d e f)
grouped [] (x ∷ b) c d e f = ap (λ l. x ∷ l) (grouped [] b c d e f)
grouped (x ∷ a) b c d e f = ap (λ l. x ∷ l) (grouped a b c d e f)

-- The faults of COLUMN and COEF, and those of RHS.
abbrev pub column_part : LineState → ℕ → SparseLine → List (Option PlacedFault)
column_part s n l = name_faults_now s.variables n l ++ (right_faults role.Coef (given_now s (row_of l)).right (coef_right l) ++ coef_faults s.pairs (pair_now s l) l)

abbrev pub right_part : LineState → SparseLine → List (Option PlacedFault)
right_part s l = right_faults role.Rhs (or_else (given_now s (row_of l)).right (value_if (coef_right l))) l.right

-- The first fault of a line is that of ROW, TYPE, COLUMN with COEF, or RHS.
pub by-steps : (s : LineState) (n : ℕ) (l : SparseLine)
    → first_of (line_faults_now s n l) ≡ or_else (first_of (row_faults l.row)) (or_else (first_of (type_faults (given_now s (row_of l)).row_type l.row_type)) (or_else (first_of (column_part s n l)) (first_of (right_part s l))))
by-steps s n l =
    let r = row_faults l.row in
    let t = type_faults (given_now s (row_of l)).row_type l.row_type in
    ap first_of (grouped r t (name_faults_now s.variables n l) (right_faults role.Coef (given_now s (row_of l)).right (coef_right l)) (coef_faults s.pairs (pair_now s l) l) (right_part s l))
    ∙ first-append r (t ++ (column_part s n l ++ right_part s l))
    ∙ ap (or_else (first_of r)) (first-append t (column_part s n l ++ right_part s l) ∙ ap (or_else (first_of t)) (first-append (column_part s n l) (right_part s l)))
