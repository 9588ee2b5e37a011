-- What a replaced column leaves, and why it is refused: alone, or after the change by a row.
-- The clauses of `Work::replace_column` and `Work::replace_row_column` rest on it.
use Rattle.std.specs.Prelude.{ℕ, List, length}
use Rattle.nf_num.specs.Rational.{ℚ}
use Rattle.nf_sums.specs.Terms.{Terms, PassesIn}
use Rattle.nf_inverse.specs.Weights.{weight}
use Rattle.nf_work.specs.declared.fault.WorkFault.{WorkFault}
use Rattle.nf_work.specs.declared.fault.WorkFault.TheVariants.{Passed, Singular}
use Rattle.nf_work.specs.Matrix.{Matrix, IsRegular, AreInverses, IsColumnReplaced, IsRowChanged}
use Rattle.nf_work.specs.Causes.{ReplaceTerms, RowColumnTerms}

-- w is the inverse of Q.
abbrev pub IsInverseOf : Matrix → List (List ℚ) → Type 0
IsInverseOf Q w = AreInverses (length w) Q (weight w)

-- An operation overflows, in one of these rows; no matrix is singular.
abbrev pub IsPassedIn : (Terms → Type 0) → WorkFault → Type 0
IsPassedIn R Singular = ⊥
IsPassedIn R (Passed p) = PassesIn R p

-- Whatever matrix the old weights are the inverse of, the new ones are that of it with c in place `at`.
abbrev pub HasReplaced : List (List ℚ) → ℕ → (ℕ → ℚ) → List (List ℚ) → Type 0
HasReplaced old at c new = (Q Q' : Matrix) → IsInverseOf Q old → IsColumnReplaced (length old) Q at c Q' → IsInverseOf Q' new

-- Why a column is not put: the new matrix is singular, or an operation overflows.
abbrev pub IsReplaceFault : List (List ℚ) → ℕ → (ℕ → ℚ) → WorkFault → Type 0
IsReplaceFault w at c Singular = (Q Q' : Matrix) → IsInverseOf Q w → IsColumnReplaced (length w) Q at c Q' → IsRegular (length w) Q' → ⊥
IsReplaceFault w at c (Passed p) = PassesIn (ReplaceTerms w at c) p

-- Whatever matrix the old weights are the inverse of, the new ones are that of it after the change by `row` and then with c in place `at`.
abbrev pub HasReplacedRow : List (List ℚ) → (ℕ → ℚ) → ℕ → (ℕ → ℚ) → List (List ℚ) → Type 0
HasReplacedRow old row at c new = (Q E Q' : Matrix) → IsInverseOf Q old → IsRowChanged (length old) Q row at E → IsColumnReplaced (length old) E at c Q' → IsInverseOf Q' new

-- Why it is not put after the change by `row`.
abbrev pub IsRowFault : List (List ℚ) → (ℕ → ℚ) → ℕ → (ℕ → ℚ) → WorkFault → Type 0
IsRowFault w row at c Singular = (Q E Q' : Matrix) → IsInverseOf Q w → IsRowChanged (length w) Q row at E → IsColumnReplaced (length w) E at c Q' → IsRegular (length w) Q' → ⊥
IsRowFault w row at c (Passed p) = PassesIn (RowColumnTerms w row at c) p
