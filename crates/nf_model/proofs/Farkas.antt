-- A valid certificate shows that nothing is feasible: the combined right sides are at most the combined rows at a
-- feasible list, and these at most their greatest value.
use Rattle.std.proofs.Common.{List, length, sym, subst}
use Rattle.nf_num.specs.Rational.{ℚ, ◌*ℚ◌, ◌≤ℚ◌}
use Rattle.nf_num.proofs.Laws.{le_refl, le_trans, not_le_of_lt}
use Rattle.nf_num.proofs.Sums.{sum_le}
use Rattle.nf_model.specs.declared.RowKind.{RowKind}
use Rattle.nf_model.specs.declared.RowKind.TheVariants.{Eq, Le, Ge}
use Rattle.nf_model.specs.Program.{LinearProgram, column, row, entry_at, at, over_columns, Stands, IsFeasible, HoldsBelow}
use Rattle.nf_model.specs.Certificate.{combined, IsSigned}
use Rattle.nf_model.specs.Farkas.{HasNoFeasible, combined_right, DualIsSigned, IsValidFarkas}
use Rattle.nf_model.proofs.Duality.{exchanged}
use Rattle.nf_model.proofs.Products.{mul_le_left, mul_le_right_neg}

farkas_row : (k : RowKind) (b y s : ℚ) → Stands k s b → IsSigned k y → y *ℚ b ≤ℚ y *ℚ s
farkas_row Eq b y s h signed = subst (λ z. y *ℚ b ≤ℚ y *ℚ z) (sym h) (le_refl (y *ℚ b))
farkas_row Le b y s h signed = mul_le_right_neg y s b signed h
farkas_row Ge b y s h signed = mul_le_left y b s signed h

-- the combined right sides are at most the combined rows at a feasible list
pub combined_right_le : (p : LinearProgram) (x y : List ℚ) → HoldsBelow (length p.rows) (DualIsSigned p y) → IsFeasible p x → combined_right p y ≤ℚ over_columns p (combined p y) x
combined_right_le p x y d f =
    subst (λ z. combined_right p y ≤ℚ z) (sym (exchanged (length p.columns) (length p.rows) (λ j i. entry_at (column p j).entries i) (at x) (at y)))
    (sum_le (length p.rows) _ _ (λ i b. farkas_row (row p i).kind _ _ _ (f.rows_hold i b) (d i b)))

-- a valid Farkas certificate shows that no list is feasible
pub farkas_none : (p : LinearProgram) (y : List ℚ) → IsValidFarkas p y → HasNoFeasible p
farkas_none p y v x f = not_le_of_lt _ _ v.beyond.2 (le_trans _ _ _ (combined_right_le p x y v.signed f) (v.beyond.1.bound x f.within))
