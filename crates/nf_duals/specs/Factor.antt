-- The factor of the phase-one duals in the printed duals while it is looked for, and the rows of the printed duals.
-- The loops of `printed_duals` keep these.
use Rattle.std.specs.Prelude.{◌≡◌, ◌≢◌, ◌⊎◌, ℕ, ◌<◌, ◌≤◌, List, length}
use Rattle.nf_num.specs.Rational.{ℚ, zero_ℚ, ◌+ℚ◌, ◌*ℚ◌, neg_ℚ, inv_ℚ, ◌<ℚ◌}
use Rattle.nf_model.specs.Program.{at}
use Rattle.nf_simplex.specs.Place.{Place}
use Rattle.nf_simplex.specs.Stage.{Stage}
use Rattle.nf_simplex.specs.Ends.{IsPriced}
use Rattle.nf_sums.specs.Terms.{Terms}
use Rattle.nf_sums.specs.Rows.{printed_dual_terms}

-- q is -d2/d1 at column j, which is priced and has d1 other than 0.
pub record IsQuotientAt (S : Stage) (s : ℕ → Place) (d1 d2 : ℕ → ℚ) (j : ℕ) (q : ℚ) : Type 0 where
  pub priced : IsPriced S s j
  pub not_zero : d1 j ≢ zero_ℚ
  pub is : q ≡ neg_ℚ (d2 j) *ℚ inv_ℚ (d1 j)

-- m is the greatest of 0 and of these quotients below n.
pub record IsFactorBelow (S : Stage) (s : ℕ → Place) (d1 d2 : ℕ → ℚ) (n : ℕ) (m : ℚ) : Type 0 where
  pub not_negative : m <ℚ zero_ℚ → ⊥
  pub not_less : (j : ℕ) (q : ℚ) → j < n → IsQuotientAt S s d1 d2 j q → m <ℚ q → ⊥
  pub attained : (m ≡ zero_ℚ) ⊎ ((j : ℕ) × IsQuotientAt S s d1 d2 j m)

-- One of the rows of printed duals.
abbrev pub PrintedTerms : ℚ → List ℚ → List ℚ → Terms → Type 0
PrintedTerms m one two t = (i : ℕ) × (i < length two) × (t ≡ printed_dual_terms (at two i) m (at one i))

-- The members below n have become those of two and m times those of one, and the others are as before.
pub record ArePrintedBelow (m : ℚ) (one before now : List ℚ) (n : ℕ) : Type 0 where
  pub done : (i : ℕ) → i < n → at now i ≡ at before i +ℚ m *ℚ at one i
  pub left : (i : ℕ) → n ≤ i → at now i ≡ at before i
