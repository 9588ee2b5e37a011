-- The numbers of a state: its values, inverse columns, entries and duals. A state is a place for each column.
-- Every call that computes them promises these relations, and each has one solution where the state is a basis.
use Rattle.std.specs.Prelude.{◌≡◌, ◌≢◌, ℕ, ◌<◌, Option, Some, None}
use Rattle.nf_num.specs.Rational.{ℚ, zero_ℚ, ◌+ℚ◌, ◌*ℚ◌, neg_ℚ}
use Rattle.nf_num.specs.Sum.{sum_ℚ, delta}
use Rattle.nf_simplex.specs.Place.{Place, Lower, Upper, Zero, Absent, Basic, count_basic}
use Rattle.nf_simplex.specs.Stage.{Stage}

-- A column with these bounds has the number x in this place.
abbrev pub StandsAt : Place → Option ℚ → Option ℚ → ℚ → Type 0
StandsAt Lower (Some l) u x = x ≡ l
StandsAt Lower None u x = ⊥
StandsAt Upper l (Some u) x = x ≡ u
StandsAt Upper l None x = ⊥
StandsAt Zero (Some l) u x = ⊥
StandsAt Zero None (Some u) x = ⊥
StandsAt Zero None None x = x ≡ zero_ℚ
StandsAt Absent l u x = x ≡ zero_ℚ
StandsAt Basic l u x = Unit {0}

-- The weights w combine the columns to a.
abbrev pub Gives : Stage → (ℕ → ℚ) → (ℕ → ℚ) → Type 0
Gives S w a = (i : ℕ) → i < S.rows → sum_ℚ S.columns (λ j. w j *ℚ S.entry j i) ≡ a i

-- Only basic columns have a weight.
abbrev pub IsOfBasics : Stage → (ℕ → Place) → (ℕ → ℚ) → Type 0
IsOfBasics S s w = (j : ℕ) → j < S.columns → s j ≢ Basic → w j ≡ zero_ℚ

-- Only zero weights combine the basic columns to zero.
abbrev pub IsIndependent : Stage → (ℕ → Place) → Type 0
IsIndependent S s = (w : ℕ → ℚ) → IsOfBasics S s w → Gives S w (λ i. zero_ℚ) → (j : ℕ) → j < S.columns → w j ≡ zero_ℚ

-- The basic columns are as many as the rows, and independent.
pub record IsBasis (S : Stage) (s : ℕ → Place) : Type 0 where
  pub as_many : count_basic S.columns s ≡ S.rows
  pub independent : IsIndependent S s

-- The nonbasic columns stand at x in their places, and x makes every row an equation.
pub record IsValues (S : Stage) (s : ℕ → Place) (x : ℕ → ℚ) : Type 0 where
  pub stands : (j : ℕ) → j < S.columns → StandsAt (s j) (S.lower j) (S.upper j) (x j)
  pub equations : Gives S x S.right

-- The weights w of basic columns give a.
pub record AreWeights (S : Stage) (s : ℕ → Place) (a w : ℕ → ℚ) : Type 0 where
  pub of_basics : IsOfBasics S s w
  pub gives : Gives S w a

-- Inverse column r: the weights of basic columns that give the unit column of row r.
abbrev pub IsInverseColumn : Stage → (ℕ → Place) → ℕ → (ℕ → ℚ) → Type 0
IsInverseColumn S s r w = AreWeights S s (delta r) w

-- The entries of column j: the weights of basic columns that give it.
abbrev pub AreEntries : Stage → (ℕ → Place) → ℕ → (ℕ → ℚ) → Type 0
AreEntries S s j w = AreWeights S s (S.entry j) w

-- The reduced cost of column j by the costs c: its cost less its combination by y.
unfoldable pub reduced : Stage → (ℕ → ℚ) → (ℕ → ℚ) → ℕ → ℚ
reduced S c y j = c j +ℚ neg_ℚ (sum_ℚ S.rows (λ i. y i *ℚ S.entry j i))

-- Duals for the costs c: each basic column has the reduced cost 0.
abbrev pub AreDuals : Stage → (ℕ → Place) → (ℕ → ℚ) → (ℕ → ℚ) → Type 0
AreDuals S s c y = (j : ℕ) → j < S.columns → s j ≡ Basic → reduced S c y j ≡ zero_ℚ
