-- The lexicographic order of vectors, and which states are lexicographically feasible.
-- That a step has one next state, and that a run ends, rests on it.
use Rattle.std.specs.Prelude.{◌≡◌, ℕ, zero, suc, ◌<◌, Option, Some, None}
use Rattle.nf_num.specs.Rational.{ℚ, zero_ℚ, ◌+ℚ◌, neg_ℚ, ◌<ℚ◌}
use Rattle.nf_simplex.specs.Place.{Place, Basic}
use Rattle.nf_simplex.specs.Stage.{Stage, order}
use Rattle.nf_simplex.specs.Numbers.{IsBasis, IsValues, IsInverseColumn}

-- The first of the n members of u that is not 0 is positive.
pub record IsLexPositive (n : ℕ) (u : ℕ → ℚ) : Type 0 where
  pub first : ℕ
  pub within : first < n
  pub positive : zero_ℚ <ℚ u first
  pub zeros : (i : ℕ) → i < first → u i ≡ zero_ℚ

-- u is lexicographically less than t in their n members.
abbrev pub IsLexLess : ℕ → (ℕ → ℚ) → (ℕ → ℚ) → Type 0
IsLexLess n u t = IsLexPositive n (λ k. t k +ℚ neg_ℚ (u k))

-- A bound as a vector: b, and then zeros.
abbrev pub bound_vector : ℚ → ℕ → ℚ
bound_vector b zero = b
bound_vector b (suc k) = zero_ℚ

-- The vector of column j: its value, and then its weights in the inverse columns, in the stage's order of rows.
abbrev pub vector : Stage → (ℕ → ℚ) → (ℕ → ℕ → ℚ) → ℕ → ℕ → ℚ
vector S x w j zero = x j
vector S x w j (suc k) = w (order S k) j

-- A vector is above a lower bound, where there is one.
abbrev pub IsAbove : ℕ → Option ℚ → (ℕ → ℚ) → Type 0
IsAbove n None u = Unit {0}
IsAbove n (Some b) u = IsLexLess n (bound_vector b) u

-- A vector is under an upper bound, where there is one.
abbrev pub IsUnder : ℕ → Option ℚ → (ℕ → ℚ) → Type 0
IsUnder n None u = Unit {0}
IsUnder n (Some b) u = IsLexLess n u (bound_vector b)

-- A state is lexicographically feasible where it is a basis, and the vector of each basic column is above its lower
-- bound and under its upper bound.
pub record IsLexFeasible (S : Stage) (s : ℕ → Place) : Type 0 where
  pub basis : IsBasis S s
  pub values : ℕ → ℚ
  pub inverse : ℕ → ℕ → ℚ
  pub are_values : IsValues S s values
  pub are_inverse : (r : ℕ) → r < S.rows → IsInverseColumn S s r (inverse r)
  pub above : (j : ℕ) → j < S.columns → s j ≡ Basic → IsAbove (suc S.rows) (S.lower j) (vector S values inverse j)
  pub under : (j : ℕ) → j < S.columns → s j ≡ Basic → IsUnder (suc S.rows) (S.upper j) (vector S values inverse j)
