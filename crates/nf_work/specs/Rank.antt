-- Which of k columns, listed one after the other, is the first that is a combination of those before it, and what arises on the way.
-- `rank_check` promises it.
use Rattle.std.specs.Prelude.{◌≡◌, ℕ, ◌<◌, List, length}
use Rattle.nf_num.specs.Rational.{ℚ}
use Rattle.nf_sums.specs.Terms.{Terms, PassesIn}
use Rattle.nf_work.specs.declared.fault.RankFault.{RankFault}
use Rattle.nf_work.specs.declared.fault.RankFault.TheVariants.{Passed, NoMemory}
use Rattle.nf_work.specs.declared.rank.Rank.{Rank}
use Rattle.nf_work.specs.declared.rank.Rank.TheVariants.{Full, Dependent}
use Rattle.nf_work.specs.Causes.{numbers, ReplaceTerms}
use Rattle.nf_work.specs.Changed.{IsInverseOf}
use Rattle.nf_work.specs.Taken.{column_at, HasTaken, IsIndependentBelow, CombinesBelow}

-- Column `at` is the first that is a combination of those before it, with these weights.
pub record IsFirstDependent (k : ℕ) (xs : ℕ → ℚ) (at : ℕ) (weights : List ℚ) : Type 0 where
  pub there : at < k
  pub as_many : length weights ≡ at
  pub first : IsIndependentBelow k xs at
  pub combined : CombinesBelow k xs at (numbers weights) (column_at k xs at)

-- The rank of the columns: all are independent, and w is the inverse of their matrix; or the first dependent one.
abbrev pub IsRankOf : ℕ → (ℕ → ℚ) → Rank → Type 0
IsRankOf k xs (Full w) = (length w ≡ k) × IsInverseOf (λ r a. column_at k xs a r) w
IsRankOf k xs (Dependent at weights) = IsFirstDependent k xs at weights

-- A column is taken: its entries by the inverse of the columns taken so far and of unit columns, and the update by them.
abbrev pub RankTerms : ℕ → (ℕ → ℚ) → Terms → Type 0
RankTerms k xs t = (n : ℕ) × (n < k) × (w : List (List ℚ)) × HasTaken k xs n w × (place : ℕ) × (c : ℕ → ℚ) × ((r : ℕ) → r < k → c r ≡ column_at k xs n r) × ReplaceTerms w place c t

-- Why the rank is not found: an operation overflows, or out of memory.
abbrev pub IsRankFault : ℕ → (ℕ → ℚ) → RankFault → Type 0
IsRankFault k xs (Passed p) = PassesIn (RankTerms k xs) p
IsRankFault k xs NoMemory = Unit {0}
