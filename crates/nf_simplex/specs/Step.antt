-- The step: which states differ by one column that enters, and which of them is next.
-- The ratio test and every pivot promise it.
use Rattle.std.specs.Prelude.{◌≡◌, ◌≢◌, ℕ, suc, ◌<◌, ◌⊎◌, Some, Bool, true, false}
use Rattle.nf_num.specs.Rational.{ℚ, neg_ℚ, ◌<ℚ◌}
use Rattle.nf_simplex.specs.Place.{Place, Lower, Upper, Zero, Absent, Basic, IsBound, IsOtherBound}
use Rattle.nf_simplex.specs.Stage.{Stage}
use Rattle.nf_simplex.specs.Lex.{IsLexPositive, vector, IsLexFeasible}

-- A flip: t differs from s in that column e stands at its other bound.
pub record IsFlip (S : Stage) (s : ℕ → Place) (e : ℕ) (t : ℕ → Place) : Type 0 where
  pub other : IsOtherBound (s e) (t e)
  pub rest : (j : ℕ) → j < S.columns → j ≢ e → t j ≡ s j

-- An exchange: t differs from s in that column e is basic, and the basic column l nonbasic at a bound.
pub record IsExchange (S : Stage) (s : ℕ → Place) (e l : ℕ) (t : ℕ → Place) : Type 0 where
  pub there : l < S.columns
  pub was_basic : s l ≡ Basic
  pub enters : t e ≡ Basic
  pub leaves : IsBound (t l)
  pub rest : (j : ℕ) → j < S.columns → j ≢ e → j ≢ l → t j ≡ s j

-- A number as a column's move counts it: negated where the column moves down.
abbrev pub signed : Bool → ℚ → ℚ
signed true x = neg_ℚ x
signed false x = x

-- Column e can enter in this direction: it is present, nonbasic and without two equal bounds, and moves up from its
-- lower bound and down from its upper bound.
pub record CanEnter (S : Stage) (s : ℕ → Place) (e : ℕ) (down : Bool) : Type 0 where
  pub there : e < S.columns
  pub nonbasic : s e ≢ Basic
  pub present : s e ≢ Absent
  pub bounds_differ : (l u : ℚ) → S.lower e ≡ Some l → S.upper e ≡ Some u → l <ℚ u
  pub from_lower : s e ≡ Lower → down ≡ false
  pub from_upper : s e ≡ Upper → down ≡ true

-- t is a next state of s where column e enters: a flip or an exchange that is lexicographically feasible. A column
-- that stood at zero has moved in the direction given.
pub record IsNext (S : Stage) (s : ℕ → Place) (e : ℕ) (down : Bool) (t : ℕ → Place) : Type 0 where
  pub differs : IsFlip S s e t ⊎ ((l : ℕ) × IsExchange S s e l t)
  pub feasible : IsLexFeasible S t
  pub from_zero : s e ≡ Zero → IsLexPositive (suc S.rows) (λ k. signed down (vector S feasible.values feasible.inverse e k))
