-- A run of one stage: steps up to the halt that is due.
-- `Engine::run` promises it.
use Rattle.std.specs.Prelude.{◌≡◌, ◌≢◌, ℕ, ◌%◌, ◌<◌, ◌≤◌, Bool, true, false, Option, Some, None}
use Rattle.nf_num.specs.Rational.{ℚ, zero_ℚ, ◌<ℚ◌}
use Rattle.nf_model.specs.Program.{LinearProgram}
use Rattle.nf_sums.specs.Terms.{PassesIn}
use Rattle.nf_frac.specs.declared.passed.Passed.{Passed}
use Rattle.nf_simplex.specs.Standing.{Standing, AreValuesOf}
use Rattle.nf_simplex.specs.Verdicts.{artificial_sum}
use Rattle.nf_basis.specs.declared.col.Col.{Col}
use Rattle.nf_basis.specs.Arising.{StateTerms}
use Rattle.nf_price.specs.declared.rule.Rule.{Rule}
use Rattle.nf_price.specs.Choice.{TellsShort}
use Rattle.nf_engine.specs.declared.halt.Moved.{Moved}
use Rattle.nf_engine.specs.declared.halt.Halt.{Halt}
use Rattle.nf_engine.specs.declared.halt.Halt.TheVariants.{Ended, Limit, Pause, Feasible}
use Rattle.nf_engine.specs.declared.halt.Pauses.{Pauses}
use Rattle.nf_engine.specs.Point.{Point}
use Rattle.nf_engine.specs.Steps.{MovesTo, StepsBy, HasEnded}

-- A pause is due at so many pivots.
abbrev pub IsPauseDue : Pauses → ℕ → Type 0
IsPauseDue pauses n = (pauses.every ≢ 0) × (n % pauses.every ≡ 0)

-- The artificials sum to more than 0.
abbrev pub IsShort : LinearProgram → Standing → Type 0
IsShort p s = (x : ℕ → ℚ) × AreValuesOf p s x × (zero_ℚ <ℚ artificial_sum p x)

-- The artificials sum to 0.
abbrev pub IsMet : LinearProgram → Standing → Type 0
IsMet p s = (x : ℕ → ℚ) × AreValuesOf p s x × (artificial_sum p x ≡ zero_ℚ)

-- A halt is due behind the step from a to b where the artificials have just come to 0.
abbrev pub IsFeasibleDue : LinearProgram → Pauses → Point → Point → Type 0
IsFeasibleDue p pauses a b = (pauses.feasible ≡ true) × IsShort p a.standing × IsMet p b.standing

-- One step, below the limit, behind which no halt is due.
pub record GoesOnTo (p : LinearProgram) (rule : Rule) (most : ℕ) (pauses : Pauses) (a b : Point) : Type 0 where
  pub column : Col
  pub below : a.pivots < most
  pub step : StepsBy p rule a column b
  pub no_pause : IsPauseDue pauses b.pivots → ⊥
  pub not_feasible : IsFeasibleDue p pauses a b → ⊥

-- Steps from a to b, behind none of which a halt is due.
pub data GoesOn (p : LinearProgram) (rule : Rule) (most : ℕ) (pauses : Pauses) (a : Point) : Point → Type 0 where
  here : GoesOn p rule most pauses a a
  further : (m b : Point) → GoesOn p rule most pauses a m → GoesOnTo p rule most pauses m b → GoesOn p rule most pauses a b

-- What ends a run that has come to a: this halt is due at a, or behind the step from a to b.
pub data Halts (p : LinearProgram) (rule : Rule) (most : ℕ) (pauses : Pauses) (a : Point) : Halt → Point → Type 0 where
  ended : (m : Moved) → HasEnded p rule a.standing a.pricing m → Halts p rule most pauses a (Ended m) a
  limit : (c : Col) (t : Standing) → MovesTo p rule a.standing a.pricing c t → most ≤ a.pivots → Halts p rule most pauses a Limit a
  pause : (c : Col) (b : Point) → a.pivots < most → StepsBy p rule a c b → IsPauseDue pauses b.pivots → Halts p rule most pauses a Pause b
  feasible : (c : Col) (b : Point) → a.pivots < most → StepsBy p rule a c b → (IsPauseDue pauses b.pivots → ⊥) → IsFeasibleDue p pauses a b → Halts p rule most pauses a Feasible b

-- A run from a to b that this halt ends: steps behind which no halt is due, and then the one that is.
pub record RunsTo (p : LinearProgram) (rule : Rule) (most : ℕ) (pauses : Pauses) (a : Point) (halt : Halt) (b : Point) : Type 0 where
  pub before : Point
  pub steps : GoesOn p rule most pauses a before
  pub last : Halts p rule most pauses before halt b

-- A run from a comes to b: by steps behind none of which a halt is due, or by one step more that the limit allows.
pub data Comes (p : LinearProgram) (rule : Rule) (most : ℕ) (pauses : Pauses) (a : Point) : Point → Type 0 where
  there : (b : Point) → GoesOn p rule most pauses a b → Comes p rule most pauses a b
  behind : (c : Col) (m b : Point) → GoesOn p rule most pauses a m → m.pivots < most → StepsBy p rule m c b → Comes p rule most pauses a b

-- An operation passes that arises from the state to which the run from a comes at this count of pivots.
pub record PassesAt (p : LinearProgram) (rule : Rule) (most : ℕ) (pauses : Pauses) (a : Point) (pivots : ℕ) (passed : Passed) : Type 0 where
  pub at : Point
  pub comes : Comes p rule most pauses a at
  pub count : at.pivots ≡ pivots
  pub passes : PassesIn (StateTerms p at.standing) passed

-- What a turn of a run does at a, where it ends at b: it makes one step, behind which no halt is due, or ends the run by
-- the halt that is.
abbrev pub IsTurnTo : LinearProgram → Rule → ℕ → Pauses → Point → Option Halt → Point → Type 0
IsTurnTo p rule most pauses a None b = GoesOnTo p rule most pauses a b
IsTurnTo p rule most pauses a (Some halt) b = Halts p rule most pauses a halt b

-- What is due behind a step to a state, at this count, where `short` says whether the artificials summed to more than 0
-- before it.
abbrev pub IsHaltDue : LinearProgram → Pauses → Bool → ℕ → Standing → Option Halt → Type 0
IsHaltDue p pauses short n t None = (IsPauseDue pauses n → ⊥) × (pauses.feasible ≡ true → short ≡ true → TellsShort p t true)
IsHaltDue p pauses short n t (Some Pause) = IsPauseDue pauses n
IsHaltDue p pauses short n t (Some Feasible) = (IsPauseDue pauses n → ⊥) × (pauses.feasible ≡ true) × (short ≡ true) × TellsShort p t false
IsHaltDue p pauses short n t (Some Limit) = ⊥
IsHaltDue p pauses short n t (Some (Ended m)) = ⊥
