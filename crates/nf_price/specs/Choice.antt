-- What pricing is told of a state, and how a state has ended where no column is eligible.
-- `choose` asks for the one and promises the other.
use Rattle.std.specs.Prelude.{◌≡◌, ℕ, Bool, false, MatchBool, List}
use Rattle.nf_num.specs.Rational.{ℚ, zero_ℚ, ◌<ℚ◌}
use Rattle.nf_model.specs.Program.{LinearProgram}
use Rattle.nf_simplex.specs.Standing.{Standing, AreValuesOf}
use Rattle.nf_simplex.specs.Moves.{HasEndedInfeasibleIn, HasEndedOptimalIn}
use Rattle.nf_simplex.specs.Verdicts.{artificial_sum}
use Rattle.nf_basis.specs.declared.col.Phase.{Phase}
use Rattle.nf_basis.specs.declared.col.Phase.TheVariants.{One, Two}
use Rattle.nf_price.specs.Wanted.{WantsNone, WantsSome}

-- `short` says whether the state's artificials sum to more than 0; else they sum to 0.
abbrev pub TellsShort : LinearProgram → Standing → Bool → Type 0
TellsShort p s short = (x : ℕ → ℚ) × AreValuesOf p s x × MatchBool short (zero_ℚ <ℚ artificial_sum p x) (artificial_sum p x ≡ zero_ℚ)

-- The state has ended: infeasible where its artificials sum to more than 0, and else optimal.
abbrev pub HasEnded : LinearProgram → Standing → Bool → Type 0
HasEnded p s short = MatchBool short (HasEndedInfeasibleIn p s) (HasEndedOptimalIn p s)

-- The phase decides about the eligible columns, of which there are some: phase one if it wants a column, and else phase
-- two, if the state is not short.
abbrev pub Decides : LinearProgram → Standing → List ℚ → List ℚ → Bool → Phase → Type 0
Decides p s y1 y2 short One = WantsSome p s One y1 y2
Decides p s y1 y2 short Two = (short ≡ false) × WantsNone p s One y1 y2 × WantsSome p s Two y1 y2

-- Some column is eligible by these duals.
abbrev pub HasEligible : LinearProgram → Standing → List ℚ → List ℚ → Bool → Type 0
HasEligible p s y1 y2 short = (phase : Phase) × Decides p s y1 y2 short phase
