-- The range law of stage one: no operation in which a number of a basis of stage one arises overflows 128 bits.
-- `stage_one_fits` is this law.
use Rattle.std.specs.Prelude.{◌≡◌}
use Rattle.nf_num.specs.Rational.{ℚ}
use Rattle.nf_frac.specs.declared.Op.{Op}
use Rattle.nf_frac.specs.Range.{Passes}
use Rattle.nf_model.specs.Program.{LinearProgram}
use Rattle.nf_model.specs.Problem.{IsProblem}
use Rattle.nf_sums.specs.Terms.{Terms, ArisesIn}
use Rattle.nf_simplex.specs.StageOf.{StageOne}
use Rattle.nf_simplex.specs.Standing.{Standing, IsBasisOf}
use Rattle.nf_basis.specs.Arising.{StateTerms, LoadTerms}
use Rattle.nf_width.specs.Amounts.{HasAmounts}

-- No operation that arises in the row overflows.
abbrev pub RowFits : Terms → Type 0
RowFits row = (op : Op) (x y : ℚ) → ArisesIn row op x y → Passes op x y → ⊥

-- So it is in each row of terms of a basis of stage one.
abbrev pub StageOneFits : Type 0
StageOneFits =
    (p : LinearProgram) (s : Standing) → IsProblem p → HasAmounts p → s.stage ≡ StageOne → IsBasisOf p s → (row : Terms) → StateTerms p s row → RowFits row

-- So it is in each row of terms of a load of a state of stage one.
abbrev pub StageOneLoadsFit : Type 0
StageOneLoadsFit = (p : LinearProgram) (s : Standing) → IsProblem p → HasAmounts p → s.stage ≡ StageOne → (row : Terms) → LoadTerms p s row → RowFits row
