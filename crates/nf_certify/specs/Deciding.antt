-- The reduced cost that decides about a column that may enter.
-- The direction of a ray from zero rests on it.
use Rattle.std.specs.Prelude.{◌≡◌, ◌≢◌, ◌⊎◌, ℕ}
use Rattle.nf_num.specs.Rational.{ℚ, zero_ℚ}
use Rattle.nf_model.specs.Program.{LinearProgram}
use Rattle.nf_simplex.specs.Standing.{Standing, Phase, PhaseOne, PhaseTwo, AreDualsOf, reduced_in}

-- d is the reduced cost in a phase of the column with number j.
abbrev pub IsCostIn : LinearProgram → Standing → Phase → ℕ → ℚ → Type 0
IsCostIn p s phase j d = (y : ℕ → ℚ) × AreDualsOf p s phase y × (d ≡ reduced_in p s phase y j)

-- d is the one that decides: that of phase one if it is not 0, else that of phase two.
abbrev pub IsDecidingCost : LinearProgram → Standing → ℕ → ℚ → Type 0
IsDecidingCost p s j d = (IsCostIn p s PhaseOne j d × (d ≢ zero_ℚ)) ⊎ (IsCostIn p s PhaseOne j zero_ℚ × IsCostIn p s PhaseTwo j d)
