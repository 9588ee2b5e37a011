-- A state as data: its stage, a place for each column by number, and whether each row's artificial is negative.
-- The bases of the program hold one, and all calls on states and their numbers promise what stands here.
use Rattle.std.specs.Prelude.{◌≡◌, ◌≢◌, ℕ, Bool, false, List, length, slice_index_or, Option, None}
use Rattle.nf_num.specs.Rational.{ℚ}
use Rattle.nf_model.specs.Program.{LinearProgram, HoldsBelow}
use Rattle.nf_simplex.specs.Place.{Place, Lower, Upper, Zero, Absent, Basic}
use Rattle.nf_simplex.specs.Stage.{Stage}
use Rattle.nf_simplex.specs.Numbers.{IsBasis, IsValues, IsInverseColumn, AreEntries, reduced, AreDuals}
use Rattle.nf_simplex.specs.Lex.{IsLexFeasible}
use Rattle.nf_simplex.specs.Layout.{layout_of}
use Rattle.nf_simplex.specs.Columns.{Col, all_columns, number_of, col_at, col_lower, col_upper, ones, twos}
use Rattle.nf_simplex.specs.StageOf.{StageNumber, rows_in, stage_in, IsPresent}

-- A standing is a stage with the places of its columns and the signs of its artificials.
pub record Standing : Type 0 where
  pub stage : StageNumber
  pub places : List Place
  pub negative : List Bool

-- The number of a column.
abbrev pub number_in : LinearProgram → Col → ℕ
number_in p c = number_of (layout_of p) c

-- The column with a number.
abbrev pub column_in : LinearProgram → ℕ → Col
column_in p j = col_at (layout_of p) j

-- The lower bound of a column, and its upper bound.
abbrev pub lower_in : LinearProgram → Col → Option ℚ
lower_in p c = col_lower (layout_of p) c

abbrev pub upper_in : LinearProgram → Col → Option ℚ
upper_in p c = col_upper (layout_of p) c

-- P holds of the number of each column.
abbrev pub HoldsOfColumns : LinearProgram → (ℕ → Type 0) → Type 0
HoldsOfColumns p P = HoldsBelow (all_columns (layout_of p)) P

-- The place of the column with a number.
abbrev pub place_at : Standing → ℕ → Place
place_at s j = slice_index_or s.places j Absent

-- The place of a column.
abbrev pub place_of : LinearProgram → Standing → Col → Place
place_of p s c = place_at s (number_in p c)

-- Whether the artificial of row r is negative.
abbrev pub is_negative : Standing → ℕ → Bool
is_negative s r = slice_index_or s.negative r false

-- The linear program of the standing's stage, with its signs.
abbrev pub stage_of : LinearProgram → Standing → Stage
stage_of p s = stage_in (layout_of p) s.stage (is_negative s)

-- How many rows its stage has.
abbrev pub rows_of : LinearProgram → Standing → ℕ
rows_of p s = rows_in (layout_of p) s.stage

-- A column is of the standing's stage.
abbrev pub HasColumn : LinearProgram → Standing → Col → Type 0
HasColumn p s c = IsPresent (layout_of p) s.stage c

-- A column with these bounds may stand in this place: among the basic ones, at a bound that it has, or at zero where
-- it has none.
abbrev pub MayStandIn : Option ℚ → Option ℚ → Place → Type 0
MayStandIn l u Lower = l ≢ None
MayStandIn l u Upper = u ≢ None
MayStandIn l u Zero = (l ≡ None) × (u ≡ None)
MayStandIn l u Absent = ⊥
MayStandIn l u Basic = Unit {0}

-- The column with number j may stand where it stands, and is absent where the stage lacks it.
pub record FitsAt (p : LinearProgram) (s : Standing) (j : ℕ) : Type 0 where
  pub present : HasColumn p s (column_in p j) → MayStandIn (lower_in p (column_in p j)) (upper_in p (column_in p j)) (place_at s j)
  pub absent : (HasColumn p s (column_in p j) → ⊥) → place_at s j ≡ Absent

-- A standing is a state of the program: it has one place for each column, which fits, and one sign for each row of its
-- stage.
pub record IsStateOf (p : LinearProgram) (s : Standing) : Type 0 where
  pub one_place_each : length s.places ≡ all_columns (layout_of p)
  pub one_sign_each : length s.negative ≡ rows_of p s
  pub fits : HoldsOfColumns p (FitsAt p s)

-- The phases: the first drives the artificials to 0, and the second lowers the cost.
pub data Phase : Type 0 where
  PhaseOne : Phase
  PhaseTwo : Phase

-- The costs of a phase, by number of the column.
abbrev pub costs_of : LinearProgram → Phase → ℕ → ℚ
costs_of p PhaseOne = ones (layout_of p)
costs_of p PhaseTwo = twos (layout_of p)

-- The basic columns of a standing are a basis of its stage.
abbrev pub IsBasisOf : LinearProgram → Standing → Type 0
IsBasisOf p s = IsBasis (stage_of p s) (place_at s)

-- x are its values, by number of the column.
abbrev pub AreValuesOf : LinearProgram → Standing → (ℕ → ℚ) → Type 0
AreValuesOf p s x = IsValues (stage_of p s) (place_at s) x

-- w are the entries of column c: the weights of basic columns, by number, that give it.
abbrev pub AreEntriesOf : LinearProgram → Standing → Col → (ℕ → ℚ) → Type 0
AreEntriesOf p s c w = AreEntries (stage_of p s) (place_at s) (number_in p c) w

-- w is inverse column r: the weights of basic columns, by number, that give the unit column of row r.
abbrev pub IsInverseColumnOf : LinearProgram → Standing → ℕ → (ℕ → ℚ) → Type 0
IsInverseColumnOf p s r w = IsInverseColumn (stage_of p s) (place_at s) r w

-- y are its duals of a phase, by row.
abbrev pub AreDualsOf : LinearProgram → Standing → Phase → (ℕ → ℚ) → Type 0
AreDualsOf p s phase y = AreDuals (stage_of p s) (place_at s) (costs_of p phase) y

-- The reduced cost in a phase of the column with number j, by y.
abbrev pub reduced_in : LinearProgram → Standing → Phase → (ℕ → ℚ) → ℕ → ℚ
reduced_in p s phase y j = reduced (stage_of p s) (costs_of p phase) y j

-- It is a state of the program, and lexicographically feasible.
pub record IsFeasibleState (p : LinearProgram) (s : Standing) : Type 0 where
  pub state : IsStateOf p s
  pub feasible : IsLexFeasible (stage_of p s) (place_at s)
