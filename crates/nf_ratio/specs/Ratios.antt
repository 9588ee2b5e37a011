-- How far a column moves until a basic column, or it itself, meets a bound: ratios, as vectors.
-- The ratio test answers by the least of them, and looks at as many inverse columns as tell it.
use Rattle.std.specs.Prelude.{◌≡◌, ℕ, suc, ◌<◌, ◌⊎◌, Bool, true, false, Option, Some}
use Rattle.nf_num.specs.Rational.{ℚ, zero_ℚ, neg_ℚ, ◌-ℚ◌, ◌*ℚ◌, ◌<ℚ◌}
use Rattle.nf_model.specs.Program.{LinearProgram}
use Rattle.nf_simplex.specs.Place.{Basic}
use Rattle.nf_simplex.specs.Stage.{Stage}
use Rattle.nf_simplex.specs.Lex.{IsLexLess, bound_vector, vector}
use Rattle.nf_simplex.specs.Step.{signed}
use Rattle.nf_simplex.specs.Columns.{Col}
use Rattle.nf_simplex.specs.Standing.{Standing, number_in, place_at, stage_of, rows_of, AreValuesOf, AreEntriesOf, IsInverseColumnOf}

-- The numbers of a state that decide about the move of a column: its values, its inverse columns and the column's
-- entries.
pub record MoveNumbers (p : LinearProgram) (s : Standing) (c : Col) : Type 0 where
  pub values : ℕ → ℚ
  pub inverse : ℕ → ℕ → ℚ
  pub entries : ℕ → ℚ
  pub are_values : AreValuesOf p s values
  pub are_inverse : (r : ℕ) → r < rows_of p s → IsInverseColumnOf p s r (inverse r)
  pub are_entries : AreEntriesOf p s c entries

-- The upper bound of column j, or the lower one.
abbrev pub bound_on : Stage → Bool → ℕ → Option ℚ
bound_on S true j = S.upper j
bound_on S false j = S.lower j

-- A column that moves at rate v moves up, or down.
abbrev pub IsTowards : Bool → ℚ → Type 0
IsTowards true v = zero_ℚ <ℚ v
IsTowards false v = v <ℚ zero_ℚ

-- The rate of a basic column with entry w: it moves against its entry, and so turned where the entering column moves
-- down.
abbrev pub rate : Bool → ℚ → ℚ
rate down w = signed down (neg_ℚ w)

-- Basic column j meets a bound, towards which it moves; r is the way there, by the vector of j, divided by its rate.
pub record Meets (p : LinearProgram) (s : Standing) (c : Col) (down : Bool) (n : MoveNumbers p s c) (j : ℕ) (r : ℕ → ℚ) : Type 0 where
  pub within : j < (stage_of p s).columns
  pub basic : place_at s j ≡ Basic
  pub up : Bool
  pub bound : ℚ
  pub is_bound : bound_on (stage_of p s) up j ≡ Some bound
  pub towards : IsTowards up (rate down (n.entries j))
  pub ratio : (k : ℕ) → k < suc (rows_of p s) → r k *ℚ rate down (n.entries j) ≡ bound_vector bound k -ℚ vector (stage_of p s) n.values n.inverse j k

-- Column c has two bounds, and r is their distance, and then zeros.
pub record Spans (p : LinearProgram) (s : Standing) (c : Col) (r : ℕ → ℚ) : Type 0 where
  pub low : ℚ
  pub high : ℚ
  pub is_low : (stage_of p s).lower (number_in p c) ≡ Some low
  pub is_high : (stage_of p s).upper (number_in p c) ≡ Some high
  pub ratio : (k : ℕ) → k < suc (rows_of p s) → r k ≡ bound_vector (high -ℚ low) k

-- Column j limits the move of column c, with ratio r.
abbrev pub Limits : (p : LinearProgram) (s : Standing) (c : Col) → Bool → MoveNumbers p s c → ℕ → (ℕ → ℚ) → Type 0
Limits p s c down n j r = Meets p s c down n j r ⊎ ((j ≡ number_in p c) × Spans p s c r)

-- No column's ratio is less in the first m members.
abbrev pub IsLeastIn : (p : LinearProgram) (s : Standing) (c : Col) → Bool → MoveNumbers p s c → ℕ → (ℕ → ℚ) → Type 0
IsLeastIn p s c down n m r = (j : ℕ) (q : ℕ → ℚ) → Limits p s c down n j q → IsLexLess m q r → ⊥

-- After t inverse columns the least ratio stands alone: of the columns whose ratios are least in the value and the
-- weights in these inverse columns, no two differ.
abbrev pub StandsAloneAfter : LinearProgram → Standing → Col → Bool → ℕ → Type 0
StandsAloneAfter p s c down t =
    (n : MoveNumbers p s c) (j k : ℕ) (r q : ℕ → ℚ) → Limits p s c down n j r → Limits p s c down n k q → IsLeastIn p s c down n (suc t) r → IsLeastIn p s c down n (suc t) q → j ≡ k
