-- What the functions below `limit` compute: bounds ahead, ratios by place, which are the slots and then the entering
-- column itself, and the one that is the least.
-- `limit` rests on them.
use Rattle.std.specs.Prelude.{◌≡◌, ℕ, suc, zero, ◌-◌, ◌<◌, ◌≤◌, ◌⊎◌, Bool, List, length, Option, Some, None, option_map, pos, negsuc, ℤ, nat_lt, if◌then◌else◌}
use Rattle.nf_num.specs.Rational.{ℚ, zero_ℚ, numer, ◌-ℚ◌, ◌*ℚ◌, inv_ℚ}
use Rattle.nf_model.specs.Program.{LinearProgram, at}
use Rattle.nf_prob.specs.Numbers.{IsNumber}
use Rattle.nf_sums.specs.Terms.{Terms}
use Rattle.nf_sums.specs.Rows.{quotient_terms}
use Rattle.nf_simplex.specs.Step.{signed}
use Rattle.nf_simplex.specs.Layout.{layout_of}
use Rattle.nf_simplex.specs.Columns.{col_lower, col_upper}
use Rattle.nf_simplex.specs.Columns as columns
use Rattle.nf_simplex.specs.Standing.{Standing, rows_of, AreEntriesOf, IsFeasibleState, IsInverseColumnOf}
use Rattle.nf_basis.specs.declared.col.Col.{Col}
use Rattle.nf_basis.specs.declared.col.Col.TheVariants.{Given, Slack, Artificial}
use Rattle.nf_basis.specs.declared.col.Place.{Place}
use Rattle.nf_basis.specs.declared.col.Place.TheVariants.{Lower, Upper, Zero, Basic, Absent}
use Rattle.nf_basis.specs.Names.{col_of}
use Rattle.nf_basis.specs.Kept.{number}
use Rattle.nf_basis.specs.Numbers.{in_slot, slot_number}
use Rattle.nf_ratio.specs.declared.answer.Limit.{Limit}
use Rattle.nf_ratio.specs.declared.answer.Limit.TheVariants.{Leave, Flip, Ray}
use Rattle.nf_ratio.specs.Ratios.{MoveNumbers, Limits, IsLeastIn}
use Rattle.nf_ratio.specs.Ties.{tie}

-- ---- bounds
-- The bound to which a basic column moves whose entry has this numerator.
abbrev pub place_by : Bool → ℤ → Option Place
place_by down (pos zero) = None
place_by down (pos (suc n)) = if down then Some Upper else Some Lower
place_by down (negsuc n) = if down then Some Lower else Some Upper

-- The same, by the entry.
abbrev pub place_ahead : Bool → ℚ → Option Place
place_ahead down entry = place_by down (numer entry)

-- A name whose number is one of the program's.
abbrev pub IsColumnOf : LinearProgram → Col → Type 0
IsColumnOf p (Given j) = IsNumber j (length p.columns)
IsColumnOf p (Slack i) = Unit {0}
IsColumnOf p (Artificial i) = Unit {0}

-- A column's bound in a place.
abbrev pub bound_at : LinearProgram → Col → Place → Option ℚ
bound_at p c Lower = col_lower (layout_of p) (col_of c)
bound_at p c Upper = col_upper (layout_of p) (col_of c)
bound_at p c Zero = None
bound_at p c Basic = None
bound_at p c Absent = None

-- A column's bound in a place that may be missing.
abbrev pub bound_in : LinearProgram → Col → Option Place → Option ℚ
bound_in p c None = None
bound_in p c (Some place) = bound_at p c place

-- ---- ratios by slot
-- What is divided by the entry, with the sign of the direction.
abbrev pub turned : Bool → ℚ → ℚ → ℚ
turned down way entry = signed down (way *ℚ inv_ℚ entry)

-- The ratio of the values in a slot.
abbrev pub first_ratio : LinearProgram → List Col → (ℕ → ℚ) → Bool → List ℚ → ℕ → Option ℚ
first_ratio p slots x down entries i = option_map (λ b. turned down (x (slot_number p slots i) -ℚ b) (at entries i)) (bound_in p (in_slot slots i) (place_ahead down (at entries i)))

-- The distance of two bounds, where both are there.
abbrev pub distance_of : Option ℚ → Option ℚ → Option ℚ
distance_of None u = None
distance_of (Some l) None = None
distance_of (Some l) (Some u) = Some (u -ℚ l)

-- The distance of a column's bounds.
abbrev pub span_of : LinearProgram → Col → Option ℚ
span_of p c = distance_of (col_lower (layout_of p) (col_of c)) (col_upper (layout_of p) (col_of c))

-- The ratio of the values in a place: that of a slot, and the distance of the entering column's bounds in the last one.
abbrev pub value_ratio_at : LinearProgram → List Col → (ℕ → ℚ) → Col → Bool → List ℚ → ℕ → Option ℚ
value_ratio_at p slots x c down entries i = if nat_lt i (length entries) then first_ratio p slots x down entries i else span_of p c

-- Of the places that tie, each slot's weight in the inverse column of row i, which counts from 1: that of the k-th in place k.
pub record AreTiedWeights (p : LinearProgram) (s : Standing) (slots : List Col) (i : ℕ) (ts : List ℕ) (count : ℕ) (out : List ℚ) : Type 0 where
  pub weights : ℕ → ℚ
  pub are_weights : IsInverseColumnOf p s (i - 1) weights
  pub by_tie : (k : ℕ) → k < count → tie ts k < rows_of p s → at out k ≡ weights (slot_number p slots (tie ts k))

-- The ratio in place i, where this is the weight there in an inverse column: 0 in the last one.
abbrev pub weight_ratio_at : Bool → List ℚ → ℚ → ℕ → ℚ
weight_ratio_at down entries weight i = if nat_lt i (length entries) then turned down weight (at entries i) else zero_ℚ

-- The quotients of which those in the first n places of a list are.
abbrev pub WeightTerms : List ℚ → List ℚ → List ℕ → ℕ → Terms → Type 0
WeightTerms entries weights ts n t = (k : ℕ) × (k < n) × (tie ts k < length entries) × (t ≡ quotient_terms (at weights k) (at entries (tie ts k)))

-- ---- the least
-- The column whose ratio stands in a place: the one in a slot, and the entering one in the last place.
abbrev pub limiting : LinearProgram → List Col → Col → ℕ → ℕ
limiting p slots c i = if nat_lt i (length slots) then slot_number p slots i else number p c

-- The numbers of a lexicographically feasible state, and these entries.
abbrev pub numbers_by : (p : LinearProgram) (s : Standing) (c : columns.Col) → IsFeasibleState p s → (w : ℕ → ℚ) → AreEntriesOf p s c w → MoveNumbers p s c
numbers_by p s c f w a = record {
  values = f.feasible.values;
  inverse = f.feasible.inverse;
  entries = w;
  are_values = f.feasible.are_values;
  are_inverse = f.feasible.are_inverse;
  are_entries = a;
}

-- The place has the least ratio of all columns that limit the move of c.
pub record HasLeast (p : LinearProgram) (s : Standing) (slots : List Col) (c : Col) (down : Bool) (i : ℕ) : Type 0 where
  pub feasible : IsFeasibleState p s
  pub entries : ℕ → ℚ
  pub are_entries : AreEntriesOf p s (col_of c) entries
  pub ratio : ℕ → ℚ
  pub within : i ≤ length slots
  pub limits : Limits p s (col_of c) down (numbers_by p s (col_of c) feasible entries are_entries) (limiting p slots c i) ratio
  pub least : IsLeastIn p s (col_of c) down (numbers_by p s (col_of c) feasible entries are_entries) (suc (rows_of p s)) ratio

-- No column limits the move of c.
pub record IsFree (p : LinearProgram) (s : Standing) (c : Col) (down : Bool) : Type 0 where
  pub feasible : IsFeasibleState p s
  pub entries : ℕ → ℚ
  pub are_entries : AreEntriesOf p s (col_of c) entries
  pub none : (j : ℕ) (q : ℕ → ℚ) → Limits p s (col_of c) down (numbers_by p s (col_of c) feasible entries are_entries) j q → ⊥

-- The place of the least ratio, where a column limits the move.
abbrev pub IsWinner : LinearProgram → Standing → List Col → Col → Bool → Option ℕ → Type 0
IsWinner p s slots c down None = IsFree p s c down
IsWinner p s slots c down (Some i) = HasLeast p s slots c down i

-- What a place of the least ratio is answered by: none by a ray, the last one by a flip, and a slot by its column and
-- the bound to which that moves.
abbrev pub IsAnswer : Bool → List ℚ → Option ℕ → Limit → Type 0
IsAnswer down entries None answer = answer ≡ Ray
IsAnswer down entries (Some i) answer =
    ((i ≡ length entries) × (answer ≡ Flip))
    ⊎ ((i < length entries) × ((to : Place) → place_ahead down (at entries i) ≡ Some to → answer ≡ Leave i to))
