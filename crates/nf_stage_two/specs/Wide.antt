-- The basis of the start of stage two by parts: its slots, their values, and its inverse column by column.
-- `widen` makes them from a basis of stage one.
use Rattle.std.specs.Prelude.{◌≡◌, ◌≢◌, ℕ, suc, ◌+◌, ◌-◌, ◌<◌, Bool, true, false, not, List, length, nat_eq, if◌then◌else◌}
use Rattle.nf_num.specs.Rational.{ℚ, zero_ℚ, one_ℚ, ◌*ℚ◌}
use Rattle.nf_num.specs.Sum.{sum_ℚ}
use Rattle.nf_model.specs.declared.RowKind.{RowKind}
use Rattle.nf_model.specs.declared.RowKind.TheVariants.{Eq, Le, Ge}
use Rattle.nf_model.specs.Program.{LinearProgram, at, row, coefficient}
use Rattle.nf_inverse.specs.Weights.{weight}
use Rattle.nf_sums.specs.Terms.{with_sign}
use Rattle.nf_simplex.specs.Place as model
use Rattle.nf_simplex.specs.Columns as columns
use Rattle.nf_simplex.specs.Standing.{Standing, place_of, is_negative, IsInverseColumnOf}
use Rattle.nf_basis.specs.declared.col.Col.{Col}
use Rattle.nf_basis.specs.declared.col.Col.TheVariants.{Given, Slack, Artificial}
use Rattle.nf_basis.specs.Numbers.{in_slot, slot_number}

-- ---- slots
-- The column is the basic one of side row q: the row's slack or its artificial.
pub data IsOwnColumn (p : LinearProgram) (t : Standing) (q : ℕ) : Col → Type 0 where
  slack : place_of p t (columns.Slack (p.nodes + q)) ≡ model.Basic → IsOwnColumn p t q (Slack (suc (p.nodes + q)))
  artificial : place_of p t (columns.Slack (p.nodes + q)) ≢ model.Basic → IsOwnColumn p t q (Artificial (suc (p.nodes + q)))

-- The slots are those of the first basis, and then one for each side row's own column.
pub record AreWideSlots (p : LinearProgram) (t : Standing) (first slots : List Col) : Type 0 where
  pub as_many : length slots ≡ length p.rows
  pub first_ones : (k : ℕ) → k < p.nodes → in_slot slots k ≡ in_slot first k
  pub own_ones : (q : ℕ) → p.nodes + q < length p.rows → IsOwnColumn p t q (in_slot slots (p.nodes + q))

-- Whether the slack of a row of this kind has the entry -1.
abbrev pub is_ge : RowKind → Bool
is_ge Eq = false
is_ge Le = false
is_ge Ge = true

-- Whether the entry of a slack or an artificial is -1.
abbrev pub is_turned : LinearProgram → Standing → Col → Bool
is_turned p t (Given j) = false
is_turned p t (Slack i) = is_ge (row p (i - 1)).kind
is_turned p t (Artificial i) = is_negative t (i - 1)

-- Whether that of the column in the slot of side row q is.
abbrev pub is_own_turned : LinearProgram → Standing → List Col → ℕ → Bool
is_own_turned p t slots q = is_turned p t (in_slot slots (p.nodes + q))

-- ---- values
-- The values by slot: those x of the first basis, and for each side row what it lacks, negated where its own column's
-- entry is -1.
pub record AreWideValues (p : LinearProgram) (t : Standing) (x lacks : ℕ → ℚ) (slots : List Col) (values : List ℚ) : Type 0 where
  pub as_many : length values ≡ length p.rows
  pub first_ones : (k : ℕ) → k < p.nodes → at values k ≡ x (slot_number p slots k)
  pub own_ones : (q : ℕ) → p.nodes + q < length p.rows → at values (p.nodes + q) ≡ with_sign (is_own_turned p t slots q) (lacks (p.nodes + q))

-- ---- the inverse
-- What the weights v of the given columns come to in row i.
abbrev pub sum_in_row : LinearProgram → (ℕ → ℚ) → ℕ → ℚ
sum_in_row p v i = sum_ℚ (length p.columns) (λ j. coefficient p i j *ℚ v j)

-- The weight of a slot at node row r: that v of the first basis, and in the slot of a side row what these weights come to
-- in this row, with the sign turned against that of its own column.
pub record HasWideWeight (p : LinearProgram) (t : Standing) (slots : List Col) (v : ℕ → ℚ) (k : ℕ) (a : ℚ) : Type 0 where
  pub first_one : k < p.nodes → a ≡ v (slot_number p slots k)
  pub own_one : (q : ℕ) → k ≡ p.nodes + q → a ≡ with_sign (not (is_own_turned p t slots q)) (sum_in_row p v (p.nodes + q))

-- All slots have these weights at node row r, from those of the first basis.
pub record IsNodeColumn (p : LinearProgram) (s t : Standing) (slots : List Col) (w : List (List ℚ)) (r : ℕ) : Type 0 where
  pub weights : ℕ → ℚ
  pub are_weights : IsInverseColumnOf p s r weights
  pub each : (k : ℕ) → k < length p.rows → HasWideWeight p t slots weights k (weight w k r)

-- The inverse has the columns of the first n node rows, and those of all side rows: 1 or -1 in the own slot.
pub record IsWideBelow (p : LinearProgram) (s t : Standing) (slots : List Col) (n : ℕ) (w : List (List ℚ)) : Type 0 where
  pub size : length w ≡ length p.rows
  pub nodes : (r : ℕ) → r < n → IsNodeColumn p s t slots w r
  pub sides : (k q : ℕ) → k < length p.rows → p.nodes + q < length p.rows → weight w k (p.nodes + q) ≡ (if nat_eq k (p.nodes + q) then with_sign (is_turned p t (in_slot slots k)) one_ℚ else zero_ℚ)

-- The weights of the given columns by number: those by slot of the first m slots, and 0 for a column in none of them.
pub record AreSpread (p : LinearProgram) (slots : List Col) (m : ℕ) (by_slot spread : List ℚ) : Type 0 where
  pub as_many : length spread ≡ length p.columns
  pub in_slots : (k : ℕ) → k < m → slot_number p slots k < length p.columns → at spread (slot_number p slots k) ≡ at by_slot k
  pub others : (j : ℕ) → j < length p.columns → ((k : ℕ) → k < m → slot_number p slots k ≢ j) → at spread j ≡ zero_ℚ
