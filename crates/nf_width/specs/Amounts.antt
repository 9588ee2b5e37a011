-- Numbers that are whole multiples of a part of 1, with a bound, and problems whose data are such.
-- The range law of stage one is about problems with such data.
use Rattle.std.specs.Prelude.{◌≡◌, ℕ, ◌<◌, ◌≤◌, ◌^◌, ℤ, pos, nat_abs, length, Some}
use Rattle.std.specs.List.{All}
use Rattle.nf_num.specs.Rational.{ℚ, ◌*ℚ◌, of_ℤ}
use Rattle.nf_model.specs.Program.{LinearProgram, column, row, lower_of, upper_of}
use Rattle.nf_grove.specs.Sizes.{total}
use Rattle.nf_simplex.specs.Layout.{layout_of}
use Rattle.nf_simplex.specs.Columns.{all_columns}

-- x is a whole number of d-ths, and at most n of them, above 0 or below.
pub record IsWhole (d n : ℕ) (x : ℚ) : Type 0 where
  pub top : ℤ
  pub is : x *ℚ of_ℤ (pos d) ≡ of_ℤ top
  pub small : nat_abs top ≤ n

-- x is a number of the data: at most 10^12 thousandths, as nine digits and three decimals are.
abbrev pub IsAmount : ℚ → Type 0
IsAmount x = IsWhole 1000 (10 ^ 12) x

-- The data are amounts, the nodes and columns are not too many, and the magnitudes of the nodes' right sides are at most
-- 10^17 thousandths together.
pub record HasAmounts (p : LinearProgram) : Type 0 where
  pub few_nodes : p.nodes ≤ 20001
  pub few_given : length p.columns ≤ 225000
  pub few_columns : all_columns (layout_of p) ≤ 250000
  pub costs : (j : ℕ) → j < length p.columns → IsAmount (column p j).cost
  pub lowers : (j : ℕ) (b : ℚ) → j < length p.columns → lower_of (column p j) ≡ Some b → IsAmount b
  pub uppers : (j : ℕ) (b : ℚ) → j < length p.columns → upper_of (column p j) ≡ Some b → IsAmount b
  pub entries : (j : ℕ) → j < length p.columns → All (λ e. IsAmount e.value) (column p j).entries
  pub side_rights : (i : ℕ) → p.nodes ≤ i → i < length p.rows → IsAmount (row p i).right
  pub right_most : ℕ → ℕ
  pub rights : (i : ℕ) → i < p.nodes → IsWhole 1000 (right_most i) (row p i).right
  pub together : total p.nodes right_most ≤ 10 ^ 17
