-- The duals that a dense basis keeps, the reduced cost of a column by them, and what a pivot adds to them.
-- Its `HasNumbers` and its `pivot` rest on them.
use Rattle.std.specs.Prelude.{◌≡◌, ◌≢◌, ℕ, ◌<◌, true, List, length}
use Rattle.nf_num.specs.Rational.{ℚ, ◌-ℚ◌, ◌*ℚ◌, inv_ℚ}
use Rattle.nf_num.specs.Sum.{sum_ℚ, delta}
use Rattle.nf_model.specs.Program.{LinearProgram, at}
use Rattle.nf_sums.specs.Terms.{Terms}
use Rattle.nf_sums.specs.Rows.{reduced_cost_terms}
use Rattle.nf_simplex.specs.Place as model
use Rattle.nf_simplex.specs.Changes.{exchanged}
use Rattle.nf_simplex.specs.Standing.{Standing, place_at, stage_of, rows_of}
use Rattle.nf_basis.specs.declared.col.Col.{Col}
use Rattle.nf_basis.specs.declared.col.Phase.{Phase}
use Rattle.nf_basis.specs.declared.duals.Duals.{Duals}
use Rattle.nf_basis.specs.Names.{col_of}
use Rattle.nf_basis.specs.Kept.{number}
use Rattle.nf_basis.specs.Numbers.{AreDualsByRow}
use Rattle.nf_basis.specs.Arising.{count_columns, HasWeightAt, IsPivotAt}

-- A cost less what the duals y pay for a column that has a at the rows.
abbrev pub less_paid : ℚ → List ℚ → (ℕ → ℚ) → ℚ
less_paid cost y a = cost -ℚ sum_ℚ (length y) (λ i. at y i *ℚ a i)

-- Its row of terms.
abbrev pub PriceTerms : ℚ → List ℚ → (ℕ → ℚ) → Terms → Type 0
PriceTerms cost y a t = t ≡ reduced_cost_terms cost (length y) (at y) a

-- Kept duals have a place for each row of the stage, and where they are known they are the duals of the phase.
pub record KeepsDuals (p : LinearProgram) (s : Standing) (phase : Phase) (d : Duals) : Type 0 where
  pub one_each : length d.by_row.items ≡ rows_of p s
  pub are : d.known ≡ true → AreDualsByRow p s phase d.by_row.items

-- The state after a pivot: column e is basic, and column l stands in place a.
abbrev pub after_pivot : LinearProgram → Standing → Col → Col → model.Place → Standing
after_pivot p s e l a = exchanged p s (col_of e) (col_of l) a

-- The weights, by row, of the slot in which column e stands after a pivot in place of l: those of l before it, divided by
-- the entry of e at l. In a combination of the new basic columns they give e the weight 1 and each other one 0.
pub record IsPivotRow (p : LinearProgram) (s : Standing) (e l : Col) (a : model.Place) (w : List ℚ) : Type 0 where
  pub entries : ℕ → ℚ
  pub pivots : IsPivotAt p s (col_of e) (number p l) entries
  pub divided : (i : ℕ) → i < rows_of p s → (v : ℚ) × HasWeightAt p s (number p l) v × (at w i ≡ v *ℚ inv_ℚ (entries (number p l)))
  pub gives : (j : ℕ) → j < count_columns p → place_at (after_pivot p s e l a) j ≡ model.Basic → sum_ℚ (rows_of p s) (λ i. at w i *ℚ (stage_of p s).entry j i) ≡ delta (number p e) j
  pub others : (j : ℕ) → j < count_columns p → place_at (after_pivot p s e l a) j ≡ model.Basic → j ≢ number p e → place_at s j ≡ model.Basic
