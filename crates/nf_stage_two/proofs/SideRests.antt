-- What a side row lacks at the start of stage two, and where its operations arise.
use Rattle.std.proofs.Common.{◌≡◌, ◌⊎◌, inl, inr, ◌↔◌, ℕ, ◌+◌, ◌-◌, ◌<◌, ◌≤◌, Bool, true, false, not, IsTrue, length, Option, Some, None, refl, sym, ap, ◌∙◌, subst, arith}
use Rattle.nf_num.specs.Rational.{ℚ, zero_ℚ, ◌-ℚ◌, ◌<ℚ◌, ◌≤ℚ◌}
use Rattle.nf_num.proofs.Laws.{le_or_lt, not_le_of_lt}
use Rattle.nf_frac.specs.declared.Passed.{Passed}
use Rattle.nf_model.specs.Program.{LinearProgram, row, column, coefficient, lower_of, upper_of}
use Rattle.nf_sums.specs.Terms.{PassesIn, Is}
use Rattle.nf_sums.proofs.Laws.{wider}
use Rattle.nf_simplex.specs.Layout.{layout_of}
use Rattle.nf_simplex.specs.Columns as columns
use Rattle.nf_simplex.specs.Columns.{col_at, col_lower, col_upper}
use Rattle.nf_simplex.specs.StageOf.{StageOne, IsPresent as IsOfStage}
use Rattle.nf_simplex.specs.Starts.{second_number, second_rest, nonarc_number}
use Rattle.nf_simplex.specs.Standing.{Standing, HasColumn, MayStandIn, AreValuesOf}
use Rattle.nf_simplex.proofs.FieldLaws.{mul_comm}
use Rattle.nf_simplex.proofs.Numbered.{number_within, col_number}
use Rattle.nf_simplex.proofs.Orders.{less_or_not, yes_less, not_less}
use Rattle.nf_simplex.proofs.StageOf.{column_given}
use Rattle.nf_simplex.proofs.Sum.{sum_ext}
use Rattle.nf_basis.specs.declared.col.Col.{Col}
use Rattle.nf_basis.specs.declared.col.Col.TheVariants.{Given, Artificial}
use Rattle.nf_basis.specs.Names.{col_of}
use Rattle.nf_basis.specs.Kept.{Kept, IsStateOf, IsPresent, MayStand, number, place_in}
use Rattle.nf_basis.specs.Arising.{StateTerms, count_columns, IsBoundAt, HasValueAt, AreStanding, rest_at, rest_row}
use Rattle.nf_basis.specs.Arising.StateTerms.{standing_rest}

-- ---- columns of stage one
pub arc_present : (p : LinearProgram) (s : Standing) (j : ℕ) → s.stage ≡ StageOne → j < p.arcs → IsPresent p s (Given (j + 1))
arc_present p s j one h = (omega arith, subst (λ n. IsOfStage (layout_of p) n (columns.Given (j + 1 - 1))) (sym one) (omega arith))

pub node_present : (p : LinearProgram) (s : Standing) (i : ℕ) → s.stage ≡ StageOne → i < p.nodes → IsPresent p s (Artificial (i + 1))
node_present p s i one h = (omega arith, subst (λ n. IsOfStage (layout_of p) n (columns.Artificial (i + 1 - 1))) (sym one) (omega arith))

-- A column may stand where it stands in a state.
pub may_there : (p : LinearProgram) (k : Kept) (c : Col) → IsStateOf p k → IsPresent p k.standing c → MayStand p c (place_in p k.standing c)
may_there p k c st h =
    subst (λ d. MayStandIn (col_lower (layout_of p) d) (col_upper (layout_of p) d) (place_in p k.standing c)) named
    ((st.fits.fits (number p c) (number_within (layout_of p) k.standing.stage (col_of c) st.problem.arcs_within h.1)).present (subst (HasColumn p k.standing) (sym named) h.1))
  where
    named : col_at (layout_of p) (number p c) ≡ col_of c
    named = col_number (layout_of p) k.standing.stage (col_of c) st.problem.arcs_within h.1

-- ---- rests
pub second_rest_is : (p : LinearProgram) (x : ℕ → ℚ) (i : ℕ) → rest_at p (second_number (layout_of p) x) i ≡ second_rest (layout_of p) x i
second_rest_is p x i = ap (λ z. (row p i).right -ℚ z) (sum_ext (length p.columns) _ _ (λ j h. mul_comm (coefficient p i j) (second_number (layout_of p) x j)))

nonarc_or_zero : (P : ℚ → Type 0) (l u : Option ℚ) → ((b : ℚ) → (l ≡ Some b) ⊎ (u ≡ Some b) → P b) → P zero_ℚ → P (nonarc_number l u)
nonarc_or_zero P (Some l) u bounds z = bounds l (inl refl)
nonarc_or_zero P None (Some u) bounds z = bounds u (inr refl)
nonarc_or_zero P None None bounds z = z

module _ (p : LinearProgram) (s : Standing) (x : ℕ → ℚ) (are : AreValuesOf p s x) where
  abbrev Stands : ℕ → ℚ → Type 0
  Stands j v = IsBoundAt p s j v ⊎ HasValueAt p s j v ⊎ (v ≡ zero_ℚ)

  standing : AreStanding p s (second_number (layout_of p) x)
  standing j h = of (less_or_not j p.arcs)
    where
      bounds : (b : ℚ) → (lower_of (column p j) ≡ Some b) ⊎ (upper_of (column p j) ≡ Some b) → Stands j b
      bounds b (inl e) = inl (inl (ap (col_lower (layout_of p)) (column_given (layout_of p) j h) ∙ e))
      bounds b (inr e) = inl (inr (ap (col_upper (layout_of p)) (column_given (layout_of p) j h) ∙ e))

      of : (j < p.arcs) ⊎ (p.arcs ≤ j) → Stands j (second_number (layout_of p) x j)
      of (inl l) = inr (inl ((let m : j < count_columns p = omega arith in m), x, are, yes_less j p.arcs (x j) _ l))
      of (inr l) = subst (Stands j) (sym (not_less j p.arcs (x j) _ l)) (nonarc_or_zero (Stands j) (lower_of (column p j)) (upper_of (column p j)) bounds (inr (inr refl)))

  pub second_arises : (i : ℕ) → i < length p.rows → (c : Passed) → PassesIn (Is (rest_row p (second_number (layout_of p) x) i)) c → PassesIn (StateTerms p s) c
  second_arises i h c = wider (Is (rest_row p (second_number (layout_of p) x) i)) (StateTerms p s) c (λ t e. subst (StateTerms p s) (sym e) (standing_rest i (second_number (layout_of p) x) h standing))

-- ---- signs
pub not_below : (b : Bool) (r : ℚ) → IsTrue b ↔ (r <ℚ zero_ℚ) → IsTrue (not b) ↔ (zero_ℚ ≤ℚ r)
not_below true r e = (λ z. cc, λ z. absurd (not_le_of_lt r zero_ℚ (e.0 refl) z))
not_below false r e = (λ z. of (le_or_lt zero_ℚ r), λ z. refl)
  where
    of : (zero_ℚ ≤ℚ r) ⊎ (r <ℚ zero_ℚ) → zero_ℚ ≤ℚ r
    of (inl l) = l
    of (inr l) = absurd (let x : false ≡ true = e.1 l in cc)
