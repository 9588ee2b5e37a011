-- In which direction a column would lower the costs.
use Rattle.std.proofs.Common.{◌≡◌, ◌⊎◌, inl, inr, ◌↔◌, ℕ, ◌≤◌, Bool, true, false, not, IsTrue, None, length, refl, sym, ap, ◌∙◌, subst}
use Rattle.nf_num.specs.Rational.{ℚ, zero_ℚ, ◌<ℚ◌}
use Rattle.nf_model.specs.Program.{LinearProgram}
use Rattle.nf_simplex.specs.Columns.{Col, col_at}
use Rattle.nf_simplex.specs.Layout.{layout_of}
use Rattle.nf_simplex.specs.Moves.{Prices, WouldLower, HasEndedUnboundedIn}
use Rattle.nf_simplex.specs.Objective.{Improves}
use Rattle.nf_simplex.specs.Place as model
use Rattle.nf_simplex.specs.Standing.{Standing, Phase, PhaseOne, PhaseTwo, number_in, lower_in, upper_in, place_at, stage_of, costs_of, HasColumn, MayStandIn, IsStateOf, IsBasisOf, AreDualsOf, reduced_in}
use Rattle.nf_simplex.proofs.Numbered.{number_within, col_number}
use Rattle.nf_simplex.proofs.FieldLaws.{less_irrefl, less_trans}
use Rattle.nf_simplex.proofs.Same.{reduced_same}
use Rattle.nf_simplex.proofs.Standings.{duals_are_unique}
use Rattle.nf_basis.specs.declared.col.Place.{Place}
use Rattle.nf_basis.specs.declared.col.Place.TheVariants.{Lower, Basic, Absent}
use Rattle.nf_basis.specs.Names.{place_of}
use Rattle.nf_certify.specs.Deciding.{IsCostIn, IsDecidingCost}

none_at_zero : (down : Bool) → Improves down zero_ℚ → ⊥
none_at_zero true h = less_irrefl zero_ℚ h
none_at_zero false h = less_irrefl zero_ℚ h

-- A cost that lowers the total in a direction has its sign.
turns : (down below : Bool) (d : ℚ) → Improves down d → IsTrue below ↔ (d <ℚ zero_ℚ) → not below ≡ down
turns true true d h e = absurd (less_irrefl zero_ℚ (less_trans zero_ℚ d zero_ℚ h (e.0 refl)))
turns true false d h e = refl
turns false true d h e = refl
turns false false d h e = absurd (let x : false ≡ true = e.1 h in cc)

pub ended_lowers : (p : LinearProgram) (s : Standing) (c : Col) (down : Bool) → HasEndedUnboundedIn p s c down → WouldLower p s c down
ended_lowers p s c down h = record { prices = h.0; enters = h.1.enters; improves = h.1.improves }

module _ (p : LinearProgram) (s : Standing) (basis : IsBasisOf p s) (c : Col) where
  -- A column has one reduced cost in a phase.
  cost_is : (phase : Phase) (y : ℕ → ℚ) (d : ℚ) → AreDualsOf p s phase y → IsCostIn p s phase (number_in p c) d → d ≡ reduced_in p s phase y (number_in p c)
  cost_is phase y d are is = is.2 ∙ reduced_same (stage_of p s) (place_at s) (costs_of p phase) is.0 y (duals_are_unique p s basis phase is.0 y is.1 are) (number_in p c)

  -- The cost that decides lowers the total in this direction.
  abbrev Lowers : Bool → Prices p s → Type 0
  Lowers down n = Improves down (reduced_in p s PhaseOne n.one (number_in p c)) ⊎ ((reduced_in p s PhaseOne n.one (number_in p c) ≡ zero_ℚ) × Improves down (reduced_in p s PhaseTwo n.two (number_in p c)))

  decided : (d : ℚ) (down : Bool) → IsDecidingCost p s (number_in p c) d → WouldLower p s c down → Improves down d
  decided d down (inl is) w = of w.improves
    where
      same : d ≡ reduced_in p s PhaseOne w.prices.one (number_in p c)
      same = cost_is PhaseOne w.prices.one d w.prices.are_duals_one is.0

      of : Lowers down w.prices → Improves down d
      of (inl x) = subst (Improves down) (sym same) x
      of (inr x) = absurd (is.1 (same ∙ x.0))
  decided d down (inr is) w = of w.improves
    where
      of : Lowers down w.prices → Improves down d
      of (inl x) = absurd (none_at_zero down (subst (Improves down) (sym (cost_is PhaseOne w.prices.one zero_ℚ w.prices.are_duals_one is.0)) x))
      of (inr x) = subst (Improves down) (sym (cost_is PhaseTwo w.prices.two d w.prices.are_duals_two is.1)) x.1

  -- A column falls if the cost that decides is not negative.
  pub falls : (d : ℚ) (below down : Bool) → IsDecidingCost p s (number_in p c) d → IsTrue below ↔ (d <ℚ zero_ℚ) → WouldLower p s c down → not below ≡ down
  falls d below down is e w = turns down below d (decided d down is w) e

-- ---- by where a column stands
module _ (p : LinearProgram) (s : Standing) (c : Col) (down : Bool) (w : WouldLower p s c down) where
  pub from_upper : place_at s (number_in p c) ≡ model.Upper → true ≡ down
  from_upper e = sym (w.enters.from_upper e)

  pub from_elsewhere : (q : Place) → place_of q ≡ place_at s (number_in p c) → (q ≡ Lower) ⊎ ((q ≡ Basic) ⊎ (q ≡ Absent)) → false ≡ down
  from_elsewhere q told (inl e) = sym (w.enters.from_lower (sym told ∙ ap place_of e))
  from_elsewhere q told (inr (inl e)) = absurd (w.enters.nonbasic (sym told ∙ ap place_of e))
  from_elsewhere q told (inr (inr e)) = absurd (w.enters.present (sym told ∙ ap place_of e))

-- A column at zero has no lower bound, so it is a given one.
pub unbounded_at_zero : (p : LinearProgram) (s : Standing) (c : Col) → p.arcs ≤ length p.columns → IsStateOf p s → HasColumn p s c → place_at s (number_in p c) ≡ model.Zero → lower_in p c ≡ None
unbounded_at_zero p s c w st h e = (subst (MayStandIn (lower_in p c) (upper_in p c)) e may).0
  where
    named : col_at (layout_of p) (number_in p c) ≡ c
    named = col_number (layout_of p) s.stage c w h

    may : MayStandIn (lower_in p c) (upper_in p c) (place_at s (number_in p c))
    may = subst (λ d. MayStandIn (lower_in p d) (upper_in p d) (place_at s (number_in p c))) named
        ((st.fits (number_in p c) (number_within (layout_of p) s.stage c w h)).present (subst (HasColumn p s) (sym named) h))
