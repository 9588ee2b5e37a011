-- A state that has ended UNBOUNDED gives a valid Ray: phase one never ends so, and where there is no next state no column blocks.
use Rattle.std.proofs.Common.{◌≡◌, ℕ, ◌+◌, ◌<◌, ◌⊎◌, inl, inr, Bool, true, false, List, length, refl, subst, Some}
use Rattle.nf_num.specs.Rational.{ℚ, zero_ℚ, one_ℚ, ◌<ℚ◌}
use Rattle.nf_model.specs.Lists.{list_of}
use Rattle.nf_model.specs.Problem.{IsProblem}
use Rattle.nf_model.specs.Program.{LinearProgram, cost_of}
use Rattle.nf_model.specs.Ray.{IsValidRay}
use Rattle.nf_simplex.specs.Columns.{col_at, col_lower, cost_one, ones, twos}
use Rattle.nf_simplex.specs.Ends.{HasEndedUnbounded}
use Rattle.nf_simplex.specs.Layout.{Layout, layout_of}
use Rattle.nf_simplex.specs.Lex.{IsLexFeasible}
use Rattle.nf_simplex.specs.Numbers.{AreDuals, reduced}
use Rattle.nf_simplex.specs.Objective.{Improves}
use Rattle.nf_simplex.specs.Place.{Place, Lower, Upper, Zero, Absent, Basic}
use Rattle.nf_simplex.specs.Pricing.{HasWrongSign, IsEligible}
use Rattle.nf_simplex.specs.Stage.{Stage}
use Rattle.nf_simplex.specs.StageOf.{StageNumber, IsLast, stage_in}
use Rattle.nf_simplex.specs.States.{IsState}
use Rattle.nf_simplex.specs.Step.{signed, CanEnter}
use Rattle.nf_simplex.proofs.Blocks.{phase_one_blocks}
use Rattle.nf_simplex.proofs.FieldLaws.{less_irrefl}
use Rattle.nf_simplex.proofs.Least.{next_of_step}
use Rattle.nf_simplex.proofs.Ratio.{speed, IsStep}
use Rattle.nf_simplex.proofs.Rows.{ones_priced}
use Rattle.nf_simplex.proofs.StageOf.{by_columns}
use Rattle.nf_simplex.proofs.Unbounded.{unblocked_is_ray}

-- A reduced cost with a wrong sign is not 0.
pub wrong_not_zero : (a : Place) (d : ℚ) → HasWrongSign a d → d ≡ zero_ℚ → ⊥
wrong_not_zero Lower d w e = less_irrefl zero_ℚ (subst (λ z. z <ℚ zero_ℚ) e w)
wrong_not_zero Upper d w e = less_irrefl zero_ℚ (subst (λ z. zero_ℚ <ℚ z) e w)
wrong_not_zero Zero d w e = w e
wrong_not_zero Absent d w e = w
wrong_not_zero Basic d w e = w

improves_not_zero : (b : Bool) (d : ℚ) → Improves b d → d ≡ zero_ℚ → ⊥
improves_not_zero true d w e = less_irrefl zero_ℚ (subst (λ z. zero_ℚ <ℚ z) e w)
improves_not_zero false d w e = less_irrefl zero_ℚ (subst (λ z. z <ℚ zero_ℚ) e w)

-- The costs of phase one: 0, or 1 at a column with the lower bound 0.
pub ones_cases : (p : Layout) (j : ℕ) → j < p.columns + p.sides + (p.nodes + p.sides) → (ones p j ≡ zero_ℚ) ⊎ ((ones p j ≡ one_ℚ) × (col_lower p (col_at p j) ≡ Some zero_ℚ))
ones_cases p = by_columns p (λ c. (cost_one c ≡ zero_ℚ) ⊎ ((cost_one c ≡ one_ℚ) × (col_lower p c ≡ Some zero_ℚ))) (λ j h. inl refl) (λ q h. inl refl) (λ r h. inr (refl, refl))

-- the direction of the ray: what each given column does while the picked one moves
abbrev pub ray_of : (P : LinearProgram) (n : StageNumber) (negative : ℕ → Bool) (s : ℕ → Place) (f : IsLexFeasible (stage_in (layout_of P) n negative) s) (e : ℕ) (down : Bool) → CanEnter (stage_in (layout_of P) n negative) s e down → List ℚ
ray_of P n negative s f e down c = list_of (length P.columns) (speed (stage_in (layout_of P) n negative) s f e down c)

-- The unbounded end: the values and what the columns do are a valid certificate with this rate.
pub unbounded_is_ray : (P : LinearProgram) (ok : IsProblem P) (n : StageNumber) (negative : ℕ → Bool) (s : ℕ → Place) (st : IsState (layout_of P) n negative s) → IsLast (layout_of P) n
    → (y1 y2 : ℕ → ℚ) → AreDuals (stage_in (layout_of P) n negative) s (ones (layout_of P)) y1 → AreDuals (stage_in (layout_of P) n negative) s (twos (layout_of P)) y2
    → (e : ℕ) (down : Bool) (u : HasEndedUnbounded (stage_in (layout_of P) n negative) s st.feasible.values (ones (layout_of P)) (twos (layout_of P)) y1 y2 e down)
    → IsValidRay P (list_of (length P.columns) st.feasible.values) (ray_of P n negative s st.feasible e down u.enters)
    × (cost_of P (ray_of P n negative s st.feasible e down u.enters) ≡ signed down (reduced (stage_in (layout_of P) n negative) (twos (layout_of P)) y2 e))
unbounded_is_ray P ok n negative s st last y1 y2 d1 d2 e down u = of u.eligible u.improves
  where
    p : Layout
    p = layout_of P

    S : Stage
    S = stage_in (layout_of P) n negative

    Ray : Type 0
    Ray = IsValidRay P (list_of (length P.columns) st.feasible.values) (ray_of P n negative s st.feasible e down u.enters)
        × (cost_of P (ray_of P n negative s st.feasible e down u.enters) ≡ signed down (reduced (stage_in (layout_of P) n negative) (twos (layout_of P)) y2 e))

    none : (R : ℕ → ℚ) → IsStep S s st.feasible e down u.enters R → ⊥
    none R step = let t = next_of_step S s st.feasible e down u.enters R step in u.stuck t.0 t.1

    no_phase_one : e < S.entering → Improves down (reduced S (ones p) y1 e) → ⊥
    no_phase_one h better = let b = phase_one_blocks S s st.feasible e down u.enters (ones p) y1 d1 better (λ j l. ones_cases p j l) (ones_priced p e h) in none b.1 (inl (b.0, false, zero_ℚ, b.2))

    of : IsEligible S s st.feasible.values (ones p) (twos p) y1 y2 e → Improves down (reduced S (ones p) y1 e) ⊎ ((reduced S (ones p) y1 e ≡ zero_ℚ) × Improves down (reduced S (twos p) y2 e)) → Ray
    of (inl w) (inl better) = absurd (no_phase_one w.0.priced better)
    of (inl w) (inr better) = absurd (wrong_not_zero (s e) (reduced S (ones p) y1 e) w.1 better.0)
    of (inr w) (inl better) = absurd (improves_not_zero down (reduced S (ones p) y1 e) better w.2.1)
    of (inr w) (inr better) = unblocked_is_ray P ok n negative s st last e down u.enters w.2.0.priced none y1 y2 d1 d2 w.1 better.0 better.1
