-- The answers of a check, from what its searches found.
use Rattle.std.proofs.Common.{◌≡◌, ◌↔◌, ℕ, ◌<◌, ◌+◌, ◌-◌, List, [], ◌∷◌, length, None, sym, subst, arith, IsTrue, Bool, false}
use Rattle.std.proofs.lemmas.List.Elements.{All-get_or}
use Rattle.nf_num.specs.Rational.{ℚ, zero_ℚ, ◌-ℚ◌, ◌≤ℚ◌, ◌<ℚ◌}
use Rattle.nf_num.proofs.Laws.{not_le_of_lt}
use Rattle.nf_num.proofs.Linear.{linear_lt, linear_absurd, codes, le, lt}
use Rattle.nf_model.specs.Program.{Column, LinearProgram, HoldsBelow, IsFeasible, cost_of}
use Rattle.nf_model.specs.Problem.{IsColumn, IsProblem}
use Rattle.nf_model.specs.Certificate.{IsValidBest, combined}
use Rattle.nf_model.specs.Farkas.{ColumnIsBounded, DualIsSigned, IsGap, IsGreatest, IsValidFarkas, combined_right}
use Rattle.nf_model.specs.Ray.{IsValidRay}
use Rattle.nf_model.specs.Failure.{IsFirstFailure}
use Rattle.nf_model.proofs.Duality.{best_is_best}
use Rattle.nf_model.proofs.Farkas.{farkas_none}
use Rattle.nf_model.proofs.Greatest.{greatest_needs_bounds, greatest_unique}
use Rattle.nf_model.proofs.Ray.{ray_unbounded}
use Rattle.nf_prob.specs.declared.cert.Why.{Why}
use Rattle.nf_prob.specs.declared.cert.Why.TheVariants as why
use Rattle.nf_prob.specs.declared.cert.Checked.TheVariants.{Yes, No}
use Rattle.nf_prob.specs.Highest.{highest_sum}
use Rattle.nf_prob.specs.Verdict.{IsFirst, FailsFeasible, FailsBest, FailsFarkas, FailsRay, IsBestAnswer, IsFarkasAnswer, IsRayAnswer}
use Rattle.nf_prob.proofs.Highest.{highest_is_greatest}

-- the place at which a test said no, after it said yes at each before
pub first_here : (n : ℕ) (P : ℕ → Type 0) (j : ℕ) (b : Bool) → j < n → IsTrue b ↔ P j → b ≡ false → HoldsBelow j P → IsFirst n P (j + 1)
first_here n P j b h t said before =
    let place : j ≡ j + 1 - 1 = omega arith in
    (omega arith, subst (IsFirstFailure n P) place (record { in_range = h; fails = λ p. not_true (t.1 p); before = before }))
  where
    not_true : IsTrue b → ⊥
    not_true y = cc

breaks : (n : ℕ) (P : ℕ → Type 0) (j : ℕ) → IsFirst n P j → HoldsBelow n P → ⊥
breaks n P j f h = f.1.fails (h (j - 1) f.1.in_range)

failed_feasible : (p : LinearProgram) (x : List ℚ) (w : Why) → FailsFeasible p x w → IsFeasible p x → ⊥
failed_feasible p x (why.Bound j) f v = breaks _ _ j f v.within.in_bounds
failed_feasible p x (why.Row i) f v = breaks _ _ i f.1 v.rows_hold
failed_feasible p x (why.ReducedCost j) f v = f
failed_feasible p x (why.Dual i) f v = f
failed_feasible p x (why.Column j) f v = f
failed_feasible p x (why.Gap g) f v = f
failed_feasible p x (why.RayColumn j) f v = f
failed_feasible p x (why.RayRow i) f v = f
failed_feasible p x (why.Rate g) f v = f

-- ---- Best
failed_best : (p : LinearProgram) (x y : List ℚ) (w : Why) → FailsBest p x y w → IsValidBest p x y → ⊥
failed_best p x y (why.ReducedCost j) f v = breaks _ _ j f.1 v.costs_fit
failed_best p x y (why.Dual i) f v = breaks _ _ i f.2 v.duals_fit
failed_best p x y (why.Bound j) f v = failed_feasible p x (why.Bound j) f v.feasible
failed_best p x y (why.Row i) f v = failed_feasible p x (why.Row i) f v.feasible
failed_best p x y (why.Column j) f v = f
failed_best p x y (why.Gap g) f v = f
failed_best p x y (why.RayColumn j) f v = f
failed_best p x y (why.RayRow i) f v = f
failed_best p x y (why.Rate g) f v = f

best_fails : (p : LinearProgram) (x y : List ℚ) (w : Why) → FailsFeasible p x w → FailsBest p x y w
best_fails p x y (why.ReducedCost j) f = absurd f
best_fails p x y (why.Dual i) f = absurd f
best_fails p x y (why.Bound j) f = f
best_fails p x y (why.Row i) f = f
best_fails p x y (why.Column j) f = f
best_fails p x y (why.Gap g) f = f
best_fails p x y (why.RayColumn j) f = f
best_fails p x y (why.RayRow i) f = f
best_fails p x y (why.Rate g) f = f

pub best_no : (p : LinearProgram) (x y : List ℚ) (w : Why) → FailsBest p x y w → IsBestAnswer p x y (No w)
best_no p x y w f = (failed_best p x y w f, f)

pub best_infeasible : (p : LinearProgram) (x y : List ℚ) (w : Why) → FailsFeasible p x w → IsBestAnswer p x y (No w)
best_infeasible p x y w f = best_no p x y w (best_fails p x y w f)

pub best_yes : (p : LinearProgram) (x y : List ℚ) (cost : ℚ) → IsValidBest p x y → cost ≡ cost_of p x → IsBestAnswer p x y (Yes cost)
best_yes p x y cost v e = (v, best_is_best p x y v, e)

-- ---- Farkas
-- a number that is not above another leaves no gap
no_gap : (g a v u : ℚ) → g ≤ℚ zero_ℚ → g ≡ a -ℚ v → v ≡ u → u <ℚ a → ⊥
no_gap g a v u h e d b = linear_absurd (a ∷ v ∷ []) (le (subst (λ z. z ≤ℚ zero_ℚ) e h) ∷ lt (subst (λ z. z <ℚ a) (sym d) b) ∷ []) (search codes depth 12) tt

above : (g a v : ℚ) → g ≡ a -ℚ v → zero_ℚ <ℚ g → v <ℚ a
above g a v e h = linear_lt (a ∷ v ∷ []) (lt (subst (λ z. zero_ℚ <ℚ z) e h) ∷ []) (search codes depth 12) tt

failed_farkas : (p : LinearProgram) (y : List ℚ) (w : Why) → FailsFarkas p y w → IsValidFarkas p y → ⊥
failed_farkas p y (why.Dual i) f v = breaks _ _ i f v.signed
failed_farkas p y (why.Column j) f v = breaks _ _ j f.1 (greatest_needs_bounds p (combined p y) v.beyond.0 v.beyond.1)
failed_farkas p y (why.Gap g) f v = no_gap g (combined_right p y) f.1.0 v.beyond.0 f.2 f.1.2 (greatest_unique p (combined p y) f.1.0 v.beyond.0 f.1.1 v.beyond.1) v.beyond.2
failed_farkas p y (why.Bound j) f v = f
failed_farkas p y (why.Row i) f v = f
failed_farkas p y (why.ReducedCost j) f v = f
failed_farkas p y (why.RayColumn j) f v = f
failed_farkas p y (why.RayRow i) f v = f
failed_farkas p y (why.Rate g) f v = f

pub farkas_no : (p : LinearProgram) (y : List ℚ) (w : Why) → FailsFarkas p y w → IsFarkasAnswer p y (No w)
farkas_no p y w f = (failed_farkas p y w f, f)

abbrev none : Column
none = record { cost = zero_ℚ; lower = None; upper = None; ends = None; entries = [] }

-- a problem's bounds are in order, so the sum of the greatest multiples is the greatest value
pub greatest_found : (p : LinearProgram) (w : ℕ → ℚ) (v : ℚ) → IsProblem p → HoldsBelow (length p.columns) (ColumnIsBounded p w) → v ≡ highest_sum p w → IsGreatest p w v
greatest_found p w v k bounded e = subst (IsGreatest p w) (sym e) (highest_is_greatest p w (λ j b. (All-get_or (IsColumn p.nodes (length p.rows)) p.columns j none b k.each).ordered) bounded)

pub farkas_gap : (p : LinearProgram) (y : List ℚ) (gap : ℚ) → HoldsBelow (length p.rows) (DualIsSigned p y) → IsGap p y gap → gap ≤ℚ zero_ℚ → IsFarkasAnswer p y (No (why.Gap gap))
farkas_gap p y gap s g h = farkas_no p y (why.Gap gap) (s, g, h)

pub farkas_yes : (p : LinearProgram) (y : List ℚ) (gap : ℚ) → length y ≡ length p.rows → HoldsBelow (length p.rows) (DualIsSigned p y) → IsGap p y gap → zero_ℚ <ℚ gap → IsFarkasAnswer p y (Yes gap)
farkas_yes p y gap one s g h = (valid, farkas_none p y valid, g)
  where
    valid : IsValidFarkas p y
    valid = record { one_each = one; signed = s; beyond = (g.0, g.1, above gap (combined_right p y) g.0 g.2 h) }

-- ---- Ray
failed_ray : (p : LinearProgram) (x r : List ℚ) (w : Why) → FailsRay p x r w → IsValidRay p x r → ⊥
failed_ray p x r (why.RayColumn j) f v = breaks _ _ j f.1 v.free
failed_ray p x r (why.RayRow i) f v = breaks _ _ i f.2 v.rows_keep
failed_ray p x r (why.Rate g) f v = not_le_of_lt _ _ v.lowers (subst (λ z. zero_ℚ ≤ℚ z) f.3 f.4)
failed_ray p x r (why.Bound j) f v = failed_feasible p x (why.Bound j) f v.feasible
failed_ray p x r (why.Row i) f v = failed_feasible p x (why.Row i) f v.feasible
failed_ray p x r (why.ReducedCost j) f v = f
failed_ray p x r (why.Dual i) f v = f
failed_ray p x r (why.Column j) f v = f
failed_ray p x r (why.Gap g) f v = f

ray_fails : (p : LinearProgram) (x r : List ℚ) (w : Why) → FailsFeasible p x w → FailsRay p x r w
ray_fails p x r (why.RayColumn j) f = absurd f
ray_fails p x r (why.RayRow i) f = absurd f
ray_fails p x r (why.Rate g) f = absurd f
ray_fails p x r (why.Bound j) f = f
ray_fails p x r (why.Row i) f = f
ray_fails p x r (why.ReducedCost j) f = f
ray_fails p x r (why.Dual i) f = f
ray_fails p x r (why.Column j) f = f
ray_fails p x r (why.Gap g) f = f

pub ray_no : (p : LinearProgram) (x r : List ℚ) (w : Why) → FailsRay p x r w → IsRayAnswer p x r (No w)
ray_no p x r w f = (failed_ray p x r w f, f)

pub ray_infeasible : (p : LinearProgram) (x r : List ℚ) (w : Why) → FailsFeasible p x w → IsRayAnswer p x r (No w)
ray_infeasible p x r w f = ray_no p x r w (ray_fails p x r w f)

pub ray_yes : (p : LinearProgram) (x r : List ℚ) (rate : ℚ) → IsValidRay p x r → rate ≡ cost_of p r → IsRayAnswer p x r (Yes rate)
ray_yes p x r rate v e = (v, ray_unbounded p x r v, e)
