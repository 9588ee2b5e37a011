-- One thing is due at a point: a step, which is the only one, or an end, which is the only one.
use Rattle.std.proofs.Common.{◌≡◌, ◌⊎◌, inl, inr, ℕ, suc, ◌-◌, ◌<◌, Bool, true, false, refl, sym, ap, ◌∙◌, subst, subst₂, arith}
use Rattle.nf_num.specs.Rational.{ℚ, zero_ℚ, ◌<ℚ◌}
use Rattle.nf_num.proofs.Order.{lt_irrefl}
use Rattle.nf_model.specs.Program.{LinearProgram}
use Rattle.nf_model.specs.Problem.{IsProblem}
use Rattle.nf_simplex.specs.Layout.{layout_of}
use Rattle.nf_simplex.specs.Columns.{col_at}
use Rattle.nf_simplex.specs.Columns as columns
use Rattle.nf_simplex.specs.Objective.{Improves}
use Rattle.nf_simplex.specs.Pricing.{IsEligible, HasSize}
use Rattle.nf_simplex.specs.Queue.{PricingState}
use Rattle.nf_simplex.specs.Standing.{Standing, number_in, place_at, stage_of, IsBasisOf, IsFeasibleState, PhaseOne, PhaseTwo, costs_of, reduced_in}
use Rattle.nf_simplex.specs.Verdicts.{artificial_sum}
use Rattle.nf_simplex.specs.Moves.{Prices, IsEligibleBy, IsEligibleIn, IsNextOf, WouldLower, HasEndedInfeasibleIn, HasEndedOptimalIn}
use Rattle.nf_simplex.proofs.FieldLaws.{less_trans}
use Rattle.nf_simplex.proofs.Numbered.{col_number}
use Rattle.nf_simplex.proofs.Price.{picked_by_unique}
use Rattle.nf_simplex.proofs.Prices.{artificial_sum_any, eligible_any, next_queue_once, picked_any, reduced_any}
use Rattle.nf_simplex.proofs.Standings.{next_is_unique}
use Rattle.nf_basis.specs.declared.col.Col.{Col}
use Rattle.nf_basis.specs.declared.col.Col.TheVariants.{Given, Slack, Artificial}
use Rattle.nf_basis.specs.Names.{col_of, named}
use Rattle.nf_basis.specs.Kept.{IsPresent, number}
use Rattle.nf_price.specs.Rules.{rule_of}
use Rattle.nf_price.specs.declared.rule.Rule.{Rule as RuleName}
use Rattle.nf_engine.specs.declared.halt.Moved.{Moved}
use Rattle.nf_engine.specs.declared.halt.Moved.TheVariants as moved
use Rattle.nf_engine.specs.Point.{Point}
use Rattle.nf_engine.specs.Steps.{Picks, MovesTo, StepsBy, HasEnded}

-- ---- names
-- Two names of one column are one.
name_once : (c d : Col) → 0 < named c → 0 < named d → col_of c ≡ col_of d → c ≡ d
name_once (Given i) (Given j) h k e = ap Given (let z : i - 1 ≡ j - 1 = given_back (i - 1) (j - 1) e in omega (arith, h, k, z))
  where
    given_back : (a b : ℕ) → columns.Given a ≡ columns.Given b → a ≡ b
    given_back a b e = cc
name_once (Slack i) (Slack j) h k e = ap Slack (let z : i - 1 ≡ j - 1 = slack_back (i - 1) (j - 1) e in omega (arith, h, k, z))
  where
    slack_back : (a b : ℕ) → columns.Slack a ≡ columns.Slack b → a ≡ b
    slack_back a b e = cc
name_once (Artificial i) (Artificial j) h k e = ap Artificial (let z : i - 1 ≡ j - 1 = artificial_back (i - 1) (j - 1) e in omega (arith, h, k, z))
  where
    artificial_back : (a b : ℕ) → columns.Artificial a ≡ columns.Artificial b → a ≡ b
    artificial_back a b e = cc
name_once (Given i) (Slack j) h k e = absurd (let z : columns.Given (i - 1) ≡ columns.Slack (j - 1) = e in cc)
name_once (Given i) (Artificial j) h k e = absurd (let z : columns.Given (i - 1) ≡ columns.Artificial (j - 1) = e in cc)
name_once (Slack i) (Given j) h k e = absurd (let z : columns.Slack (i - 1) ≡ columns.Given (j - 1) = e in cc)
name_once (Slack i) (Artificial j) h k e = absurd (let z : columns.Slack (i - 1) ≡ columns.Artificial (j - 1) = e in cc)
name_once (Artificial i) (Given j) h k e = absurd (let z : columns.Artificial (i - 1) ≡ columns.Given (j - 1) = e in cc)
name_once (Artificial i) (Slack j) h k e = absurd (let z : columns.Artificial (i - 1) ≡ columns.Slack (j - 1) = e in cc)

-- ---- directions
both_ways : (d : ℚ) → Improves true d → Improves false d → ⊥
both_ways d a b = lt_irrefl zero_ℚ (less_trans zero_ℚ d zero_ℚ a b)

module _ (p : LinearProgram) (ok : IsProblem p) (s : Standing) (f : IsFeasibleState p s) where
  basis : IsBasisOf p s
  basis = f.feasible.basis

  -- A column is told by its number.
  column_once : (c d : Col) → IsPresent p s c → IsPresent p s d → number p c ≡ number p d → c ≡ d
  column_once c d h k e = name_once c d h.0 k.0 (sym (col_number (layout_of p) s.stage (col_of c) ok.arcs_within h.1) ∙ (ap (col_at (layout_of p)) e ∙ col_number (layout_of p) s.stage (col_of d) ok.arcs_within k.1))

  turned : (c : columns.Col) → WouldLower p s c true → WouldLower p s c false → ⊥
  turned c x y = of x.improves y.improves
    where
      one : reduced_in p s PhaseOne x.prices.one (number_in p c) ≡ reduced_in p s PhaseOne y.prices.one (number_in p c)
      one = reduced_any p s basis PhaseOne x.prices.one y.prices.one x.prices.are_duals_one y.prices.are_duals_one (number_in p c)

      two : reduced_in p s PhaseTwo x.prices.two (number_in p c) ≡ reduced_in p s PhaseTwo y.prices.two (number_in p c)
      two = reduced_any p s basis PhaseTwo x.prices.two y.prices.two x.prices.are_duals_two y.prices.are_duals_two (number_in p c)

      of : Improves true (reduced_in p s PhaseOne x.prices.one (number_in p c)) ⊎ ((reduced_in p s PhaseOne x.prices.one (number_in p c) ≡ zero_ℚ) × Improves true (reduced_in p s PhaseTwo x.prices.two (number_in p c)))
          → Improves false (reduced_in p s PhaseOne y.prices.one (number_in p c)) ⊎ ((reduced_in p s PhaseOne y.prices.one (number_in p c) ≡ zero_ℚ) × Improves false (reduced_in p s PhaseTwo y.prices.two (number_in p c))) → ⊥
      of (inl a) (inl b) = both_ways _ (subst (Improves true) one a) b
      of (inl a) (inr b) = lt_irrefl zero_ℚ (subst (Improves true) (one ∙ b.0) a)
      of (inr a) (inl b) = lt_irrefl zero_ℚ (subst (Improves false) (sym one ∙ a.0) b)
      of (inr a) (inr b) = both_ways _ (subst (Improves true) two a.1) b.1

  -- A column lowers the costs in one direction.
  direction_once : (c : columns.Col) (d e : Bool) → WouldLower p s c d → WouldLower p s c e → d ≡ e
  direction_once c true true x y = refl
  direction_once c true false x y = absurd (turned c x y)
  direction_once c false true x y = absurd (turned c y x)
  direction_once c false false x y = refl

  module _ (rule : RuleName) (at : PricingState) where
    -- The rule picks one column,
    pick_once : (c d : Col) → IsPresent p s c → IsPresent p s d → Picks p rule s at c → Picks p rule s at d → c ≡ d
    pick_once c d h k (n, x) (m, y) =
        let z = picked_any p s basis m n (rule_of rule) at (number p d) y in
        column_once c d h k
        (picked_by_unique (rule_of rule) at (IsEligibleBy p s n) (HasSize (stage_of p s) (place_at s) (costs_of p PhaseOne) (costs_of p PhaseTwo) n.one n.two) (number p c) (number p d) x.eligible z.eligible x.by_rule z.by_rule)

    -- which is eligible.
    picked_eligible : (c : Col) → Picks p rule s at c → IsEligibleIn p s (col_of c)
    picked_eligible c h = (h.0, h.1.eligible)

  -- ---- a state that has ended otherwise has no eligible column
  none_eligible : (c : columns.Col) → HasEndedOptimalIn p s → IsEligibleIn p s c → ⊥
  none_eligible c (n, h) (m, e) = h.0 (number_in p c) (eligible_any p s basis m n (number_in p c) e)

  met_and_short : (n m : Prices p s) → zero_ℚ <ℚ artificial_sum p n.values → artificial_sum p m.values ≡ zero_ℚ → ⊥
  met_and_short n m l e = lt_irrefl zero_ℚ (subst (λ z. zero_ℚ <ℚ z) (artificial_sum_any p s basis n.values m.values n.are_values m.are_values ∙ e) l)

  none_wanted : (c : columns.Col) → HasEndedInfeasibleIn p s → IsEligibleIn p s c → ⊥
  none_wanted c (n, h) (m, e) = of (eligible_any p s basis m n (number_in p c) e)
    where
      of : IsEligible (stage_of p s) (place_at s) n.values (costs_of p PhaseOne) (costs_of p PhaseTwo) n.one n.two (number_in p c) → ⊥
      of (inl x) = h.0 (number_in p c) x
      of (inr x) = met_and_short n n h.1 x.1

module _ (p : LinearProgram) (ok : IsProblem p) (rule : RuleName) (a : Point) (f : IsFeasibleState p a.standing) where
  point_once : (b e : Point) → b.standing ≡ e.standing → b.pivots ≡ e.pivots → b.pricing.cursor ≡ e.pricing.cursor → b.pricing.queue ≡ e.pricing.queue → b ≡ e
  point_once b e s n k q = λ i. record { standing = s i; pivots = n i; pricing = record { cursor = k i; queue = q i } }

  -- Two steps from a point are one.
  pub step_once : (c d : Col) (b e : Point) → StepsBy p rule a c b → StepsBy p rule a d e → (c ≡ d) × (b ≡ e)
  step_once c d b e x y = (same, point_once b e state (x.counted ∙ sym y.counted) (x.noted ∙ (ap (λ k. suc (number p k)) same ∙ sym y.noted)) queue)
    where
      s : MovesTo p rule a.standing a.pricing c b.standing
      s = x.moves

      t : MovesTo p rule a.standing a.pricing d e.standing
      t = y.moves

      same : c ≡ d
      same = pick_once p ok a.standing f rule a.pricing c d s.present t.present s.picked t.picked

      turn : s.down ≡ t.down
      turn = direction_once p ok a.standing f (col_of d) s.down t.down (subst (λ k. WouldLower p a.standing (col_of k) s.down) same s.lowers) t.lowers

      state : b.standing ≡ e.standing
      state = next_is_unique p a.standing b.standing e.standing (col_of d) t.down f t.lowers.enters (subst₂ (λ k z. IsNextOf p a.standing (col_of k) z b.standing) same turn s.next) t.next

      queue : b.pricing.queue ≡ e.pricing.queue
      queue = next_queue_once p a.standing f.feasible.basis x.queued.0 y.queued.0 (rule_of rule) a.pricing b.pricing.queue e.pricing.queue x.queued.1 y.queued.1

  -- Where there is a step, the state has not ended.
  pub step_no_end : (c : Col) (t : Standing) → MovesTo p rule a.standing a.pricing c t → (m : Moved) → HasEnded p rule a.standing a.pricing m → ⊥
  step_no_end c b s moved.Best h = none_eligible p ok a.standing f (col_of c) h (picked_eligible p ok a.standing f rule a.pricing c s.picked)
  step_no_end c b s moved.NoFlow h = none_wanted p ok a.standing f (col_of c) h (picked_eligible p ok a.standing f rule a.pricing c s.picked)
  step_no_end c b s (moved.Pivoted x y) h = h
  step_no_end c b s (moved.Flipped x) h = h
  step_no_end c b s (moved.NoBound d) (there, picked, (down, (n, h))) =
      let same : c ≡ d = pick_once p ok a.standing f rule a.pricing c d s.present there s.picked picked in
      let turn : s.down ≡ down = direction_once p ok a.standing f (col_of d) s.down down (subst (λ k. WouldLower p a.standing (col_of k) s.down) same s.lowers) (record { prices = n; enters = h.enters; improves = h.improves }) in
      h.stuck (place_at b) (subst₂ (λ k z. IsNextOf p a.standing (col_of k) z b) same turn s.next).next

  -- It has ended in one way.
  pub end_once : (x y : Moved) → HasEnded p rule a.standing a.pricing x → HasEnded p rule a.standing a.pricing y → x ≡ y
  end_once moved.Best moved.Best x y = refl
  end_once moved.Best moved.NoFlow (n, x) (m, y) = absurd (met_and_short p ok a.standing f m n y.1 x.1)
  end_once moved.Best (moved.NoBound d) x y = absurd (none_eligible p ok a.standing f (col_of d) x (picked_eligible p ok a.standing f rule a.pricing d y.1))
  end_once moved.NoFlow moved.Best (n, x) (m, y) = absurd (met_and_short p ok a.standing f n m x.1 y.1)
  end_once moved.NoFlow moved.NoFlow x y = refl
  end_once moved.NoFlow (moved.NoBound d) x y = absurd (none_wanted p ok a.standing f (col_of d) x (picked_eligible p ok a.standing f rule a.pricing d y.1))
  end_once (moved.NoBound c) moved.Best x y = absurd (none_eligible p ok a.standing f (col_of c) y (picked_eligible p ok a.standing f rule a.pricing c x.1))
  end_once (moved.NoBound c) moved.NoFlow x y = absurd (none_wanted p ok a.standing f (col_of c) y (picked_eligible p ok a.standing f rule a.pricing c x.1))
  end_once (moved.NoBound c) (moved.NoBound d) x y = ap moved.NoBound (pick_once p ok a.standing f rule a.pricing c d x.0 y.0 x.1 y.1)
  end_once (moved.Pivoted i j) y h k = absurd h
  end_once (moved.Flipped i) y h k = absurd h
  end_once moved.Best (moved.Pivoted i j) h k = absurd k
  end_once moved.Best (moved.Flipped i) h k = absurd k
  end_once moved.NoFlow (moved.Pivoted i j) h k = absurd k
  end_once moved.NoFlow (moved.Flipped i) h k = absurd k
  end_once (moved.NoBound c) (moved.Pivoted i j) h k = absurd k
  end_once (moved.NoBound c) (moved.Flipped i) h k = absurd k
