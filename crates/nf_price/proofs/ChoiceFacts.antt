-- What a rule picks of the columns that a phase wants is what the definition of a step picks, and where both phases
-- want none the state has ended.
use Rattle.std.proofs.Common.{◌≡◌, ◌≢◌, ◌⊎◌, inl, inr, ℕ, ◌<◌, Bool, true, false, List, Option, Some, refl, sym, subst, subst₂, arith}
use Rattle.nf_num.specs.Rational.{ℚ, zero_ℚ, ◌<ℚ◌}
use Rattle.nf_num.proofs.Laws.{not_le_of_lt}
use Rattle.nf_num.proofs.Order.{lt_irrefl}
use Rattle.nf_model.specs.Program.{LinearProgram, IsAtMost}
use Rattle.nf_model.specs.Program.{at as number_at}
use Rattle.nf_model.specs.Problem.{AreInOrder, IsProblem}
use Rattle.nf_simplex.specs.Columns.{all_columns, col_at, col_lower, col_upper, ones, twos}
use Rattle.nf_simplex.specs.Layout.{layout_of}
use Rattle.nf_simplex.specs.Moves.{Prices, IsPickedIn, HasEndedInfeasibleIn, HasEndedOptimalIn, WouldLower}
use Rattle.nf_simplex.specs.Numbers.{reduced}
use Rattle.nf_simplex.specs.Objective.{Improves}
use Rattle.nf_simplex.specs.Place as model
use Rattle.nf_simplex.specs.Queue.{PricingState}
use Rattle.nf_simplex.specs.Pricing.{Rule, First, Best, Bland, Queue, HasSize, HasWrongSign, IsDeciding, IsEligible, IsMagnitude, IsPicked, IsPickedBy}
use Rattle.nf_simplex.specs.Standing.{Standing, HasColumn, PhaseOne, PhaseTwo, AreDualsOf, AreValuesOf, place_at, stage_of}
use Rattle.nf_simplex.specs.Step.{CanEnter}
use Rattle.nf_simplex.specs.Verdicts.{artificial_sum}
use Rattle.nf_simplex.proofs.FieldLaws.{less_trans}
use Rattle.nf_simplex.proofs.Fits.{layout_fits}
use Rattle.nf_simplex.proofs.Price.{eligible_enters}
use Rattle.nf_simplex.proofs.Queue.{front_same}
use Rattle.nf_simplex.proofs.StageOf.{by_columns}
use Rattle.nf_basis.specs.declared.col.Col.{Col}
use Rattle.nf_basis.specs.declared.col.Phase.{Phase}
use Rattle.nf_basis.specs.declared.col.Phase.TheVariants.{One, Two}
use Rattle.nf_basis.specs.Kept.{Kept, IsNonbasic, IsStateOf, number}
use Rattle.nf_basis.specs.Names.{col_of, named}
use Rattle.nf_duals.proofs.Places.{column_or_not}
use Rattle.nf_price.specs.declared.candidate.Candidate.{Candidate}
use Rattle.nf_price.specs.Wanted.{Wants, HasMagnitude, WantsNone, IsCandidate, IsChosen}
use Rattle.nf_price.proofs.ScanFacts.{wanted_within}

-- a rule picks the same of the same columns with the same sizes
picked_same : (rule : Rule) (at : PricingState) (P Q : ℕ → Type 0) (A B : ℕ → ℚ → Type 0) (j : ℕ) → ((i : ℕ) → P i → Q i) → ((i : ℕ) → Q i → P i) → ((i : ℕ) (a : ℚ) → Q i → B i a → A i a) → ((a : ℚ) → A j a → B j a) → IsPickedBy rule at P A j → IsPickedBy rule at Q B j
picked_same First at P Q A B j on to back over (inl h) = inl (h.0, λ i q l. h.1 i (to i q) l)
picked_same First at P Q A B j on to back over (inr h) = inr ((λ i q. h.0 i (to i q)), λ i q. h.1 i (to i q))
picked_same Best at P Q A B j on to back over h = (h.0, over h.0 h.1, λ i b q t. h.2 i b (to i q) (back i b q t))
picked_same Bland at P Q A B j on to back over h = λ i q. h i (to i q)
picked_same (Queue most) at P Q A B j on to back over h = front_same at P Q on to j h

module _ (p : LinearProgram) (s : Standing) (x : ℕ → ℚ) (y1 y2 : List ℚ) (v : AreValuesOf p s x) (d1 : AreDualsOf p s PhaseOne (number_at y1)) (d2 : AreDualsOf p s PhaseTwo (number_at y2)) where
  prices : Prices p s
  prices = record { values = x; one = number_at y1; two = number_at y2; are_values = v; are_duals_one = d1; are_duals_two = d2 }

  Eligible : ℕ → Type 0
  Eligible j = IsEligible (stage_of p s) (place_at s) x (ones (layout_of p)) (twos (layout_of p)) (number_at y1) (number_at y2) j

  Size : ℕ → ℚ → Type 0
  Size j a = HasSize (stage_of p s) (place_at s) (ones (layout_of p)) (twos (layout_of p)) (number_at y1) (number_at y2) j a

  -- ---- phase one
  pub picked_one : (rule : Rule) (at : PricingState) (c : Candidate) → IsChosen p s One y1 y2 rule at c → IsPicked (stage_of p s) (place_at s) x (ones (layout_of p)) (twos (layout_of p)) (number_at y1) (number_at y2) rule at c.number
  unfolding Eligible Size
  picked_one rule at c h = record {
    eligible = inl h.candidate.wanted;
    by_rule = picked_same rule at (Wants p s One y1 y2) Eligible (HasMagnitude p s One y1 y2) Size c.number (λ i w. inl w) to (λ i a q t. back i a (to i q) t) (λ a m. (reduced (stage_of p s) (ones (layout_of p)) (number_at y1) c.number, inl (h.candidate.wanted, refl), m)) h.by_rule;
  }
    where
      to : (i : ℕ) → IsEligible (stage_of p s) (place_at s) x (ones (layout_of p)) (twos (layout_of p)) (number_at y1) (number_at y2) i → Wants p s One y1 y2 i
      to i (inl w) = w
      to i (inr w) = absurd (w.0 c.number h.candidate.wanted)

      deciding : (i : ℕ) (d : ℚ) → Wants p s One y1 y2 i → IsDeciding (stage_of p s) (place_at s) (ones (layout_of p)) (twos (layout_of p)) (number_at y1) (number_at y2) i d → d ≡ reduced (stage_of p s) (ones (layout_of p)) (number_at y1) i
      deciding i d w (inl e) = e.1
      deciding i d w (inr e) = absurd (e.0 w)

      back : (i : ℕ) (a : ℚ) → Wants p s One y1 y2 i → HasSize (stage_of p s) (place_at s) (ones (layout_of p)) (twos (layout_of p)) (number_at y1) (number_at y2) i a → HasMagnitude p s One y1 y2 i a
      back i a w t = subst (λ d. IsMagnitude d a) (deciding i t.0 w t.1) t.2

  -- ---- phase two
  pub picked_two : (rule : Rule) (at : PricingState) (c : Candidate) → WantsNone p s One y1 y2 → artificial_sum p x ≡ zero_ℚ → IsChosen p s Two y1 y2 rule at c → IsPicked (stage_of p s) (place_at s) x (ones (layout_of p)) (twos (layout_of p)) (number_at y1) (number_at y2) rule at c.number
  unfolding Eligible Size
  picked_two rule at c none z h = record {
    eligible = inr (none, z, h.candidate.wanted);
    by_rule = picked_same rule at (Wants p s Two y1 y2) Eligible (HasMagnitude p s Two y1 y2) Size c.number (λ i w. inr (none, z, w)) to (λ i a q t. back i a t) (λ a m. (reduced (stage_of p s) (twos (layout_of p)) (number_at y2) c.number, inr (none c.number, refl), m)) h.by_rule;
  }
    where
      to : (i : ℕ) → IsEligible (stage_of p s) (place_at s) x (ones (layout_of p)) (twos (layout_of p)) (number_at y1) (number_at y2) i → Wants p s Two y1 y2 i
      to i (inl w) = absurd (none i w)
      to i (inr w) = w.2

      deciding : (i : ℕ) (d : ℚ) → IsDeciding (stage_of p s) (place_at s) (ones (layout_of p)) (twos (layout_of p)) (number_at y1) (number_at y2) i d → d ≡ reduced (stage_of p s) (twos (layout_of p)) (number_at y2) i
      deciding i d (inl e) = absurd (none i e.0)
      deciding i d (inr e) = e.1

      back : (i : ℕ) (a : ℚ) → HasSize (stage_of p s) (place_at s) (ones (layout_of p)) (twos (layout_of p)) (number_at y1) (number_at y2) i a → HasMagnitude p s Two y1 y2 i a
      back i a t = subst (λ d. IsMagnitude d a) (deciding i t.0 t.1) t.2

  -- ---- the ends
  pub ended_short : WantsNone p s One y1 y2 → zero_ℚ <ℚ artificial_sum p x → HasEndedInfeasibleIn p s
  unfolding prices
  ended_short none z = (prices, (none, z))

  pub ended_best : WantsNone p s One y1 y2 → WantsNone p s Two y1 y2 → artificial_sum p x ≡ zero_ℚ → HasEndedOptimalIn p s
  unfolding prices
  ended_best none none_two z = (prices, (no_column, z))
    where
      no_column : (j : ℕ) → IsEligible (stage_of p s) (place_at s) x (ones (layout_of p)) (twos (layout_of p)) (number_at y1) (number_at y2) j → ⊥
      no_column j (inl w) = none j w
      no_column j (inr w) = none_two j w.2

  pub picked_in : (rule : Rule) (at : PricingState) (j : ℕ) (c : Col) → number p c ≡ j → IsPicked (stage_of p s) (place_at s) x (ones (layout_of p)) (twos (layout_of p)) (number_at y1) (number_at y2) rule at j → IsPickedIn p s rule at (col_of c)
  unfolding prices
  picked_in rule at j c e h = (prices, subst (λ k. IsPicked (stage_of p s) (place_at s) x (ones (layout_of p)) (twos (layout_of p)) (number_at y1) (number_at y2) rule at k) (sym e) h)

-- ---- the direction
both_ways : (a b : ℚ) → a <ℚ b → b <ℚ a → ⊥
both_ways a b h k = lt_irrefl a (less_trans a b a h k)

-- A reduced cost has one direction,
improves_once : (x y : Bool) (d : ℚ) → Improves x d → Improves y d → x ≡ y
improves_once true true d a b = refl
improves_once true false d a b = absurd (both_ways zero_ℚ d a b)
improves_once false true d a b = absurd (both_ways d zero_ℚ a b)
improves_once false false d a b = refl

-- and is not 0.
improves_not_zero : (x : Bool) (d : ℚ) → Improves x d → d ≡ zero_ℚ → ⊥
improves_not_zero true d h e = lt_irrefl zero_ℚ (subst (λ z. zero_ℚ <ℚ z) e h)
improves_not_zero false d h e = lt_irrefl zero_ℚ (subst (λ z. z <ℚ zero_ℚ) e h)

-- Moving so lowers the cost of phase one, or keeps it and lowers that of phase two.
abbrev Lowers : ℚ → ℚ → Bool → Type 0
Lowers d1 d2 down = Improves down d1 ⊎ ((d1 ≡ zero_ℚ) × Improves down d2)

lowers_once : (d1 d2 : ℚ) (x y : Bool) → Lowers d1 d2 x → Lowers d1 d2 y → x ≡ y
lowers_once d1 d2 x y (inl a) (inl b) = improves_once x y d1 a b
lowers_once d1 d2 x y (inl a) (inr b) = absurd (improves_not_zero x d1 a b.0)
lowers_once d1 d2 x y (inr a) (inl b) = absurd (improves_not_zero y d1 b a.0)
lowers_once d1 d2 x y (inr a) (inr b) = improves_once x y d2 a.1 b.1

crossed : (a b : Option ℚ) (l u : ℚ) → AreInOrder a b → a ≡ Some l → b ≡ Some u → u <ℚ l → ⊥
crossed a b l u o d e h = not_le_of_lt u l h (subst (λ z. IsAtMost z l) e (subst (λ z. AreInOrder z b) d o))

module _ (p : LinearProgram) (s : Standing) (ok : IsProblem p) (x : ℕ → ℚ) (y1 y2 : List ℚ) (v : AreValuesOf p s x) (d1 : AreDualsOf p s PhaseOne (number_at y1)) (d2 : AreDualsOf p s PhaseTwo (number_at y2)) where
  uncrossed : (j : ℕ) → j < all_columns (layout_of p) → (l u : ℚ) → (stage_of p s).lower j ≡ Some l → (stage_of p s).upper j ≡ Some u → u <ℚ l → ⊥
  uncrossed j h l u a b less = crossed _ _ l u (by_columns (layout_of p) (λ c. AreInOrder (col_lower (layout_of p) c) (col_upper (layout_of p) c)) (λ k g. (layout_fits p ok).ordered k g) (λ q g. tt) (λ i g. tt) j h) a b less

  -- An eligible column would lower the costs in the direction of its reduced cost in the phase that decides about it.
  would : (j : ℕ) (c : Col) (down : Bool) → number p c ≡ j → j < all_columns (layout_of p) → IsEligible (stage_of p s) (place_at s) x (ones (layout_of p)) (twos (layout_of p)) (number_at y1) (number_at y2) j
      → Lowers (reduced (stage_of p s) (ones (layout_of p)) (number_at y1) j) (reduced (stage_of p s) (twos (layout_of p)) (number_at y2) j) down → WouldLower p s (col_of c) down
  would j c down e h eligible lowers =
      let (to, enters, improves) = eligible_enters (stage_of p s) (place_at s) x (ones (layout_of p)) (twos (layout_of p)) (number_at y1) (number_at y2) j (uncrossed j h) eligible in
      let same : to ≡ down = lowers_once _ _ to down improves lowers in
      record {
        prices = record { values = x; one = number_at y1; two = number_at y2; are_values = v; are_duals_one = d1; are_duals_two = d2 };
        enters = subst₂ (λ k b. CanEnter (stage_of p s) (place_at s) k b) (sym e) same enters;
        improves = subst (λ k. Lowers (reduced (stage_of p s) (ones (layout_of p)) (number_at y1) k) (reduced (stage_of p s) (twos (layout_of p)) (number_at y2) k) down) (sym e) lowers;
      }

  pub lowers_one : (c : Candidate) (col : Col) (down : Bool) → number p col ≡ c.number → down ≡ c.down → IsCandidate p s One y1 y2 c → WouldLower p s (col_of col) down
  lowers_one c col down e f h = would c.number col down e h.wanted.0.within (inl h.wanted) (inl (subst (λ b. Improves b (reduced (stage_of p s) (ones (layout_of p)) (number_at y1) c.number)) (sym f) h.moves.down))

  pub lowers_two : (c : Candidate) (col : Col) (down : Bool) → number p col ≡ c.number → down ≡ c.down → WantsNone p s One y1 y2 → artificial_sum p x ≡ zero_ℚ → IsCandidate p s Two y1 y2 c → WouldLower p s (col_of col) down
  lowers_two c col down e f none z h = would c.number col down e h.wanted.0.within (inr (none, z, h.wanted)) (inr (h.wanted.1, subst (λ b. Improves b (reduced (stage_of p s) (twos (layout_of p)) (number_at y2) c.number)) (sym f) h.moves.down))

-- ---- a wanted column is of the stage and nonbasic
wrong_stands : (a : model.Place) (d : ℚ) → HasWrongSign a d → (a ≢ model.Basic) × (a ≢ model.Absent)
wrong_stands model.Lower d w = ((λ e. cc), λ e. cc)
wrong_stands model.Upper d w = ((λ e. cc), λ e. cc)
wrong_stands model.Zero d w = ((λ e. cc), λ e. cc)
wrong_stands model.Absent d w = absurd w
wrong_stands model.Basic d w = absurd w

wanted_stands : (p : LinearProgram) (s : Standing) (phase : Phase) (y1 y2 : List ℚ) (j : ℕ) → Wants p s phase y1 y2 j → (place_at s j ≢ model.Basic) × (place_at s j ≢ model.Absent)
wanted_stands p s One y1 y2 j w = wrong_stands (place_at s j) _ w.1
wanted_stands p s Two y1 y2 j w = wrong_stands (place_at s j) _ w.2

pub wanted_nonbasic : (p : LinearProgram) (k : Kept) (phase : Phase) (y1 y2 : List ℚ) (j : ℕ) (c : Col) → IsStateOf p k → Wants p k.standing phase y1 y2 j → number p c ≡ j → col_of c ≡ col_at (layout_of p) j → 0 < named c → IsNonbasic p k.standing c
wanted_nonbasic p k phase y1 y2 j c st w e f h = ((h, present (column_or_not (layout_of p) k.standing.stage (col_of c))), subst (λ n. place_at k.standing n ≢ model.Basic) (sym e) stands.0)
  where
    stands : (place_at k.standing j ≢ model.Basic) × (place_at k.standing j ≢ model.Absent)
    stands = wanted_stands p k.standing phase y1 y2 j w

    within : j < all_columns (layout_of p)
    within = let b = wanted_within p k.standing phase y1 y2 j w in omega (arith, b)

    present : HasColumn p k.standing (col_of c) ⊎ (HasColumn p k.standing (col_of c) → ⊥) → HasColumn p k.standing (col_of c)
    present (inl a) = a
    present (inr n) = absurd (stands.1 ((st.fits.fits j within).absent (λ q. n (subst (HasColumn p k.standing) (sym f) q))))
