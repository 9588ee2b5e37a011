-- States as data: their columns, and the laws of their numbers and of the step.
use Rattle.std.proofs.Common.{◌≡◌, ◌≢◌, ℕ, ◌<◌, ◌≤◌, ◌⊎◌, inl, inr, Bool, length, Option, Some, None, refl, sym, ◌∙◌, subst}
use Rattle.std.proofs.lemmas.List.{ext_get_or}
use Rattle.nf_num.specs.Rational.{ℚ, ◌<ℚ◌}
use Rattle.nf_model.specs.Program.{LinearProgram, IsAtMost}
use Rattle.nf_model.specs.Problem.{AreInOrder}
use Rattle.nf_simplex.specs.Place.{Place, Lower, Upper, Zero, Absent, Basic}
use Rattle.nf_simplex.specs.Stage.{Stage}
use Rattle.nf_simplex.specs.Numbers.{StandsAt}
use Rattle.nf_simplex.specs.Lex.{IsLexFeasible}
use Rattle.nf_simplex.specs.Step.{IsFlip, IsExchange, CanEnter, IsNext}
use Rattle.nf_simplex.specs.Pricing.{IsEligible}
use Rattle.nf_simplex.specs.Layout.{layout_of}
use Rattle.nf_simplex.specs.Columns.{Col, all_columns, number_of, col_at, col_lower, col_upper, ones, twos}
use Rattle.nf_simplex.specs.States.{IsState}
use Rattle.nf_simplex.specs.Standing.{Standing, place_at, place_of, is_negative, stage_of, HasColumn, MayStandIn, IsStateOf, costs_of, IsFeasibleState}
use Rattle.nf_simplex.specs.Moves.{IsLowerThan}
use Rattle.nf_simplex.specs.Laws.{ValuesAreUnique, WeightsAreUnique, DualsAreUnique, NextIsUnique, EligibleWouldLower, StepsLower}
use Rattle.nf_simplex.proofs.Basis.{weights_unique, values_unique, duals_unique}
use Rattle.nf_simplex.proofs.Dimension.{inverse_of_basis}
use Rattle.nf_simplex.proofs.Next.{next_unique}
use Rattle.nf_simplex.proofs.Falls.{objective_falls}
use Rattle.nf_simplex.proofs.Price.{eligible_enters}
use Rattle.nf_simplex.proofs.Fits.{layout_fits}
use Rattle.nf_simplex.proofs.StageOf.{by_columns}
use Rattle.nf_simplex.proofs.States.{kept_back, kept_forth}
use Rattle.nf_simplex.proofs.Numbered.{col_number, number_within}
use Rattle.nf_num.proofs.Laws.{not_le_of_lt}

-- ---- the columns of a state
pub may_not_absent : (l u : Option ℚ) (a : Place) → MayStandIn l u a → a ≢ Absent
may_not_absent l u Lower h e = cc
may_not_absent l u Upper h e = cc
may_not_absent l u Zero h e = cc
may_not_absent l u Absent h e = h
may_not_absent l u Basic h e = cc

-- a column that stands at its number may stand there
pub stands_may : (l u : Option ℚ) (a : Place) (x : ℚ) → a ≢ Absent → StandsAt a l u x → MayStandIn l u a
stands_may (Some l) u Lower x n h = λ e. cc
stands_may None u Lower x n h = absurd h
stands_may l (Some u) Upper x n h = λ e. cc
stands_may l None Upper x n h = absurd h
stands_may (Some l) u Zero x n h = absurd h
stands_may None (Some u) Zero x n h = absurd h
stands_may None None Zero x n h = (refl, refl)
stands_may l u Absent x n h = absurd (n refl)
stands_may l u Basic x n h = tt

-- The places of a feasible state fit its stage.
abbrev pub state_of : (p : LinearProgram) (s : Standing) → IsFeasibleState p s → IsState (layout_of p) s.stage (is_negative s) (place_at s)
state_of p s f = record {
  present = λ j h g. may_not_absent _ _ (place_at s j) ((f.state.fits j h).present g);
  absent = λ j h g. (f.state.fits j h).absent g;
  feasible = f.feasible;
}

-- A column of the stage is not absent in a state.
pub column_present : (p : LinearProgram) (s : Standing) (c : Col) → p.arcs ≤ length p.columns → IsStateOf p s → HasColumn p s c → place_of p s c ≢ Absent
column_present p s c w st h =
    may_not_absent _ _ (place_of p s c) ((st.fits (number_of (layout_of p) c) (number_within (layout_of p) s.stage c w h)).present (subst (HasColumn p s) (sym (col_number (layout_of p) s.stage c w h)) h))

-- ---- the numbers
pub values_are_unique : ValuesAreUnique
values_are_unique p s b x y v u j h = values_unique (stage_of p s) (place_at s) x y b.independent v u j h

pub weights_are_unique : WeightsAreUnique
weights_are_unique p s b a w u v z j h = weights_unique (stage_of p s) (place_at s) a w u b.independent v z j h

pub duals_are_unique : DualsAreUnique
duals_are_unique p s b phase y z d e i h =
    let W = inverse_of_basis (stage_of p s) (place_at s) b in duals_unique (stage_of p s) (place_at s) W.0 W.1 (costs_of p phase) y z d e i h

-- ---- the step
same_standing : (t u : Standing) → t.stage ≡ u.stage → t.places ≡ u.places → t.negative ≡ u.negative → t ≡ u
same_standing t u a b c = λ i. record { stage = a i; places = b i; negative = c i }

pub next_is_unique : NextIsUnique
next_is_unique p s t u c down f enters x y =
    same_standing t u (x.same_stage ∙ sym y.same_stage) places (x.same_signs ∙ sym y.same_signs)
  where
    places : t.places ≡ u.places
    places = ext_get_or Absent t.places u.places (x.state.one_place_each ∙ sym y.state.one_place_each)
        (λ j h. next_unique (stage_of p s) (place_at s) f.feasible (number_of (layout_of p) c) down enters (place_at t) (place_at u) x.next y.next j (subst (λ n. j < n) x.state.one_place_each h))

pub eligible_within : (S : Stage) (s : ℕ → Place) (x one two y1 y2 : ℕ → ℚ) (j : ℕ) → IsEligible S s x one two y1 y2 j → j < S.columns
eligible_within S s x one two y1 y2 j (inl w) = w.0.within
eligible_within S s x one two y1 y2 j (inr w) = w.2.0.within

pub eligible_would_lower : EligibleWouldLower
eligible_would_lower p s c ok e =
    let w = eligible_enters (stage_of p s) (place_at s) e.0.values (ones (layout_of p)) (twos (layout_of p)) e.0.one e.0.two (number_of (layout_of p) c) (λ l u a b h. uncrossed l u a b h) e.1 in
    (w.0, record { prices = e.0; enters = w.1; improves = w.2 })
  where
    ordered : (j : ℕ) → j < all_columns (layout_of p) → AreInOrder (col_lower (layout_of p) (col_at (layout_of p) j)) (col_upper (layout_of p) (col_at (layout_of p) j))
    ordered = by_columns (layout_of p) (λ c. AreInOrder (col_lower (layout_of p) c) (col_upper (layout_of p) c)) (λ j h. (layout_fits p ok).ordered j h) (λ q h. tt) (λ i h. tt)

    crossed : (a b : Option ℚ) (l u : ℚ) → AreInOrder a b → a ≡ Some l → b ≡ Some u → u <ℚ l → ⊥
    crossed a b l u o d e h = not_le_of_lt u l h (subst (λ z. IsAtMost z l) e (subst (λ z. AreInOrder z b) d o))

    within : number_of (layout_of p) c < all_columns (layout_of p)
    within = eligible_within (stage_of p s) (place_at s) e.0.values (ones (layout_of p)) (twos (layout_of p)) e.0.one e.0.two (number_of (layout_of p) c) e.1

    uncrossed : (l u : ℚ) → (stage_of p s).lower (number_of (layout_of p) c) ≡ Some l → (stage_of p s).upper (number_of (layout_of p) c) ≡ Some u → u <ℚ l → ⊥
    uncrossed l u a b h = crossed _ _ l u (ordered (number_of (layout_of p) c) within) a b h

-- a standing with the stage and the signs of another one
moved_to : Standing → Standing → Standing
moved_to s t = record { stage = s.stage; places = t.places; negative = s.negative }

moved_is : (s t : Standing) → t.stage ≡ s.stage → t.negative ≡ s.negative → moved_to s t ≡ t
unfolding moved_to
moved_is s t a b = same_standing (moved_to s t) t (sym a) refl (sym b)

pub steps_lower : StepsLower
unfolding moved_to
steps_lower p s t c down f w x = (
  record { state = x.state; feasible = subst (λ u. IsLexFeasible (stage_of p u) (place_at u)) (moved_is s t x.same_stage x.same_signs) x.next.feasible },
  subst (λ u. IsLowerThan p u s) (moved_is s t x.same_stage x.same_signs) record {
    after = x.next.feasible;
    before = f.feasible;
    less = objective_falls (stage_of p s) (place_at s) f.feasible (number_of (layout_of p) c) down w.enters (place_at t) x.next (ones (layout_of p)) (twos (layout_of p)) w.prices.one w.prices.two w.prices.are_duals_one w.prices.are_duals_two w.improves;
  },
)

-- ---- a next state by its places is a state
pub next_fits : (p : LinearProgram) (s t : Standing) (e : ℕ) (down : Bool) → IsStateOf p s → CanEnter (stage_of p s) (place_at s) e down
    → t.stage ≡ s.stage → t.negative ≡ s.negative → length t.places ≡ length s.places → IsNext (stage_of p s) (place_at s) e down (place_at t) → IsStateOf p t
unfolding moved_to
next_fits p s t e down st c a b long x = subst (IsStateOf p) (moved_is s t a b) record {
  one_place_each = long ∙ st.one_place_each;
  one_sign_each = st.one_sign_each;
  fits = λ j h. record {
    present = λ g. stands_may _ _ (place_at t j) (x.feasible.values j) (λ z. may_not_absent _ _ (place_at s j) ((st.fits j h).present g) (back j h z x.differs)) (x.feasible.are_values.stands j h);
    absent = λ g. forth j h ((st.fits j h).absent g) x.differs;
  };
}
  where
    S : Stage
    S = stage_of p s

    back : (j : ℕ) → j < S.columns → place_at t j ≡ Absent → IsFlip S (place_at s) e (place_at t) ⊎ ((l : ℕ) × IsExchange S (place_at s) e l (place_at t)) → place_at s j ≡ Absent
    back = kept_back S (place_at s) (place_at t) e

    forth : (j : ℕ) → j < S.columns → place_at s j ≡ Absent → IsFlip S (place_at s) e (place_at t) ⊎ ((l : ℕ) × IsExchange S (place_at s) e l (place_at t)) → place_at t j ≡ Absent
    forth = kept_forth S (place_at s) (place_at t) e down c
