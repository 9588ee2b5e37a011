-- Pivots and flips of states as data: they stay states, a pivot keeps a basis, and the least step gives the next state.
use Rattle.std.proofs.Common.{◌≡◌, ◌≢◌, ℕ, ◌<◌, ◌≤◌, Bool, true, false, [], ◌∷◌, length, set, Option, Some, None, refl, sym, ap, ◌∙◌, subst}
use Rattle.std.proofs.lemmas.List.{length-set}
use Rattle.nf_num.specs.Rational.{ℚ, zero_ℚ, ◌+ℚ◌, neg_ℚ}
use Rattle.nf_num.specs.Sum.{delta}
use Rattle.nf_model.specs.Program.{LinearProgram}
use Rattle.nf_model.specs.Problem.{IsProblem}
use Rattle.nf_simplex.specs.Place.{Place, Lower, Upper, Zero, Absent, Basic, IsBound, goes_down}
use Rattle.nf_simplex.specs.Stage.{Stage}
use Rattle.nf_simplex.specs.Numbers.{StandsAt}
use Rattle.nf_simplex.specs.Step.{IsExchange, CanEnter, IsNext}
use Rattle.nf_simplex.specs.Layout.{layout_of}
use Rattle.nf_simplex.specs.Columns.{Col, all_columns}
use Rattle.nf_simplex.specs.Standing.{Standing, number_in, column_in, lower_in, upper_in, place_at, place_of, stage_of, HasColumn, MayStandIn, IsStateOf, IsBasisOf, AreEntriesOf, IsFeasibleState}
use Rattle.nf_simplex.specs.Moves.{IsEligibleIn, WouldLower, CanEnterIn, IsNextOf, HasNoNext}
use Rattle.nf_simplex.specs.Changes.{with_place, exchanged, other_bound, flipped}
use Rattle.nf_simplex.proofs.Terms.{v, nought, minus, ◌:-◌, ring}
use Rattle.nf_simplex.proofs.Sum.{unit_other}
use Rattle.nf_simplex.proofs.Exchange.{IsDirection, direction, stays_independent}
use Rattle.nf_simplex.proofs.Count.{exchanged_basis}
use Rattle.nf_simplex.proofs.Next.{bound_place}
use Rattle.nf_simplex.proofs.Ratio.{IsBlock, IsSpan, IsStep, IsLeast, leave_is_next, flip_is_next}
use Rattle.nf_simplex.proofs.Blocks.{none_next}
use Rattle.nf_simplex.proofs.Numbered.{number_within, col_number}
use Rattle.nf_simplex.proofs.Standings.{next_fits, eligible_would_lower}
use Rattle.nf_simplex.proofs.Placed.{placed_here, placed_state, exchanged_is, flipped_is}

module _ (p : LinearProgram) (s : Standing) (arcs : p.arcs ≤ length p.columns) (st : IsStateOf p s) where
  -- a column of the stage has a place
  pub has_place : (c : Col) → HasColumn p s c → number_in p c < length s.places
  has_place c h = subst (λ n. number_in p c < n) (sym st.one_place_each) (number_within (layout_of p) s.stage c arcs h)

  pub named : (c : Col) → HasColumn p s c → column_in p (number_in p c) ≡ c
  named c h = col_number (layout_of p) s.stage c arcs h

  -- one place more that a column of the stage may stand in
  pub place_state : (c : Col) (a : Place) → HasColumn p s c → MayStandIn (lower_in p c) (upper_in p c) a → IsStateOf p (with_place s (number_in p c) a)
  place_state c a h may = placed_state p s (number_in p c) a st (subst (HasColumn p s) (sym (named c h)) h) (subst (λ d. MayStandIn (lower_in p d) (upper_in p d) a) (sym (named c h)) may)

module _ (p : LinearProgram) (s : Standing) (arcs : p.arcs ≤ length p.columns) (st : IsStateOf p s) where
  -- A pivot leads to a state where the leaving column may stand at its bound.
  pub exchanged_state : (e l : Col) (a : Place) → HasColumn p s e → HasColumn p s l → MayStandIn (lower_in p l) (upper_in p l) a → IsStateOf p (exchanged p s e l a)
  exchanged_state e l a h k may = place_state p (with_place s (number_in p e) Basic) arcs (place_state p s arcs st e Basic h tt) l a k may

  other_may : (l u : Option ℚ) (a : Place) → MayStandIn l u a → l ≢ None → u ≢ None → MayStandIn l u (other_bound a)
  other_may l u Lower m f g = g
  other_may l u Upper m f g = f
  other_may l u Zero m f g = m
  other_may l u Absent m f g = m
  other_may l u Basic m f g = m

  -- A flip leads to a state where the column has both bounds.
  pub flipped_state : (c : Col) → HasColumn p s c → lower_in p c ≢ None → upper_in p c ≢ None → IsStateOf p (flipped p s c)
  flipped_state c h f g =
      place_state p s arcs st c (other_bound (place_of p s c)) h
      (other_may (lower_in p c) (upper_in p c) (place_of p s c)
      (subst (λ d. MayStandIn (lower_in p d) (upper_in p d) (place_of p s c)) (named p s arcs st c h)
      ((st.fits (number_in p c) (number_within (layout_of p) s.stage c arcs h)).present (subst (HasColumn p s) (sym (named p s arcs st c h)) h))) f g)

  -- A pivot at an entry that is not 0 keeps a basis.
  pub exchanged_is_basis : (e l : Col) (a : Place) (w : ℕ → ℚ) → HasColumn p s e → HasColumn p s l → IsBasisOf p s → AreEntriesOf p s e w → place_of p s e ≢ Basic → place_of p s l ≡ Basic → IsBound a
      → w (number_in p l) ≢ zero_ℚ → IsBasisOf p (exchanged p s e l a)
  exchanged_is_basis e l a w h k b entries nonbasic basic bound pivot =
      exchanged_basis S (place_at s) (place_at (exchanged p s e l a)) (number_in p e) (number_in p l) within nonbasic x b
      (stays_independent S (place_at s) (number_in p e) (λ j. delta (number_in p e) j +ℚ neg_ℚ (w j)) d (number_in p l) (place_at (exchanged p s e l a)) nonbasic within x b.independent (λ z. pivot (plain (w (number_in p l)) (sym (ap (λ y. y +ℚ neg_ℚ (w (number_in p l))) (unit_other (number_in p e) (number_in p l) apart)) ∙ z))))
    where
      S : Stage
      S = stage_of p s

      within : number_in p e < all_columns (layout_of p)
      within = number_within (layout_of p) s.stage e arcs h

      x : IsExchange S (place_at s) (number_in p e) (number_in p l) (place_at (exchanged p s e l a))
      x = exchanged_is p s e l a (has_place p s arcs st e h) (has_place p s arcs st l k) st.one_place_each nonbasic basic bound

      d : IsDirection S (place_at s) (number_in p e) (λ j. delta (number_in p e) j +ℚ neg_ℚ (w j))
      d = direction S (place_at s) (number_in p e) w within nonbasic entries

      apart : number_in p e ≢ number_in p l
      apart q = nonbasic (ap (place_at s) q ∙ basic)

      plain : (y : ℚ) → zero_ℚ +ℚ neg_ℚ y ≡ zero_ℚ → y ≡ zero_ℚ
      plain y z = ring (y ∷ []) (v 0) (minus (nought :- v 0)) refl ∙ (ap neg_ℚ z ∙ ring [] (minus nought) nought refl)

-- ---- the ratio test
module _ (p : LinearProgram) (s : Standing) (arcs : p.arcs ≤ length p.columns) (f : IsFeasibleState p s) (c : Col) (down : Bool) (enters : CanEnterIn p s c down) (here : HasColumn p s c) where
  -- The exchange for the block of the least step is the next state,
  pub leave_next : (l : Col) (up : Bool) (b : ℚ) (R : ℕ → ℚ) → HasColumn p s l → IsBlock (stage_of p s) (place_at s) f.feasible (number_in p c) down enters (number_in p l) up b R
      → IsLeast (stage_of p s) (place_at s) f.feasible (number_in p c) down enters R → IsNextOf p s c down (exchanged p s c l (bound_place up))
  leave_next l up b R there block least = record {
    state = next_fits p s (exchanged p s c l (bound_place up)) (number_in p c) down f.state enters refl refl (length-set (set s.places (number_in p c) Basic) (number_in p l) (bound_place up) ∙ length-set s.places (number_in p c) Basic) next;
    same_stage = refl;
    same_signs = refl;
    next = next;
  }
    where
      bound : (u : Bool) → IsBound (bound_place u)
      bound true = tt
      bound false = tt

      gone : place_at (exchanged p s c l (bound_place up)) (number_in p l) ≡ bound_place up
      gone = placed_here (with_place s (number_in p c) Basic) (number_in p l) (bound_place up) (subst (λ n. number_in p l < n) (sym (length-set s.places (number_in p c) Basic)) (has_place p s arcs f.state l there))

      next : IsNext (stage_of p s) (place_at s) (number_in p c) down (place_at (exchanged p s c l (bound_place up)))
      next = leave_is_next (stage_of p s) (place_at s) f.feasible (number_in p c) down enters (place_at (exchanged p s c l (bound_place up))) (number_in p l) up b R block least
          (exchanged_is p s c l (bound_place up) (has_place p s arcs f.state c here) (has_place p s arcs f.state l there) f.state.one_place_each enters.nonbasic block.basic (bound up)) gone

  -- the flip is, where its step is the least,
  pub flip_next : (R : ℕ → ℚ) → IsSpan (stage_of p s) (place_at s) f.feasible (number_in p c) down enters R → IsLeast (stage_of p s) (place_at s) f.feasible (number_in p c) down enters R → IsNextOf p s c down (flipped p s c)
  flip_next R span least = record {
    state = next_fits p s (flipped p s c) (number_in p c) down f.state enters refl refl (length-set s.places (number_in p c) (other_bound (place_of p s c))) next;
    same_stage = refl;
    same_signs = refl;
    next = next;
  }
    where
      at_bound : (a : Place) (l u : Option ℚ) (x low : ℚ) → a ≢ Basic → a ≢ Absent → l ≡ Some low → StandsAt a l u x → IsBound a
      at_bound Lower l u x low n m e h = tt
      at_bound Upper l u x low n m e h = tt
      at_bound Zero (Some y) u x low n m e h = h
      at_bound Zero None u x low n m e h = cc
      at_bound Absent l u x low n m e h = m refl
      at_bound Basic l u x low n m e h = n refl

      next : IsNext (stage_of p s) (place_at s) (number_in p c) down (place_at (flipped p s c))
      next = flip_is_next (stage_of p s) (place_at s) f.feasible (number_in p c) down enters (place_at (flipped p s c)) R span least
          (flipped_is p s c (has_place p s arcs f.state c here) (at_bound (place_of p s c) _ _ (f.feasible.values (number_in p c)) span.low enters.nonbasic enters.present span.is_low (f.feasible.are_values.stands (number_in p c) enters.there)))

  -- and where there is no step, there is no next state.
  pub no_next : ((R : ℕ → ℚ) → IsStep (stage_of p s) (place_at s) f.feasible (number_in p c) down enters R → ⊥) → HasNoNext p s c down
  no_next none = none_next (stage_of p s) (place_at s) f.feasible (number_in p c) down enters none

-- ---- the direction
-- A column that can enter and does not stand at zero moves as its place says.
pub goes_down_is : (S : Stage) (s : ℕ → Place) (e : ℕ) (down : Bool) → CanEnter S s e down → s e ≢ Zero → down ≡ goes_down (s e)
goes_down_is S s e down c n = of (s e) refl
  where
    of : (a : Place) → s e ≡ a → down ≡ goes_down (s e)
    of Lower q = c.from_lower q ∙ sym (ap goes_down q)
    of Upper q = c.from_upper q ∙ sym (ap goes_down q)
    of Zero q = absurd (n q)
    of Absent q = absurd (c.present q)
    of Basic q = absurd (c.nonbasic q)

-- So an eligible column would lower the costs in that direction.
pub eligible_goes : (p : LinearProgram) (s : Standing) (c : Col) → IsProblem p → IsEligibleIn p s c → place_of p s c ≢ Zero → WouldLower p s c (goes_down (place_of p s c))
eligible_goes p s c ok e n =
    let w = eligible_would_lower p s c ok e in subst (WouldLower p s c) (goes_down_is (stage_of p s) (place_at s) (number_in p c) w.0 w.1.enters n) w.1

-- A column with a lower bound never stands at zero.
pub never_zero : (p : LinearProgram) (s : Standing) (c : Col) → p.arcs ≤ length p.columns → IsStateOf p s → HasColumn p s c → lower_in p c ≢ None → place_of p s c ≢ Zero
never_zero p s c arcs st h n z =
    of (place_of p s c) z (subst (λ d. MayStandIn (lower_in p d) (upper_in p d) (place_of p s c)) (named p s arcs st c h)
    ((st.fits (number_in p c) (number_within (layout_of p) s.stage c arcs h)).present (subst (HasColumn p s) (sym (named p s arcs st c h)) h)))
  where
    of : (a : Place) → a ≡ Zero → MayStandIn (lower_in p c) (upper_in p c) a → ⊥
    of Lower q m = let x : Lower ≡ Zero = q in cc
    of Upper q m = let x : Upper ≡ Zero = q in cc
    of Zero q m = n m.0
    of Absent q m = m
    of Basic q m = let x : Basic ≡ Zero = q in cc
