-- What the place of the least ratio says of the state: who leaves, a flip, or a ray.
use Rattle.std.proofs.Common.{◌≡◌, ◌≢◌, ℕ, ◌<◌, ◌≤◌, inl, inr, Bool, true, false, List, length, Option, Some, None, refl, sym, ap, ◌∙◌, subst, arith}
use Rattle.nf_num.specs.Rational.{ℚ}
use Rattle.nf_model.specs.Program.{LinearProgram, at}
use Rattle.nf_simplex.specs.Moves.{HasNoNext}
use Rattle.nf_simplex.specs.Standing.{Standing, place_at, stage_of, rows_of}
use Rattle.nf_simplex.proofs.Basis.{weights_unique}
use Rattle.nf_simplex.proofs.Next.{bound_place}
use Rattle.nf_simplex.proofs.Moving.{leave_next, flip_next, no_next}
use Rattle.nf_basis.specs.declared.col.Col.{Col}
use Rattle.nf_basis.specs.declared.col.Place as place
use Rattle.nf_basis.specs.Names.{col_of, place_of}
use Rattle.nf_basis.specs.Kept.{IsBoundOf, IsPresent, number}
use Rattle.nf_basis.specs.Numbers.{AreEntriesBySlot, IsSound, in_slot, slot_number}
use Rattle.nf_ratio.specs.declared.answer.Limit.{Limit}
use Rattle.nf_ratio.specs.Answer.{CanMove, Flips, IsLimitOf, LeavesAt}
use Rattle.nf_ratio.specs.Loops.{HasLeast, IsAnswer, IsFree, IsWinner, numbers_by, place_ahead}
use Rattle.nf_ratio.specs.Ratios.{IsTowards, Limits, Meets, Spans, bound_on, rate}
use Rattle.nf_ratio.proofs.Causes.{lower_is, upper_is}
use Rattle.nf_ratio.proofs.Steps.{block, least_step, limit_of, span}
use Rattle.nf_ratio.proofs.Winner.{Ahead, ahead, side, one_side, towards_not_zero, stands, moves, limiting_last, limiting_slot}

some_not_none : (o : Option ℚ) (b : ℚ) → o ≡ Some b → o ≢ None
some_not_none o b e d = let z : Some b ≡ None = sym e ∙ d in cc

side_place : (up : Bool) → place_of (side up) ≡ bound_place up
side_place true = refl
side_place false = refl

module _ (p : LinearProgram) (s : Standing) (slots : List Col) (x : ℕ → ℚ) (sound : IsSound p s slots x) (c : Col) (down : Bool) (can : CanMove p s c down) (entries : List ℚ) (are : AreEntriesBySlot p s slots c entries) where
  is_bound : (d : Col) → IsPresent p s d → (up : Bool) (b : ℚ) → bound_on (stage_of p s) up (number p d) ≡ Some b → IsBoundOf p d (bound_place up)
  is_bound d h true b e = (tt, some_not_none _ b (sym (upper_is p s slots x sound d h) ∙ e))
  is_bound d h false b e = (tt, some_not_none _ b (sym (lower_is p s slots x sound d h) ∙ e))

  -- The column in the slot of the least ratio leaves.
  leaves : (i : ℕ) → i < rows_of p s → (l : HasLeast p s slots c down i) (t : Meets p s (col_of c) down (numbers_by p s (col_of c) l.feasible l.entries l.are_entries) (slot_number p slots i) l.ratio) → LeavesAt p s slots c down i (bound_place t.up)
  leaves i h l t = record {
    within = h;
    entry = λ w are z. towards_not_zero t.up down (l.entries (slot_number p slots i)) t.towards (weights_unique (stage_of p s) (place_at s) _ l.entries w sound.basis.independent l.are_entries are (slot_number p slots i) t.within ∙ z);
    bound = is_bound (in_slot slots i) (sound.listed.present i h) t.up t.bound t.is_bound;
    next = leave_next p s sound.problem.arcs_within l.feasible (col_of c) down can.enters can.nonbasic.0.1 (col_of (in_slot slots i)) t.up t.bound l.ratio (sound.listed.present i h).1
        (block p s (col_of c) down l.feasible can.enters l.entries l.are_entries (slot_number p slots i) l.ratio t) (least_step p s (col_of c) down l.feasible can.enters l.entries l.are_entries l.ratio l.least);
  }

  -- The entering column flips.
  flips : (i : ℕ) (l : HasLeast p s slots c down i) → Spans p s (col_of c) l.ratio → Flips p s c down
  flips i l t = record {
    can = record {
      nonbasic = can.nonbasic;
      lower = some_not_none _ t.low (sym (lower_is p s slots x sound c can.nonbasic.0) ∙ t.is_low);
      upper = some_not_none _ t.high (sym (upper_is p s slots x sound c can.nonbasic.0) ∙ t.is_high);
    };
    next = flip_next p s sound.problem.arcs_within l.feasible (col_of c) down can.enters can.nonbasic.0.1 l.ratio (span p s (col_of c) down l.feasible can.enters l.entries l.are_entries l.ratio t)
        (least_step p s (col_of c) down l.feasible can.enters l.entries l.are_entries l.ratio l.least);
  }

  free : IsFree p s c down → HasNoNext p s (col_of c) down
  free l = no_next p s sound.problem.arcs_within l.feasible (col_of c) down can.enters can.nonbasic.0.1 (λ R step. let t = limit_of p s (col_of c) down l.feasible can.enters l.entries l.are_entries R step in l.none t.0 R t.1)

  -- in a slot a basic column limits the move, and behind them the entering one
  meets : (i : ℕ) → i < rows_of p s → (l : HasLeast p s slots c down i) → Meets p s (col_of c) down (numbers_by p s (col_of c) l.feasible l.entries l.are_entries) (slot_number p slots i) l.ratio
  meets i h l = of (subst (λ j. Limits p s (col_of c) down (numbers_by p s (col_of c) l.feasible l.entries l.are_entries) j l.ratio) (limiting_slot p slots c i (subst (λ z. i < z) (sym sound.listed.as_many) h)) l.limits)
    where
      of : Limits p s (col_of c) down (numbers_by p s (col_of c) l.feasible l.entries l.are_entries) (slot_number p slots i) l.ratio → Meets p s (col_of c) down (numbers_by p s (col_of c) l.feasible l.entries l.are_entries) (slot_number p slots i) l.ratio
      of (inl t) = t
      of (inr (e, t)) = absurd (can.nonbasic.1 (ap (place_at s) (sym e) ∙ sound.listed.basic i h))

  spans : (i : ℕ) → length slots ≤ i → (l : HasLeast p s slots c down i) → Spans p s (col_of c) l.ratio
  spans i h l = of (subst (λ j. Limits p s (col_of c) down (numbers_by p s (col_of c) l.feasible l.entries l.are_entries) j l.ratio) (limiting_last p slots c i h) l.limits)
    where
      of : Limits p s (col_of c) down (numbers_by p s (col_of c) l.feasible l.entries l.are_entries) (number p c) l.ratio → Spans p s (col_of c) l.ratio
      of (inl t) = absurd (can.nonbasic.1 t.basic)
      of (inr (e, t)) = t

  -- The answer by a place.
  pub answered : (r : Option ℕ) (a : Limit) → length entries ≡ rows_of p s → IsWinner p s slots c down r → IsAnswer down entries r a → IsLimitOf p s slots c down a
  answered None a long w e = subst (IsLimitOf p s slots c down) (sym e) (free w)
  answered (Some i) a long w (inl (at_end, e)) = subst (IsLimitOf p s slots c down) (sym e) (flips i w (spans i (let z : length slots ≡ i = sound.listed.as_many ∙ (sym long ∙ sym at_end) in omega arith) w))
  answered (Some i) a long w (inr (h, e)) = of (place_ahead down (at entries i)) refl (ahead down (at entries i))
    where
      here : i < rows_of p s
      here = subst (λ z. i < z) long h

      t : Meets p s (col_of c) down (numbers_by p s (col_of c) w.feasible w.entries w.are_entries) (slot_number p slots i) w.ratio
      t = meets i here w

      entry : at entries i ≡ w.entries (slot_number p slots i)
      entry = are.by_slot i here ∙ weights_unique (stage_of p s) (place_at s) _ are.weights w.entries sound.basis.independent are.are_weights w.are_entries (slot_number p slots i) t.within

      of : (o : Option place.Place) → place_ahead down (at entries i) ≡ o → Ahead down (at entries i) o → IsLimitOf p s slots c down a
      of None q (stands z) = absurd (towards_not_zero t.up down (w.entries (slot_number p slots i)) t.towards (sym entry ∙ z))
      of (Some b) q (moves up r z) =
          subst (IsLimitOf p s slots c down) (sym (e (side up) q))
          (subst (LeavesAt p s slots c down i) (ap bound_place (one_side t.up up (rate down (at entries i)) (subst (λ u. IsTowards t.up (rate down u)) (sym entry) t.towards) r) ∙ sym (side_place up)) (leaves i here w t))
