-- The ratios of the code, by slot, are those of the columns that limit the move; the least of them is the winner.
use Rattle.std.proofs.Common.{◌≡◌, ◌≢◌, ℕ, zero, suc, ◌<◌, ◌≤◌, ◌⊎◌, inl, inr, ℤ, pos, negsuc, Bool, true, false, cond, ltb, lt-ltb, le-ltb, List, length, Option, Some, None, if◌then◌else◌, refl, sym, ap, ap₂, ◌∙◌, subst, arith, [], ◌∷◌}
use Rattle.nf_num.specs.Rational.{ℚ, zero_ℚ, numer, ◌-ℚ◌, ◌*ℚ◌, neg_ℚ, inv_ℚ, ◌<ℚ◌}
use Rattle.nf_num.proofs.Laws.{zero_of_numer, mul_assoc, mul_inv}
use Rattle.nf_simplex.proofs.FieldLaws.{mul-one}
use Rattle.nf_simplex.proofs.Basis.{weights_unique}
use Rattle.nf_simplex.proofs.Numbered.{number_within}
use Rattle.nf_ratio.proofs.Offers.{both_ways, some_none, some_same, there_or_none}
use Rattle.nf_num.proofs.Order.{lt_irrefl}
use Rattle.nf_num.proofs.Linear.{linear_lt, lt}
use Rattle.nf_num.proofs.Linear as linear
use Rattle.nf_model.specs.Program.{LinearProgram, at}
use Rattle.nf_simplex.specs.Layout.{layout_of}
use Rattle.nf_simplex.specs.Stage.{Stage}
use Rattle.nf_simplex.specs.Starts.{or_zero}
use Rattle.nf_simplex.specs.Lex.{bound_vector, vector}
use Rattle.nf_simplex.specs.Standing.{Standing, place_at, stage_of, rows_of}
use Rattle.nf_simplex.proofs.Terms.{v, nought, minus, ◌:*◌, ◌:-◌, ring}
use Rattle.nf_simplex.proofs.Exchange.{divide_times}
use Rattle.nf_basis.specs.declared.col.Col.{Col}
use Rattle.nf_basis.specs.declared.col.Place as place
use Rattle.nf_basis.specs.declared.col.Place.TheVariants as at_place
use Rattle.nf_basis.specs.Names.{col_of}
use Rattle.nf_basis.specs.Kept.{IsPresent, number}
use Rattle.nf_basis.specs.Numbers.{AreEntriesBySlot, IsSound, in_slot, slot_number}
use Rattle.nf_ratio.specs.Ratios.{MoveNumbers, IsTowards, rate, bound_on, Meets, Spans, Limits}
use Rattle.nf_ratio.specs.Loops.{place_ahead, place_by, bound_at, bound_in, turned, span_of, distance_of, limiting}
use Rattle.nf_ratio.proofs.Causes.{lower_is, upper_is}
use Rattle.nf_ratio.proofs.Signs.{positive_is, negative_is}

-- ---- one slot
-- The bound in a place that is one of the two is the bound on that side.
abbrev pub side : Bool → place.Place
side true = at_place.Upper
side false = at_place.Lower

-- What the numerator of an entry says of the way ahead.
pub data Ahead (down : Bool) (w : ℚ) : Option place.Place → Type 0 where
  stands : w ≡ zero_ℚ → Ahead down w None
  moves : (up : Bool) → IsTowards up (rate down w) → w ≢ zero_ℚ → Ahead down w (Some (side up))

negative_of : (w : ℚ) → zero_ℚ <ℚ w → neg_ℚ w <ℚ zero_ℚ
negative_of w h = linear_lt (w ∷ []) (lt h ∷ []) (search linear.codes depth 12) tt

positive_of : (w : ℚ) → w <ℚ zero_ℚ → zero_ℚ <ℚ neg_ℚ w
positive_of w h = linear_lt (w ∷ []) (lt h ∷ []) (search linear.codes depth 12) tt

positive_again : (w : ℚ) → zero_ℚ <ℚ w → zero_ℚ <ℚ neg_ℚ (neg_ℚ w)
positive_again w h = linear_lt (w ∷ []) (lt h ∷ []) (search linear.codes depth 12) tt

negative_again : (w : ℚ) → w <ℚ zero_ℚ → neg_ℚ (neg_ℚ w) <ℚ zero_ℚ
negative_again w h = linear_lt (w ∷ []) (lt h ∷ []) (search linear.codes depth 12) tt

not_zero_above : (w : ℚ) → zero_ℚ <ℚ w → w ≢ zero_ℚ
not_zero_above w h e = lt_irrefl zero_ℚ (subst (λ z. zero_ℚ <ℚ z) e h)

not_zero_below : (w : ℚ) → w <ℚ zero_ℚ → w ≢ zero_ℚ
not_zero_below w h e = lt_irrefl zero_ℚ (subst (λ z. z <ℚ zero_ℚ) e h)

pub ahead : (down : Bool) (w : ℚ) → Ahead down w (place_ahead down w)
ahead down w = of down (numer w) refl
  where
    of : (d : Bool) (z : ℤ) → numer w ≡ z → Ahead d w (place_by d z)
    of d (pos zero) e = stands (zero_of_numer w e)
    of true (pos (suc n)) e = moves true (positive_again w (positive_is w n e)) (not_zero_above w (positive_is w n e))
    of false (pos (suc n)) e = moves false (negative_of w (positive_is w n e)) (not_zero_above w (positive_is w n e))
    of true (negsuc n) e = moves false (negative_again w (negative_is w n e)) (not_zero_below w (negative_is w n e))
    of false (negsuc n) e = moves true (positive_of w (negative_is w n e)) (not_zero_below w (negative_is w n e))

-- ---- the ratios by slot
-- A number divided by an entry, with the sign of the direction, times the rate, is the number negated.
pub turned_rate : (down : Bool) (way w : ℚ) → w ≢ zero_ℚ → turned down way w *ℚ rate down w ≡ neg_ℚ way
turned_rate false way w n = ring (way *ℚ inv_ℚ w ∷ w ∷ []) (v 0 :* minus (v 1)) (minus (v 0 :* v 1)) refl ∙ ap neg_ℚ (divide_times way w n)
turned_rate true way w n = ring (way *ℚ inv_ℚ w ∷ w ∷ []) (minus (v 0) :* minus (minus (v 1))) (minus (v 0 :* v 1)) refl ∙ ap neg_ℚ (divide_times way w n)

rate_not_zero : (down : Bool) (w : ℚ) → w ≢ zero_ℚ → rate down w ≢ zero_ℚ
rate_not_zero false w n e = n (ring (w ∷ []) (v 0) (minus (minus (v 0))) refl ∙ (ap neg_ℚ e ∙ ring [] (minus nought) nought refl))
rate_not_zero true w n e = n (ring (w ∷ []) (v 0) (minus (minus (v 0))) refl ∙ e)

-- Two numbers with the same product by a number other than 0 are equal.
same_factor : (a b r : ℚ) → r ≢ zero_ℚ → a *ℚ r ≡ b *ℚ r → a ≡ b
same_factor a b r n e = sym (undo a) ∙ (ap (λ y. y *ℚ inv_ℚ r) e ∙ undo b)
  where
    undo : (x : ℚ) → (x *ℚ r) *ℚ inv_ℚ r ≡ x
    undo x = mul_assoc x r (inv_ℚ r) ∙ (ap (λ y. x *ℚ y) (mul_inv r n) ∙ mul-one x)

-- A rate other than 0 is that of an entry other than 0.
pub towards_not_zero : (up down : Bool) (w : ℚ) → IsTowards up (rate down w) → w ≡ zero_ℚ → ⊥
towards_not_zero true down w h e = not_zero_above (rate down w) h (still down w e)
  where
    still : (d : Bool) (w : ℚ) → w ≡ zero_ℚ → rate d w ≡ zero_ℚ
    still false w e = ap neg_ℚ e ∙ ring [] (minus nought) nought refl
    still true w e = ap (λ y. neg_ℚ (neg_ℚ y)) e ∙ ring [] (minus (minus nought)) nought refl
towards_not_zero false down w h e = not_zero_below (rate down w) h (still down w e)
  where
    still : (d : Bool) (w : ℚ) → w ≡ zero_ℚ → rate d w ≡ zero_ℚ
    still false w e = ap neg_ℚ e ∙ ring [] (minus nought) nought refl
    still true w e = ap (λ y. neg_ℚ (neg_ℚ y)) e ∙ ring [] (minus (minus nought)) nought refl

-- A number moves towards one side.
pub one_side : (up on : Bool) (r : ℚ) → IsTowards up r → IsTowards on r → up ≡ on
one_side true true r a b = refl
one_side false false r a b = refl
one_side true false r a b = absurd (both_ways zero_ℚ r a b)
one_side false true r a b = absurd (both_ways r zero_ℚ a b)

-- The bound ahead of the column in a slot.
abbrev pub slot_bound : LinearProgram → List Col → Bool → List ℚ → ℕ → Option ℚ
slot_bound p slots down entries i = bound_in p (in_slot slots i) (place_ahead down (at entries i))

-- The bounds ahead by slot, and behind them the distance of c's own.
abbrev pub bounds_by : LinearProgram → ℕ → List Col → Col → Bool → List ℚ → ℕ → Option ℚ
bounds_by p m slots c down entries i = cond (ltb i m) (slot_bound p slots down entries i) (span_of p c)

-- Member k of the ratio of the column in a slot.
abbrev pub slot_ratio : LinearProgram → Stage → List Col → Bool → List ℚ → (ℕ → ℚ) → (ℕ → ℕ → ℚ) → ℕ → ℕ → ℚ
slot_ratio p S slots down entries x w i k = turned down (vector S x w (slot_number p slots i) k -ℚ bound_vector (or_zero (slot_bound p slots down entries i)) k) (at entries i)

-- The ratios by slot, and behind them that of c.
abbrev pub ratios_by : LinearProgram → Stage → ℕ → List Col → Col → Bool → List ℚ → (ℕ → ℚ) → (ℕ → ℕ → ℚ) → ℕ → ℕ → ℚ
ratios_by p S m slots c down entries x w i k = cond (ltb i m) (slot_ratio p S slots down entries x w i k) (bound_vector (or_zero (span_of p c)) k)

pub limiting_slot : (p : LinearProgram) (slots : List Col) (c : Col) (i : ℕ) → i < length slots → limiting p slots c i ≡ slot_number p slots i
limiting_slot p slots c i h = ap (λ b. if b then slot_number p slots i else number p c) (lt-ltb i (length slots) h)

pub limiting_last : (p : LinearProgram) (slots : List Col) (c : Col) (i : ℕ) → length slots ≤ i → limiting p slots c i ≡ number p c
limiting_last p slots c i h = ap (λ b. if b then slot_number p slots i else number p c) (le-ltb i (length slots) h)

module _ (p : LinearProgram) (s : Standing) (slots : List Col) (x : ℕ → ℚ) (sound : IsSound p s slots x) (c : Col) (here : IsPresent p s c) (down : Bool) (entries : List ℚ) (are : AreEntriesBySlot p s slots c entries) (n : MoveNumbers p s (col_of c)) where
  abbrev pub S : Stage
  S = stage_of p s

  abbrev pub m : ℕ
  m = rows_of p s

  abbrev pub may_in : ℕ → Option ℚ
  may_in i = slot_bound p slots down entries i

  abbrev pub may : ℕ → Option ℚ
  may i = bounds_by p m slots c down entries i

  abbrev pub ratio_at : ℕ → ℕ → ℚ
  ratio_at i k = slot_ratio p S slots down entries n.values n.inverse i k

  abbrev pub R : ℕ → ℕ → ℚ
  R i k = ratios_by p S m slots c down entries n.values n.inverse i k

  pub may_slot : (i : ℕ) → i < m → may i ≡ may_in i
  may_slot i h = ap (λ b. cond b (may_in i) (span_of p c)) (lt-ltb i m h)

  pub may_last : (i : ℕ) → m ≤ i → may i ≡ span_of p c
  may_last i h = ap (λ b. cond b (may_in i) (span_of p c)) (le-ltb i m h)

  pub R_slot : (i k : ℕ) → i < m → R i k ≡ ratio_at i k
  R_slot i k h = ap (λ b. cond b (ratio_at i k) (bound_vector (or_zero (span_of p c)) k)) (lt-ltb i m h)

  pub R_last : (i k : ℕ) → m ≤ i → R i k ≡ bound_vector (or_zero (span_of p c)) k
  R_last i k h = ap (λ b. cond b (ratio_at i k) (bound_vector (or_zero (span_of p c)) k)) (le-ltb i m h)

  entry_is : (i : ℕ) → i < m → at entries i ≡ n.entries (slot_number p slots i)
  entry_is i h = are.by_slot i h ∙ weights_unique S (place_at s) (S.entry (number p c)) are.weights n.entries sound.basis.independent are.are_weights n.are_entries (slot_number p slots i) (number_within (layout_of p) s.stage (col_of (in_slot slots i)) sound.problem.arcs_within (sound.listed.present i h).1)

  -- The bound of a column in a place that is one of the two is that on the same side.
  bound_there : (d : Col) → IsPresent p s d → (up : Bool) → bound_at p d (side up) ≡ bound_on S up (number p d)
  bound_there d h true = sym (upper_is p s slots x sound d h)
  bound_there d h false = sym (lower_is p s slots x sound d h)

  -- The ratio of a slot, times the rate, is the way to the bound ahead.
  ratio_met : (i : ℕ) → i < m → (b : ℚ) → may_in i ≡ Some b → at entries i ≢ zero_ℚ → (k : ℕ) → R i k *ℚ rate down (n.entries (slot_number p slots i)) ≡ bound_vector b k -ℚ vector S n.values n.inverse (slot_number p slots i) k
  ratio_met i h b e z k =
      ap₂ (λ y w. y *ℚ rate down w) (R_slot i k h) (sym (entry_is i h))
      ∙ (turned_rate down (vector S n.values n.inverse (slot_number p slots i) k -ℚ bound_vector (or_zero (may_in i)) k) (at entries i) z
      ∙ (ring (vector S n.values n.inverse (slot_number p slots i) k ∷ bound_vector (or_zero (may_in i)) k ∷ []) (minus (v 0 :- v 1)) (v 1 :- v 0) refl
      ∙ ap (λ o. bound_vector (or_zero o) k -ℚ vector S n.values n.inverse (slot_number p slots i) k) e))

  -- A place with a bound ahead has a column that limits the move.
  pub meets_at : (i : ℕ) → i < m → (b : ℚ) → may_in i ≡ Some b → Meets p s (col_of c) down n (slot_number p slots i) (R i)
  meets_at i h b e = of (place_ahead down (at entries i)) refl (ahead down (at entries i))
    where
      d : Col
      d = in_slot slots i

      of : (a : Option place.Place) → place_ahead down (at entries i) ≡ a → Ahead down (at entries i) a → Meets p s (col_of c) down n (slot_number p slots i) (R i)
      of None q (stands z) = absurd (let y : None ≡ Some b = ap (bound_in p d) (sym q) ∙ e in cc)
      of (Some a) q (moves up t z) = record {
        within = number_within (layout_of p) s.stage (col_of d) sound.problem.arcs_within (sound.listed.present i h).1;
        basic = sound.listed.basic i h;
        up = up;
        bound = b;
        is_bound = sym (bound_there d (sound.listed.present i h) up) ∙ (ap (bound_in p d) (sym q) ∙ e);
        towards = subst (λ w. IsTowards up (rate down w)) (entry_is i h) t;
        ratio = λ k l. ratio_met i h b e z k;
      }

  -- The last place has the distance of two bounds.
  spans_of : (l u : Option ℚ) (b : ℚ) → distance_of l u ≡ Some b → (low : ℚ) × (high : ℚ) × (l ≡ Some low) × (u ≡ Some high) × (b ≡ high -ℚ low)
  spans_of None u b e = absurd (some_none b (sym e))
  spans_of (Some l) None b e = absurd (some_none b (sym e))
  spans_of (Some l) (Some u) b e = (l, u, refl, refl, some_same b (u -ℚ l) (sym e))

  pub spans_at : (i : ℕ) → m ≤ i → (b : ℚ) → span_of p c ≡ Some b → Spans p s (col_of c) (R i)
  spans_at i h b e =
      let (low, high, l, u, is) = spans_of _ _ b e in
      record {
        low = low;
        high = high;
        is_low = lower_is p s slots x sound c here ∙ l;
        is_high = upper_is p s slots x sound c here ∙ u;
        ratio = λ k g. R_last i k h ∙ ap (λ o. bound_vector (or_zero o) k) e ∙ ap (λ z. bound_vector z k) is;
      }

  less_or_not : (i k : ℕ) → (i < k) ⊎ (k ≤ i)
  less_or_not i k = grind arith

  -- The column of a place.
  pub column_slot : (i : ℕ) → i < m → limiting p slots c i ≡ slot_number p slots i
  column_slot i h = limiting_slot p slots c i (subst (λ z. i < z) (sym sound.listed.as_many) h)

  pub column_last : (i : ℕ) → m ≤ i → limiting p slots c i ≡ number p c
  column_last i h = limiting_last p slots c i (subst (λ z. z ≤ i) (sym sound.listed.as_many) h)

  pub limits_at : (i : ℕ) → may i ≢ None → Limits p s (col_of c) down n (limiting p slots c i) (R i)
  limits_at i a = of (less_or_not i m)
    where
      of : (i < m) ⊎ (m ≤ i) → Limits p s (col_of c) down n (limiting p slots c i) (R i)
      of (inl h) = there (there_or_none (may_in i))
        where
          there : (may_in i ≡ None) ⊎ ((b : ℚ) × (may_in i ≡ Some b)) → Limits p s (col_of c) down n (limiting p slots c i) (R i)
          there (inl e) = absurd (a (may_slot i h ∙ e))
          there (inr (b, e)) = inl (subst (λ j. Meets p s (col_of c) down n j (R i)) (sym (column_slot i h)) (meets_at i h b e))
      of (inr h) = there (there_or_none (span_of p c))
        where
          there : (span_of p c ≡ None) ⊎ ((b : ℚ) × (span_of p c ≡ Some b)) → Limits p s (col_of c) down n (limiting p slots c i) (R i)
          there (inl e) = absurd (a (may_last i h ∙ e))
          there (inr (b, e)) = inr (column_last i h, spans_at i h b e)

  -- Each column that limits the move has a place, and its ratio is the one there.
  pub record IsAt (j : ℕ) (q : ℕ → ℚ) : Type 0 where
    pub place : ℕ
    pub within : place < suc m
    pub there : may place ≢ None
    pub column : limiting p slots c place ≡ j
    pub same : (k : ℕ) → k < suc m → q k ≡ R place k

  meets_place : (j : ℕ) (q : ℕ → ℚ) → Meets p s (col_of c) down n j q → IsAt j q
  meets_place j q t = of (sound.listed.every j t.within t.basic)
    where
      of : (i : ℕ) × (i < m) × (slot_number p slots i ≡ j) → IsAt j q
      of (i, h, z) = on (place_ahead down w) refl (ahead down w)
        where
          w : ℚ
          w = at entries i

          w_is : w ≡ n.entries j
          w_is = entry_is i h ∙ ap n.entries z

          on : (a : Option place.Place) → place_ahead down w ≡ a → Ahead down w a → IsAt j q
          on None g (stands y) = absurd (towards_not_zero t.up down (n.entries j) t.towards (sym w_is ∙ y))
          on (Some a) g (moves up r y) = record {
            place = i;
            within = omega arith;
            there = λ e. some_none t.bound (sym bound ∙ (sym (may_slot i h) ∙ e));
            column = column_slot i h ∙ z;
            same = λ k l. same_factor (q k) (R i k) (rate down (n.entries j)) (rate_not_zero down (n.entries j) (λ e. y (w_is ∙ e))) (t.ratio k l ∙ sym (met k l));
          }
            where
              up_is : up ≡ t.up
              up_is = one_side up t.up (rate down w) r (subst (λ u. IsTowards t.up (rate down u)) (sym w_is) t.towards)

              bound : may_in i ≡ Some t.bound
              bound = ap (bound_in p (in_slot slots i)) g ∙ (bound_there (in_slot slots i) (sound.listed.present i h) up ∙ (ap₂ (bound_on S) up_is z ∙ t.is_bound))

              met : (k : ℕ) → k < suc m → R i k *ℚ rate down (n.entries j) ≡ bound_vector t.bound k -ℚ vector S n.values n.inverse j k
              met k l = subst (λ a. R i k *ℚ rate down (n.entries a) ≡ bound_vector t.bound k -ℚ vector S n.values n.inverse a k) z (ratio_met i h t.bound bound y k)

  pub place_of_limit : (j : ℕ) (q : ℕ → ℚ) → Limits p s (col_of c) down n j q → IsAt j q
  place_of_limit j q (inl t) = meets_place j q t
  place_of_limit j q (inr (e, t)) = record {
    place = m;
    within = omega arith;
    there = λ z. some_none (t.high -ℚ t.low) (sym span ∙ (sym (may_last m (omega arith)) ∙ z));
    column = column_last m (omega arith) ∙ sym e;
    same = λ k l. t.ratio k l ∙ sym (R_last m k (omega arith) ∙ ap (λ o. bound_vector (or_zero o) k) span);
  }
    where
      span : span_of p c ≡ Some (t.high -ℚ t.low)
      span = ap₂ distance_of (sym (lower_is p s slots x sound c here) ∙ t.is_low) (sym (upper_is p s slots x sound c here) ∙ t.is_high)
