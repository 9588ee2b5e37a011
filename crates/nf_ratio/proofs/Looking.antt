-- The loop of the ratio test: which columns tie after so many inverse columns.
use Rattle.std.proofs.Common.{◌≡◌, ◌≢◌, ℕ, suc, ◌+◌, ◌-◌, ◌<◌, ◌≤◌, ◌⊎◌, inl, inr, Bool, List, length, Option, Some, None, option_map, if◌then◌else◌, lt-ltb, le-ltb, refl, sym, ap, ap₂, ◌∙◌, subst, arith, [], ◌∷◌}
use Rattle.nf_num.specs.Rational.{ℚ, zero_ℚ, ◌-ℚ◌}
use Rattle.nf_model.specs.Program.{LinearProgram, at}
use Rattle.nf_simplex.specs.Layout.{layout_of}
use Rattle.nf_simplex.specs.Stage.{Stage, order}
use Rattle.nf_num.specs.Sum.{delta}
use Rattle.nf_simplex.specs.Numbers.{AreWeights}
use Rattle.nf_simplex.specs.Place.{Basic}
use Rattle.nf_simplex.specs.Starts.{or_zero}
use Rattle.nf_simplex.specs.Moves.{CanEnterIn}
use Rattle.nf_simplex.specs.Standing.{Standing, place_at, stage_of, rows_of, IsFeasibleState}
use Rattle.nf_simplex.proofs.Terms.{v, nought, ◌:-◌, ring}
use Rattle.nf_simplex.proofs.Basis.{weights_unique, values_unique}
use Rattle.nf_simplex.proofs.Numbered.{number_within}
use Rattle.nf_simplex.proofs.Orders.{order_within}
use Rattle.nf_simplex.proofs.Least.{less_same}
use Rattle.nf_basis.specs.declared.col.Col.{Col}
use Rattle.nf_basis.specs.Names.{col_of}
use Rattle.nf_basis.specs.Kept.{IsPresent, number}
use Rattle.nf_basis.specs.Numbers.{AreEntriesBySlot, IsSound, in_slot, slot_number}
use Rattle.nf_ratio.specs.declared.tie.Found.{Found}
use Rattle.nf_ratio.specs.Ratios.{MoveNumbers, Limits, IsLeastIn, StandsAloneAfter}
use Rattle.nf_ratio.specs.Ties.{AreInOrder, AreLeast, IsAmong, tie}
use Rattle.nf_ratio.specs.Loops.{AreTiedWeights, turned, span_of, limiting, numbers_by, HasLeast, IsFree, bound_in, value_ratio_at, weight_ratio_at}
use Rattle.nf_ratio.proofs.First.{ratio_last, ratio_slot}
use Rattle.nf_ratio.proofs.Offers.{some_none, some_same, there_or_none}
use Rattle.nf_ratio.proofs.Tied.{IsCandidate, IsTie, MayTie, among_or_not, narrows, narrows_by, tie_first, tie_next, tie_alone, tie_least}
use Rattle.nf_ratio.proofs.Winner.{bounds_by, slot_bound, ratios_by, limits_at, place_of_limit, column_slot, column_last, may_slot, may_last, R_slot, R_last, IsAt}
use Rattle.nf_ratio.proofs.Steps.{one_column}
use Rattle.nf_ratio.proofs.Signs.{none_at_zero}

-- After so many inverse columns the first places of a list are those of the least ratios.
pub record HasLooked (p : LinearProgram) (s : Standing) (slots : List Col) (c : Col) (down : Bool) (entries : List ℚ) (looked : ℕ) (ts : List ℕ) (count : ℕ) : Type 0 where
  pub feasible : IsFeasibleState p s
  pub are : AreEntriesBySlot p s slots c entries
  pub long : length ts ≡ suc (rows_of p s)
  pub few : looked ≤ rows_of p s
  pub fit : count ≤ suc (rows_of p s)
  pub in_order : AreInOrder ts count
  pub tie : IsTie (rows_of p s) (bounds_by p (rows_of p s) slots c down entries) (ratios_by p (stage_of p s) (rows_of p s) slots c down entries feasible.feasible.values feasible.feasible.inverse) (suc looked) (IsAmong ts count)

mapped_ext : (o : Option ℚ) (f g : ℚ → ℚ) → ((b : ℚ) → o ≡ Some b → f b ≡ g b) → option_map f o ≡ option_map g o
mapped_ext None f g h = refl
mapped_ext (Some b) f g h = ap Some (h b refl)

span_ext : (o : Option ℚ) → o ≡ option_map (λ _. or_zero o) o
span_ext None = refl
span_ext (Some b) = refl

before : (k row : ℕ) → row ≡ suc k → k ≡ row - 1
before k row h = omega arith

less_zero : (y : ℚ) → y -ℚ zero_ℚ ≡ y
less_zero y = ring (y ∷ []) (v 0 :- nought) (v 0) refl

module _ (p : LinearProgram) (s : Standing) (slots : List Col) (x : ℕ → ℚ) (sound : IsSound p s slots x) (feasible : IsFeasibleState p s) (c : Col) (here : IsPresent p s c) (down : Bool) (entries : List ℚ) (are : AreEntriesBySlot p s slots c entries) where
  abbrev S : Stage
  S = stage_of p s

  abbrev m : ℕ
  m = rows_of p s

  abbrev n : MoveNumbers p s (col_of c)
  n = numbers_by p s (col_of c) feasible are.weights are.are_weights

  abbrev may : ℕ → Option ℚ
  may i = bounds_by p m slots c down entries i

  abbrev R : ℕ → ℕ → ℚ
  R i k = ratios_by p S m slots c down entries feasible.feasible.values feasible.feasible.inverse i k

  less_or_not : (i k : ℕ) → (i < k) ⊎ (k ≤ i)
  less_or_not i k = grind arith

  within : (i : ℕ) → i < m → slot_number p slots i < S.columns
  within i h = number_within (layout_of p) s.stage (col_of (in_slot slots i)) sound.problem.arcs_within (sound.listed.present i h).1

  -- The ratios of the values are the first members.
  first_members : length entries ≡ m → (i : ℕ) → i < suc m → value_ratio_at p slots x c down entries i ≡ option_map (λ _. R i 0) (may i)
  first_members long i h = of (less_or_not i m)
    where
      of : (i < m) ⊎ (m ≤ i) → value_ratio_at p slots x c down entries i ≡ option_map (λ _. R i 0) (may i)
      of (inl g) =
          ratio_slot p slots x c down entries i (subst (λ z. i < z) (sym long) g)
          ∙ (mapped_ext (slot_bound p slots down entries i) (λ b. turned down (x (slot_number p slots i) -ℚ b) (at entries i)) (λ _. R i 0) (λ b e.
          ap₂ (λ y z. turned down (y -ℚ z) (at entries i)) (values_unique S (place_at s) x feasible.feasible.values sound.basis.independent sound.values feasible.feasible.are_values (slot_number p slots i) (within i g)) (sym (ap or_zero e))
          ∙ sym (R_slot p s slots x sound c here down entries are n i 0 g))
          ∙ ap (option_map (λ _. R i 0)) (sym (may_slot p s slots x sound c here down entries are n i g)))
      of (inr g) =
          ratio_last p slots x c down entries i (subst (λ z. z ≤ i) (sym long) g)
          ∙ (span_ext (span_of p c) ∙ (ap (λ y. option_map (λ _. y) (span_of p c)) (sym (R_last p s slots x sound c here down entries are n i 0 g)) ∙ ap (option_map (λ _. R i 0)) (sym (may_last p s slots x sound c here down entries are n i g))))

  mapped_none : (o : Option ℚ) (a : ℚ) → o ≡ None → option_map (λ _. a) o ≡ None
  mapped_none o a e = ap (option_map (λ _. a)) e

  mapped_some : (o : Option ℚ) (a w : ℚ) → option_map (λ _. a) o ≡ Some w → (o ≢ None) × (a ≡ w)
  mapped_some None a w e = absurd (some_none w (sym e))
  mapped_some (Some u) a w e = ((λ d. some_none u d), some_same a w e)

  pub looked_first : (ts : List ℕ) (f : Found) → length entries ≡ m → length ts ≡ suc (length entries) → AreLeast (λ i. i) (value_ratio_at p slots x c down entries) (suc (length entries)) ts f → HasLooked p s slots c down entries 0 ts f.count
  looked_first ts f long room a = record {
    feasible = f_state;
    are = are;
    long = room ∙ ap suc long;
    few = omega arith;
    fit = (let g = a.few in omega (arith, g, long));
    in_order = a.in_order;
    tie = tie_next m may R 0 (MayTie m may) (tie_first m may R) (IsAmong ts f.count) (λ i h t. inl (h, t))
        (narrows_by (IsCandidate (λ i. i) ratio (suc (length entries))) (MayTie m may) (IsAmong ts f.count) (λ i. R i 0) to back
        (narrows (λ i. i) ratio (suc (length entries)) ts f a (λ i. R i 0) (λ j u h e. (mapped_some (may j) (R j 0) u (sym (member j h) ∙ e)).1)));
  }
    where
      f_state : IsFeasibleState p s
      f_state = feasible

      ratio : ℕ → Option ℚ
      ratio = value_ratio_at p slots x c down entries

      member : (i : ℕ) → i < suc (length entries) → value_ratio_at p slots x c down entries i ≡ option_map (λ _. R i 0) (may i)
      member i h = first_members long i (subst (λ z. i < suc z) long h)

      to : (i : ℕ) → IsCandidate (λ i. i) (value_ratio_at p slots x c down entries) (suc (length entries)) i → MayTie m may i
      to i (j, h, e, t) = subst (MayTie m may) e (subst (λ z. j < suc z) long h, λ z. t (member j h ∙ mapped_none (may j) (R j 0) z))

      back : (i : ℕ) → MayTie m may i → IsCandidate (λ i. i) (value_ratio_at p slots x c down entries) (suc (length entries)) i
      back i (h, t) = let g : i < suc (length entries) = subst (λ z. i < suc z) (sym long) h in (i, g, refl, λ z. t ((of (there_or_none (may i)) (sym (member i g) ∙ z))))
        where
          of : (may i ≡ None) ⊎ ((w : ℚ) × (may i ≡ Some w)) → option_map (λ _. R i 0) (may i) ≡ None → may i ≡ None
          of (inl e) y = e
          of (inr (w, e)) y = absurd (some_none (R i 0) (sym (ap (option_map (λ _. R i 0)) e) ∙ y))

module _ (p : LinearProgram) (s : Standing) (slots : List Col) (x : ℕ → ℚ) (sound : IsSound p s slots x) (c : Col) (here : IsPresent p s c) (down : Bool) (entries : List ℚ) (looked : ℕ) (ts : List ℕ) (count : ℕ) (l : HasLooked p s slots c down entries looked ts count) where
  abbrev n2 : MoveNumbers p s (col_of c)
  n2 = numbers_by p s (col_of c) l.feasible l.are.weights l.are.are_weights

  abbrev R2 : ℕ → ℕ → ℚ
  R2 i k = ratios_by p (stage_of p s) (rows_of p s) slots c down entries l.feasible.feasible.values l.feasible.feasible.inverse i k

  weight_slot : (w : ℚ) (i : ℕ) → i < length entries → weight_ratio_at down entries w i ≡ turned down w (at entries i)
  weight_slot w i h = ap (λ (b : Bool). if b then turned down w (at entries i) else zero_ℚ) (lt-ltb i (length entries) h)

  weight_last : (w : ℚ) (i : ℕ) → length entries ≤ i → weight_ratio_at down entries w i ≡ zero_ℚ
  weight_last w i h = ap (λ (b : Bool). if b then turned down w (at entries i) else zero_ℚ) (le-ltb i (length entries) h)

  -- The ratios of the weights in the next inverse column are the next members.
  next_members : (row : ℕ) → row ≡ suc (order (stage_of p s) looked) → (weights : List ℚ) → looked < rows_of p s → AreTiedWeights p s slots row ts count weights → length entries ≡ rows_of p s
      → (k : ℕ) → k < count → weight_ratio_at down entries (at weights k) (tie ts k) ≡ R2 (tie ts k) (suc looked)
  next_members row is weights h inv long k g = of (less_or_not p s slots x sound l.feasible c here down entries l.are (tie ts k) (rows_of p s))
    where
      i : ℕ
      i = tie ts k

      of : (i < rows_of p s) ⊎ (rows_of p s ≤ i) → weight_ratio_at down entries (at weights k) i ≡ R2 i (suc looked)
      of (inl b) =
          weight_slot (at weights k) i (subst (λ z. i < z) (sym long) b)
          ∙ (ap (λ y. turned down y (at entries i))
          (inv.by_tie k g b
          ∙ (weights_unique (stage_of p s) (place_at s) (delta (row - 1)) inv.weights (l.feasible.feasible.inverse (order (stage_of p s) looked)) sound.basis.independent inv.are_weights
          (subst (λ r. AreWeights (stage_of p s) (place_at s) (delta r) (l.feasible.feasible.inverse (order (stage_of p s) looked))) (let e : order (stage_of p s) looked ≡ row - 1 = before _ row is in e) (l.feasible.feasible.are_inverse (order (stage_of p s) looked) (order_within (stage_of p s) looked h))) (slot_number p slots i) (within p s slots x sound l.feasible c here down entries l.are i b)
          ∙ sym (less_zero _)))
          ∙ sym (R_slot p s slots x sound c here down entries l.are n2 i (suc looked) b))
      of (inr b) = weight_last (at weights k) i (subst (λ z. z ≤ i) (sym long) b) ∙ sym (R_last p s slots x sound c here down entries l.are n2 i (suc looked) b)

  pub looked_next : (row : ℕ) → row ≡ suc (order (stage_of p s) looked) → (weights : List ℚ) (us : List ℕ) (f : Found) → looked < rows_of p s → AreTiedWeights p s slots row ts count weights → length entries ≡ rows_of p s → length us ≡ length ts
      → AreLeast (tie ts) (λ k. Some (weight_ratio_at down entries (at weights k) (tie ts k))) count us f → HasLooked p s slots c down entries (looked + 1) us f.count
  looked_next row is weights us f h inv long same a = record {
    feasible = l.feasible;
    are = l.are;
    long = same ∙ l.long;
    few = omega arith;
    fit = (let g = a.few in let k = l.fit in omega (arith, g, k));
    in_order = a.in_order;
    tie = subst (λ z. IsTie (rows_of p s) (bounds_by p (rows_of p s) slots c down entries) R2 (suc z) (IsAmong us f.count)) (let e : suc looked ≡ looked + 1 = omega arith in e)
        (tie_next (rows_of p s) (bounds_by p (rows_of p s) slots c down entries) R2 (suc looked) (IsAmong ts count) l.tie (IsAmong us f.count) (λ i g t. among_or_not ts count i)
        (narrows_by (IsCandidate (tie ts) (λ k. Some (weight_ratio_at down entries (at weights k) (tie ts k))) count) (IsAmong ts count) (IsAmong us f.count) (λ i. R2 i (suc looked)) (λ i t. (t.0, t.1, t.2)) (λ i t. (t.0, t.1, t.2, λ z. some_none _ z))
        (narrows (tie ts) (λ k. Some (weight_ratio_at down entries (at weights k) (tie ts k))) count us f a (λ i. R2 i (suc looked)) (λ k u g e. sym (next_members row is weights h inv long k g) ∙ some_same _ u e))));
  }

  -- a column that limits the move, at its place
  at_place : (i : ℕ) → IsAmong ts count i → Limits p s (col_of c) down n2 (limiting p slots c i) (R2 i)
  at_place i a = limits_at p s slots x sound c here down entries l.are n2 i (l.tie.within i a)

  found_place : (j : ℕ) (q : ℕ → ℚ) → Limits p s (col_of c) down n2 j q → IsAt p s slots x sound c here down entries l.are n2 j q
  found_place j q t = place_of_limit p s slots x sound c here down entries l.are n2 j q t

  -- Where no place is left, no column limits the move.
  pub nobody_free : count ≡ 0 → IsFree p s c down
  nobody_free empty = record {
    feasible = l.feasible;
    entries = l.are.weights;
    are_entries = l.are.are_weights;
    none = λ j q t. let a = found_place j q t in let k = l.tie.some a.place a.within a.there in (let h = k.1.1 in absurd (omega (arith, h, empty)));
  }

  first_place : 0 < count → IsAmong ts count (tie ts 0)
  first_place h = (0, h, refl)

  place_below : (i : ℕ) → IsAmong ts count i → i < suc (rows_of p s)
  place_below i a = l.tie.below i a

  -- Where one place alone is left, that is the least.
  pub one_least : count ≡ 1 → HasLeast p s slots c down (tie ts 0)
  one_least single = record {
    feasible = l.feasible;
    entries = l.are.weights;
    are_entries = l.are.are_weights;
    ratio = R2 (tie ts 0);
    within = subst (λ z. tie ts 0 ≤ z) (sym sound.listed.as_many) (let k : tie ts 0 < suc (rows_of p s) = place_below (tie ts 0) here_first in omega arith);
    limits = at_place (tie ts 0) here_first;
    least = λ j q t less.
        let a = found_place j q t in
        tie_alone (rows_of p s) (bounds_by p (rows_of p s) slots c down entries) R2 (suc looked) (IsAmong ts count) l.tie (among_or_not ts count) (tie ts 0) here_first (λ k b. sym b.2 ∙ ap (tie ts) (let h = b.1 in let e : b.0 ≡ 0 = omega (arith, h, single) in e))
        (suc (rows_of p s)) (let k : looked ≤ rows_of p s = l.few in omega arith) a.place a.within a.there
        (less_same (suc (rows_of p s)) q (R2 a.place) (R2 (tie ts 0)) a.same less);
  }
    where
      here_first : IsAmong ts count (tie ts 0)
      here_first = first_place (omega (arith, single))

  -- ---- several places
  apart : (place_at s (number p c) ≢ Basic) → (i k : ℕ) → i < suc (rows_of p s) → k < suc (rows_of p s) → i ≢ k → limiting p slots c i ≢ limiting p slots c k
  apart nonbasic i k h g d e = of (less_or_not p s slots x sound l.feasible c here down entries l.are i (rows_of p s)) (less_or_not p s slots x sound l.feasible c here down entries l.are k (rows_of p s))
    where
      slot : (i : ℕ) → i < rows_of p s → limiting p slots c i ≡ slot_number p slots i
      slot i h = column_slot p s slots x sound c here down entries l.are n2 i h

      last : (i : ℕ) → rows_of p s ≤ i → limiting p slots c i ≡ number p c
      last i h = column_last p s slots x sound c here down entries l.are n2 i h

      of : (i < rows_of p s) ⊎ (rows_of p s ≤ i) → (k < rows_of p s) ⊎ (rows_of p s ≤ k) → ⊥
      of (inl a) (inl b) = d (sound.listed.distinct i k a b (sym (slot i a) ∙ (e ∙ slot k b)))
      of (inl a) (inr b) = nonbasic (ap (place_at s) (sym (last k b) ∙ (sym e ∙ slot i a)) ∙ sound.listed.basic i a)
      of (inr a) (inl b) = nonbasic (ap (place_at s) (sym (last i a) ∙ (e ∙ slot k b)) ∙ sound.listed.basic k b)
      of (inr a) (inr b) = d (let z : i ≡ k = omega arith in z)

  -- Two places of the list differ.
  differ : 1 < count → tie ts 0 ≢ tie ts 1
  differ h e = let z = l.in_order 0 1 (omega arith) h in omega (arith, z, e)

  -- Where several places are left, so are inverse columns,
  pub several_left : CanEnterIn p s (col_of c) down → 1 < count → looked < rows_of p s
  several_left enters several = of (less_or_not p s slots x sound l.feasible c here down entries l.are looked (rows_of p s))
    where
      a : IsAmong ts count (tie ts 0)
      a = (0, (omega (arith, several)), refl)

      b : IsAmong ts count (tie ts 1)
      b = (1, several, refl)

      of : (looked < rows_of p s) ⊎ (rows_of p s ≤ looked) → looked < rows_of p s
      of (inl z) = z
      of (inr z) = absurd (one_column p s (col_of c) down l.feasible enters l.are.weights l.are.are_weights (limiting p slots c (tie ts 0)) (limiting p slots c (tie ts 1)) (R2 (tie ts 0)) (R2 (tie ts 1))
          (at_place (tie ts 0) a) (at_place (tie ts 1) b) (λ q y. l.tie.equal (tie ts 0) (tie ts 1) a b q (omega arith)) (apart enters.nonbasic (tie ts 0) (tie ts 1) (place_below (tie ts 0) a) (place_below (tie ts 1) b) (differ several)))

  -- and more are needed.
  pub several_needed : CanEnterIn p s (col_of c) down → (t : ℕ) → StandsAloneAfter p s (col_of c) down t → 1 < count → looked < t
  several_needed enters t alone several = of (less_or_not p s slots x sound l.feasible c here down entries l.are looked t)
    where
      a : IsAmong ts count (tie ts 0)
      a = (0, (omega (arith, several)), refl)

      b : IsAmong ts count (tie ts 1)
      b = (1, several, refl)

      least : (i : ℕ) → IsAmong ts count i → t ≤ looked → IsLeastIn p s (col_of c) down n2 (suc t) (R2 i)
      least i a z j q y less =
          let f = found_place j q y in
          tie_least (rows_of p s) (bounds_by p (rows_of p s) slots c down entries) R2 (suc looked) (IsAmong ts count) l.tie (among_or_not ts count) i a (suc t) (omega arith) f.place f.within f.there
          (less_same (suc t) q (R2 f.place) (R2 i) (λ k r. f.same k (let w : looked ≤ rows_of p s = l.few in omega arith)) less)

      of : (looked < t) ⊎ (t ≤ looked) → looked < t
      of (inl z) = z
      of (inr z) = absurd (apart enters.nonbasic (tie ts 0) (tie ts 1) (place_below (tie ts 0) a) (place_below (tie ts 1) b) (differ several)
          (alone n2 (limiting p slots c (tie ts 0)) (limiting p slots c (tie ts 1)) (R2 (tie ts 0)) (R2 (tie ts 1)) (at_place (tie ts 0) a) (at_place (tie ts 1) b) (least (tie ts 0) a z) (least (tie ts 1) b z)))

  -- The places of the list are slots and the one after them,
  pub places_within : length entries ≡ rows_of p s → (k : ℕ) → k < count → tie ts k ≤ length entries
  places_within long k h = (let z : tie ts k < suc (rows_of p s) = place_below (tie ts k) (k, h, refl) in omega (arith, z, long))

  -- and a slot among them has an entry.
  pub entry_kept : length entries ≡ rows_of p s → (k : ℕ) → k < count → tie ts k < length entries → at entries (tie ts k) ≢ zero_ℚ
  entry_kept long k h g z =
      let i : tie ts k < rows_of p s = subst (λ m. tie ts k < m) long g in
      l.tie.within (tie ts k) (k, h, refl) (may_slot p s slots x sound c here down entries l.are n2 (tie ts k) i ∙ ap (bound_in p (in_slot slots (tie ts k))) (none_at_zero down (at entries (tie ts k)) z))
