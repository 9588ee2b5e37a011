-- The parts of the wide basis while they are made: slots, values, spread weights, and one column of the inverse.
use Rattle.std.proofs.Common.{◌≡◌, ◌≢◌, ◌⊎◌, inl, inr, ℕ, ◌+◌, ◌-◌, ◌<◌, ◌≤◌, Bool, not, List, [], ◌∷◌, ◌++◌, length, set, refl, sym, ap, ap₂, ◌∙◌, subst, arith}
use Rattle.std.proofs.lemmas.List.{get_or_append_left, get_or_push, length_push, length-set, get_or-set_same, get_or-set_other}
use Rattle.nf_num.specs.Rational.{ℚ, zero_ℚ, ◌*ℚ◌}
use Rattle.nf_model.specs.Program.{LinearProgram, at, coefficient, row_sum}
use Rattle.nf_inverse.specs.Weights.{weight}
use Rattle.nf_inverse.specs.Exchanged.{IsPut}
use Rattle.nf_prob.specs.Numbers.{IsNumber}
use Rattle.nf_sums.specs.Terms.{with_sign}
use Rattle.nf_simplex.specs.Standing.{Standing}
use Rattle.nf_simplex.proofs.Sum.{sum_ext, equal_or_not}
use Rattle.nf_basis.specs.declared.col.Col.{Col}
use Rattle.nf_basis.specs.declared.col.Col.TheVariants.{Given, Slack, Artificial}
use Rattle.nf_basis.specs.Kept.{number}
use Rattle.nf_basis.specs.Numbers.{in_slot, slot_number}
use Rattle.nf_stage_two.specs.Wide.{IsOwnColumn, AreWideSlots, AreWideValues, HasWideWeight, AreSpread, is_turned, is_own_turned, sum_in_row}

below_next : (j n : ℕ) → j < n + 1 → (j < n) ⊎ (j ≡ n)
below_next j n l = grind arith

-- ---- slots
-- What stands in slot k.
pub record IsWideSlot (p : LinearProgram) (t : Standing) (first : List Col) (k : ℕ) (c : Col) : Type 0 where
  pub first_one : k < p.nodes → c ≡ in_slot first k
  pub own_one : (q : ℕ) → k ≡ p.nodes + q → IsOwnColumn p t q c

-- The slots below n.
pub record AreSlotsBelow (p : LinearProgram) (t : Standing) (first : List Col) (n : ℕ) (slots : List Col) : Type 0 where
  pub as_many : length slots ≡ n
  pub each : (k : ℕ) → k < n → IsWideSlot p t first k (in_slot slots k)

pub no_slots : (p : LinearProgram) (t : Standing) (first : List Col) → AreSlotsBelow p t first 0 []
no_slots p t first = record { as_many = refl; each = λ k h. absurd (omega arith) }

pub slot_pushed : (p : LinearProgram) (t : Standing) (first : List Col) (n : ℕ) (slots : List Col) (c : Col) → AreSlotsBelow p t first n slots → IsWideSlot p t first n c → AreSlotsBelow p t first (n + 1) (slots ++ c ∷ [])
slot_pushed p t first n slots c a new = record { as_many = length_push slots c ∙ ap (λ k. k + 1) a.as_many; each = λ k h. of k (below_next k n h) }
  where
    of : (k : ℕ) → (k < n) ⊎ (k ≡ n) → IsWideSlot p t first k (in_slot (slots ++ c ∷ []) k)
    of k (inl l) = subst (IsWideSlot p t first k) (sym (get_or_append_left slots (c ∷ []) (Given 0) k (let e = a.as_many in omega arith))) (a.each k l)
    of k (inr e) = subst (IsWideSlot p t first k) (sym (get_or_push slots c (Given 0) k (a.as_many ∙ sym e))) (subst (λ m. IsWideSlot p t first m c) (sym e) new)

pub slots_all : (p : LinearProgram) (t : Standing) (first : List Col) (n : ℕ) (slots : List Col) → p.nodes ≤ length p.rows → n ≡ length p.rows → AreSlotsBelow p t first n slots → AreWideSlots p t first slots
slots_all p t first n slots w e a = record {
  as_many = a.as_many ∙ e;
  first_ones = λ k h. (a.each k (omega arith)).first_one h;
  own_ones = λ q h. (a.each (p.nodes + q) (omega arith)).own_one q refl;
}

-- ---- values
-- The value in slot k.
pub record IsWideValue (p : LinearProgram) (t : Standing) (x lacks : ℕ → ℚ) (slots : List Col) (k : ℕ) (a : ℚ) : Type 0 where
  pub first_one : k < p.nodes → a ≡ x (slot_number p slots k)
  pub own_one : (q : ℕ) → k ≡ p.nodes + q → a ≡ with_sign (is_own_turned p t slots q) (lacks (p.nodes + q))

-- ---- a list one of whose places is filled after another
pub each_put : (P : ℕ → ℚ → Type 0) (xs : List ℚ) (n m : ℕ) (a : ℚ) → length xs ≡ m → n < m → ((k : ℕ) → k < n → P k (at xs k)) → P n a → (k : ℕ) → k < n + 1 → P k (at (set xs n a) k)
each_put P xs n m a len h before new k l = of (below_next k n l)
  where
    of : (k < n) ⊎ (k ≡ n) → P k (at (set xs n a) k)
    of (inl b) = subst (P k) (sym (get_or-set_other xs n k a zero_ℚ (omega arith))) (before k b)
    of (inr e) = subst (λ i. P i (at (set xs n a) i)) (sym e) (subst (P n) (sym (get_or-set_same xs n a zero_ℚ (subst (λ i. n < i) (sym len) h))) new)

pub values_all : (p : LinearProgram) (t : Standing) (x lacks : ℕ → ℚ) (slots : List Col) (n : ℕ) (values : List ℚ) → p.nodes ≤ length p.rows → n ≡ length p.rows → length values ≡ length p.rows
    → ((k : ℕ) → k < n → IsWideValue p t x lacks slots k (at values k)) → AreWideValues p t x lacks slots values
values_all p t x lacks slots n values w e len each = record {
  as_many = len;
  first_ones = λ k h. (each k (omega arith)).first_one h;
  own_ones = λ q h. (each (p.nodes + q) (omega arith)).own_one q refl;
}

-- ---- spread weights
module _ (p : LinearProgram) (slots : List Col) (by_slot : List ℚ)
    (distinct : (k i : ℕ) → k < length by_slot → i < length by_slot → slot_number p slots k ≡ slot_number p slots i → k ≡ i)
    (given : (k j : ℕ) → k < length by_slot → in_slot slots k ≡ Given j → IsNumber j (length p.columns)) where
  -- The weights of the first n slots are spread.
  pub record AreSpreadBelow (n : ℕ) (spread : List ℚ) : Type 0 where
    pub as_many : length spread ≡ length p.columns
    pub in_slots : (k : ℕ) → k < n → slot_number p slots k < length p.columns → at spread (slot_number p slots k) ≡ at by_slot k
    pub others : (j : ℕ) → j < length p.columns → ((k : ℕ) → k < length by_slot → slot_number p slots k ≢ j) → at spread j ≡ zero_ℚ

  -- A given column's weight goes to its number,
  pub given_spread : (n j : ℕ) (spread : List ℚ) → n < length by_slot → in_slot slots n ≡ Given j → AreSpreadBelow n spread → AreSpreadBelow (n + 1) (set spread (j - 1) (at by_slot n))
  given_spread n j spread h e a = record {
    as_many = length-set spread (j - 1) (at by_slot n) ∙ a.as_many;
    in_slots = λ k l m. of k m (below_next k n l);
    others = λ i l none. get_or-set_other spread (j - 1) i (at by_slot n) zero_ℚ (λ q. none n h (here ∙ sym q)) ∙ a.others i l none;
  }
    where
      here : slot_number p slots n ≡ j - 1
      here = ap (number p) e

      inside : j - 1 < length spread
      inside = let x = (given n j h e).0 in let y = (given n j h e).1 in let z = a.as_many in omega arith

      of : (k : ℕ) → slot_number p slots k < length p.columns → (k < n) ⊎ (k ≡ n) → at (set spread (j - 1) (at by_slot n)) (slot_number p slots k) ≡ at by_slot k
      of k m (inl l) = get_or-set_other spread (j - 1) (slot_number p slots k) (at by_slot n) zero_ℚ (λ q. let z = distinct k n (omega arith) h (q ∙ sym here) in omega arith) ∙ a.in_slots k l m
      of k m (inr q) = ap (at (set spread (j - 1) (at by_slot n))) (ap (slot_number p slots) q ∙ here) ∙ (get_or-set_same spread (j - 1) (at by_slot n) zero_ℚ inside ∙ ap (at by_slot) (sym q))

  -- and another one's nowhere.
  pub other_spread : (n : ℕ) (spread : List ℚ) → ((j : ℕ) → in_slot slots n ≡ Given j → ⊥) → AreSpreadBelow n spread → AreSpreadBelow (n + 1) spread
  other_spread n spread none a = record {
    as_many = a.as_many;
    in_slots = λ k l m. of k m (below_next k n l);
    others = a.others;
  }
    where
      far : (c : Col) → in_slot slots n ≡ c → slot_number p slots n < length p.columns → ⊥
      far (Given j) e m = none j e
      far (Slack i) e m = let z : slot_number p slots n ≡ number p (Slack i) = ap (number p) e in omega arith
      far (Artificial i) e m = let z : slot_number p slots n ≡ number p (Artificial i) = ap (number p) e in omega arith

      of : (k : ℕ) → slot_number p slots k < length p.columns → (k < n) ⊎ (k ≡ n) → at spread (slot_number p slots k) ≡ at by_slot k
      of k m (inl l) = a.in_slots k l m
      of k m (inr q) = absurd (far (in_slot slots n) refl (subst (λ i. slot_number p slots i < length p.columns) q m))

  pub spread_all : (n : ℕ) (spread : List ℚ) → n ≡ length by_slot → AreSpreadBelow n spread → AreSpread p slots (length by_slot) by_slot spread
  spread_all n spread e a = record { as_many = a.as_many; in_slots = λ k l. a.in_slots k (omega arith); others = a.others }

-- ---- weights
pub side_weight : (p : LinearProgram) (t : Standing) (slots : List Col) (spread : List ℚ) (k i : ℕ) (b : Bool) (sum a : ℚ) → p.nodes ≤ k → i ≡ k → sum ≡ row_sum p spread i → b ≡ is_turned p t (in_slot slots k) → a ≡ with_sign (not b) sum
    → (v : ℕ → ℚ) → ((j : ℕ) → j < length p.columns → at spread j ≡ v j) → HasWideWeight p t slots v k a
side_weight p t slots spread k i b sum a past row total turned signed v same = record {
  first_one = λ h. absurd (omega arith);
  own_one = λ q e.
      signed ∙ (ap₂ (λ c x. with_sign (not c) x) (turned ∙ ap (λ m. is_turned p t (in_slot slots m)) e)
      (total ∙ (sum_ext (length p.columns) _ (λ j. coefficient p i j *ℚ v j) (λ j h. ap (λ x. coefficient p i j *ℚ x) (same j h)) ∙ ap (sum_in_row p v) (row ∙ e))));
}

pub first_weight : (p : LinearProgram) (t : Standing) (slots : List Col) (k : ℕ) (a : ℚ) → k < p.nodes → (v : ℕ → ℚ) → a ≡ v (slot_number p slots k) → HasWideWeight p t slots v k a
first_weight p t slots k a h v e = record { first_one = λ l. e; own_one = λ q m. absurd (omega arith) }

-- A weight that is put into an inverse, behind those of the slots before.
pub put_weights : (P : ℕ → ℚ → Type 0) (old new : List (List ℚ)) (slot row : ℕ) (a : ℚ) → IsPut old new slot row a → ((k : ℕ) → k < slot → P k (weight old k row)) → P slot a → (k : ℕ) → k < slot + 1 → P k (weight new k row)
put_weights P old new slot row a put before here k h = of (below_next k slot h)
  where
    of : (k < slot) ⊎ (k ≡ slot) → P k (weight new k row)
    of (inl l) = subst (P k) (sym (put.other_slots k row (omega arith))) (before k l)
    of (inr e) = subst (λ i. P i (weight new i row)) (sym e) (subst (P slot) (sym put.there) here)

pub put_others : (old new : List (List ℚ)) (slot row : ℕ) (a : ℚ) → IsPut old new slot row a → (k r : ℕ) → r ≢ row → weight new k r ≡ weight old k r
put_others old new slot row a put k r d = of (equal_or_not k slot)
  where
    of : (k ≡ slot) ⊎ (k ≢ slot) → weight new k r ≡ weight old k r
    of (inl e) = subst (λ i. weight new i r ≡ weight old i r) (sym e) (put.same_slot r d)
    of (inr n) = put.other_slots k r n
