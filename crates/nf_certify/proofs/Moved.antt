-- A ray while its members are put, and the whole of it.
use Rattle.std.proofs.Common.{◌≡◌, ◌≢◌, ℕ, ◌+◌, ◌<◌, ◌⊎◌, inl, inr, Bool, true, false, List, length, refl, sym, ◌∙◌, ap, subst, arith, [], ◌∷◌}
use Rattle.std.proofs.lemmas.List.FromFn.{fill_by_all}
use Rattle.nf_num.specs.Rational.{ℚ, zero_ℚ, one_ℚ, ◌-ℚ◌, neg_ℚ}
use Rattle.nf_num.specs.Sum.{delta}
use Rattle.nf_num.proofs.Laws.{zero_add}
use Rattle.nf_num.proofs.Sums.{delta_same, delta_other}
use Rattle.nf_num.proofs.Field.{ring, codes}
use Rattle.nf_model.specs.Program.{LinearProgram, at}
use Rattle.nf_model.specs.Lists.{list_of}
use Rattle.nf_simplex.specs.Place as model
use Rattle.nf_simplex.specs.Step.{signed}
use Rattle.nf_simplex.specs.Layout.{layout_of}
use Rattle.nf_simplex.specs.Columns.{all_columns}
use Rattle.nf_simplex.specs.Standing.{Standing, place_at, rows_of}
use Rattle.nf_simplex.specs.Verdicts.{AreMoves, move_of}
use Rattle.nf_simplex.proofs.Basis.{basic_or_not}
use Rattle.nf_simplex.proofs.Sum.{equal_or_not}
use Rattle.nf_basis.specs.declared.col.Col.{Col}
use Rattle.nf_basis.specs.Names.{col_of}
use Rattle.nf_basis.specs.Kept.{IsNonbasic, number}
use Rattle.nf_basis.specs.Numbers.{ListBasics, AreEntriesBySlot, slot_number}
use Rattle.nf_certify.specs.Moving.{IsPutAt, ArePut}

-- ---- one slot after another
pub put_none : (p : LinearProgram) (slots : List Col) (down : Bool) (entries before : List ℚ) → ArePut p slots down entries before 0 before
put_none p slots down entries before = record { as_long = refl; basics = λ k h l. absurd (omega arith); others = λ j h. refl }

pub put_more : (p : LinearProgram) (s : Standing) (slots : List Col) (down : Bool) (entries before now next : List ℚ) (n : ℕ) (v : ℚ) → ListBasics p s slots → n < rows_of p s
    → v ≡ signed down (neg_ℚ (at entries n)) → ArePut p slots down entries before n now → IsPutAt (slot_number p slots n) v now next → ArePut p slots down entries before (n + 1) next
put_more p s slots down entries before now next n v listed h e a b = record {
  as_long = b.as_long ∙ a.as_long;
  basics = λ k l m. of k l m (equal_or_not k n);
  others = λ j l. b.others j (l n (omega arith)) ∙ a.others j (λ k m. l k (omega arith));
}
  where
    of : (k : ℕ) → k < n + 1 → slot_number p slots k < length before → (k ≡ n) ⊎ (k ≢ n) → at next (slot_number p slots k) ≡ signed down (neg_ℚ (at entries k))
    of k l m (inl q) =
        subst (λ i. slot_number p slots i < length before → at next (slot_number p slots i) ≡ signed down (neg_ℚ (at entries i))) (sym q)
        (λ w. b.there (subst (λ i. slot_number p slots n < i) (sym a.as_long) w) ∙ e) m
    of k l m (inr q) =
        let below : k < n = omega arith in
        b.others (slot_number p slots k) (λ w. q (listed.distinct k n (omega arith) h w)) ∙ a.basics k below m

-- ---- the whole
signed_zero : (down : Bool) → signed down zero_ℚ ≡ zero_ℚ
signed_zero true = ring [] (search codes) refl
signed_zero false = refl

-- the picked column alone, in a list of zeros
pub picked_moves : (k n : ℕ) (down : Bool) (v : ℚ) (before now : List ℚ) → length before ≡ n → ((j : ℕ) → at before j ≡ zero_ℚ) → v ≡ signed down one_ℚ → IsPutAt k v before now
    → (j : ℕ) → j < n → at now j ≡ signed down (delta k j)
picked_moves k n down v before now long zeros e b j h = of (equal_or_not j k)
  where
    of : (j ≡ k) ⊎ (j ≢ k) → at now j ≡ signed down (delta k j)
    of (inl q) =
        ap (at now) q
        ∙ (b.there (subst (λ i. k < i) (sym long) (subst (λ i. i < n) q h)) ∙ (e ∙ ap (signed down) (sym (delta_same k) ∙ ap (delta k) (sym q))))
    of (inr q) = b.others j q ∙ (zeros j ∙ (sym (signed_zero down) ∙ ap (signed down) (sym (delta_other k j (λ w. q (sym w))))))

pub ray_is : (p : LinearProgram) (s : Standing) (slots : List Col) (c : Col) (down : Bool) (entries before now : List ℚ) → ListBasics p s slots → IsNonbasic p s c
    → AreEntriesBySlot p s slots c entries → length before ≡ length p.columns → ((j : ℕ) → j < length p.columns → at before j ≡ signed down (delta (number p c) j))
    → ArePut p slots down entries before (rows_of p s) now → AreMoves p s (col_of c) down now
unfolding list_of
ray_is p s slots c down entries before now listed nonbasic e long picked put = (w, e.are_weights, fill_by_all (move_of p (col_of c) down w) now (length p.columns) zero_ℚ (put.as_long ∙ long) (λ j h. of j h (basic_or_not (place_at s j))))
  where
    w : ℕ → ℚ
    w = e.weights

    of : (j : ℕ) → j < length p.columns → (place_at s j ≡ model.Basic) ⊎ (place_at s j ≢ model.Basic) → at now j ≡ move_of p (col_of c) down w j
    of j h (inl b) =
        let within : j < all_columns (layout_of p) = omega arith in
        let (k, m, q) = listed.every j within b in
        let apart : delta (number p c) j ≡ zero_ℚ = delta_other (number p c) j (λ y. nonbasic.1 (ap (place_at s) y ∙ b)) in
        let here : slot_number p slots k < length before = subst (λ i. i < length before) (sym q) (subst (λ i. j < i) (sym long) h) in
        ap (at now) (sym q)
        ∙ (put.basics k m here
        ∙ ap (signed down) (ap neg_ℚ (e.by_slot k m ∙ ap w q) ∙ (sym (zero_add (neg_ℚ (w j))) ∙ ap (λ z. z -ℚ w j) (sym apart))))
    of j h (inr b) =
        let within : j < all_columns (layout_of p) = omega arith in
        let off : w j ≡ zero_ℚ = e.are_weights.of_basics j within b in
        put.others j (λ k m y. b (ap (place_at s) y ∙ listed.basic k m))
        ∙ (picked j h ∙ ap (signed down) (less_zero (delta (number p c) j) (w j) off))
      where
        less_zero : (a b : ℚ) → b ≡ zero_ℚ → a ≡ a -ℚ b
        less_zero a b z = (let y : a ≡ a -ℚ zero_ℚ = ring (a ∷ []) (search codes depth 8) refl in y) ∙ ap (λ x. a -ℚ x) (sym z)
