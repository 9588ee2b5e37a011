-- Of places that rise, the slots come first.
use Rattle.std.proofs.Common.{◌≡◌, ◌≢◌, ◌⊎◌, inl, inr, ℕ, zero, suc, ◌-◌, ◌<◌, ◌≤◌, ◌++◌, List, length, take, sym, ap, ◌∙◌, subst, arith}
use Rattle.std.proofs.lemmas.List.{get_or_append_left, get_or-take, length-take-le}
use Rattle.nf_num.specs.Rational.{ℚ, zero_ℚ}
use Rattle.nf_model.specs.Program.{LinearProgram}
use Rattle.nf_simplex.specs.Standing.{Standing, rows_of}
use Rattle.nf_basis.specs.declared.col.Col.{Col}
use Rattle.nf_basis.specs.Numbers.{AreInverseWeights, AreSlotsBelow, slot_number}
use Rattle.nf_ratio.specs.Loops.{AreTiedWeights}
use Rattle.nf_ratio.specs.Ties.{AreInOrder, AreSlotsFirst, tie}

-- The k-th place is at least k.
pub rising : (ts : List ℕ) (count : ℕ) → AreInOrder ts count → (k : ℕ) → k < count → k ≤ tie ts k
rising ts count order zero h = omega arith
rising ts count order (suc k) h =
    let a = rising ts count order k (omega arith) in
    let b = order k (suc k) (omega arith) h in
    omega arith

-- The last place is the one behind the slots,
pub all_but_last : (rows : ℕ) (ts : List ℕ) (count : ℕ) → 0 < count → AreInOrder ts count → tie ts (count - 1) ≡ rows → AreSlotsFirst rows ts count (count - 1)
all_but_last rows ts count some order e = record {
  few = omega arith;
  no_more = (let a = rising ts count order (count - 1) (omega arith) in omega arith);
  slots = λ k h. (let a = order k (count - 1) h (omega arith) in omega arith);
  every = λ k h l. of k h l (less_or_last k h);
}
  where
    less_or_last : (k : ℕ) → k < count → (k < count - 1) ⊎ (k ≡ count - 1)
    less_or_last k h = grind arith

    of : (k : ℕ) → k < count → tie ts k < rows → (k < count - 1) ⊎ (k ≡ count - 1) → k < count - 1
    of k h l (inl a) = a
    of k h l (inr q) = let z : tie ts k ≡ tie ts (count - 1) = ap (tie ts) q in absurd (omega arith)

-- or a slot as all others.
pub all_slots : (rows : ℕ) (ts : List ℕ) (count : ℕ) → 0 < count → AreInOrder ts count → tie ts (count - 1) ≤ rows → tie ts (count - 1) ≢ rows → AreSlotsFirst rows ts count count
all_slots rows ts count some order most other = record {
  few = omega arith;
  no_more = (let a = rising ts count order (count - 1) (omega arith) in omega arith);
  slots = λ k h. of k h (less_or_last k h);
  every = λ k h l. h;
}
  where
    last : tie ts (count - 1) < rows
    last = grind (arith, most, other)

    less_or_last : (k : ℕ) → k < count → (k < count - 1) ⊎ (k ≡ count - 1)
    less_or_last k h = grind arith

    of : (k : ℕ) → k < count → (k < count - 1) ⊎ (k ≡ count - 1) → tie ts k < rows
    of k h (inl a) = let b = order k (count - 1) a (omega arith) in let l = last in omega arith
    of k h (inr q) = subst (λ j. tie ts j < rows) (sym q) last

module _ (rows : ℕ) (ts : List ℕ) (count n : ℕ) (few : count ≤ length ts) (first : AreSlotsFirst rows ts count n) where
  pub many : length (take n ts) ≡ n
  many = length-take-le n ts (let a = first.few in omega arith)

  -- The slots are handed in,
  pub chosen_below : AreSlotsBelow rows (take n ts)
  chosen_below = record {
    few = subst (λ z. z ≤ rows) (sym many) first.no_more;
    within = λ k h. (let l : k < n = subst (λ z. k < z) many h in subst (λ z. z < rows) (sym (get_or-take n ts k 0 l)) (first.slots k l));
  }

  -- and their weights come back at the front of a list.
  pub tied_by : (p : LinearProgram) (s : Standing) (slots : List Col) (row : ℕ) (out rest : List ℚ) → rows ≡ rows_of p s → length out ≡ n → AreInverseWeights p s slots row (take n ts) out → AreTiedWeights p s slots row ts count (out ++ rest)
  tied_by p s slots row out rest same long inv = record {
    weights = inv.weights;
    are_weights = inv.are_weights;
    by_tie = λ k h l.
        let g : k < n = first.every k h (subst (λ z. tie ts k < z) (sym same) l) in
        get_or_append_left out rest zero_ℚ k (subst (λ z. k < z) (sym long) g)
        ∙ (inv.by_slot k (subst (λ z. k < z) (sym many) g) ∙ ap (λ i. inv.weights (slot_number p slots i)) (get_or-take n ts k 0 g));
  }
