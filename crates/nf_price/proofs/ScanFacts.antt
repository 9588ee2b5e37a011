-- Of the columns that a phase wants, found one after another, which one a rule picks.
use Rattle.std.proofs.Common.{◌≡◌, ◌⊎◌, inl, inr, ⊎_elim, ℕ, ◌<◌, ◌≤◌, ◌+◌, List, sym, ◌∙◌, subst, arith, Option, Some, None, Result, Ok, Err}
use Rattle.std.specs.Prelude.{IfOk, IfSome}
use Rattle.nf_frac.specs.declared.passed.Passed.{Passed}
use Rattle.nf_num.specs.Rational.{ℚ, ◌<ℚ◌}
use Rattle.nf_model.specs.Program.{LinearProgram}
use Rattle.nf_simplex.specs.Pricing.{IsMagnitude, First, Best, Bland}
use Rattle.nf_simplex.specs.Queue.{PricingState}
use Rattle.nf_simplex.specs.Standing.{Standing}
use Rattle.nf_simplex.proofs.FieldLaws.{less_cases, less_trans}
use Rattle.nf_simplex.proofs.Orders.{less_or_not}
use Rattle.nf_basis.specs.declared.col.Phase.{Phase}
use Rattle.nf_basis.specs.declared.col.Phase.TheVariants.{One, Two}
use Rattle.nf_duals.specs.Priced.{count_priced}
use Rattle.nf_price.specs.declared.candidate.Candidate.{Candidate}
use Rattle.nf_price.specs.Wanted.{Wants, HasMagnitude, WantsNone, WantsNoneIn, IsCandidate, IsFirstWanted, IsGreatestBelow, IsBestBelow, IsBetter, IsChosen}

below_or_last : (j n : ℕ) → j < n + 1 → (j < n) ⊎ (j ≡ n)
below_or_last j n b = grind arith

pub magnitude_unique : (d a b : ℚ) → IsMagnitude d a → IsMagnitude d b → a ≡ b
magnitude_unique d a b (inl x) (inl y) = x.1 ∙ sym y.1
magnitude_unique d a b (inl x) (inr y) = absurd (x.0 y.0)
magnitude_unique d a b (inr x) (inl y) = absurd (y.0 x.0)
magnitude_unique d a b (inr x) (inr y) = x.1 ∙ sym y.1

-- a wanted column is priced
pub wanted_within : (p : LinearProgram) (s : Standing) (phase : Phase) (y1 y2 : List ℚ) (j : ℕ) → Wants p s phase y1 y2 j → j < count_priced p
wanted_within p s One y1 y2 j w = w.0.priced
wanted_within p s Two y1 y2 j w = w.0.priced

module _ (p : LinearProgram) (s : Standing) (phase : Phase) (y1 y2 : List ℚ) where
  pub none_more : (from n : ℕ) → WantsNoneIn p s phase y1 y2 from n → (Wants p s phase y1 y2 n → ⊥) → WantsNoneIn p s phase y1 y2 from (n + 1)
  none_more from n h k i a b w = ⊎_elim (λ l. h i a l w) (λ e. k (subst (Wants p s phase y1 y2) e w)) (below_or_last i n b)

  -- ---- the greatest
  pub skip_here : (n : ℕ) (best : Option Candidate) → (Wants p s phase y1 y2 n → ⊥) → IsBestBelow p s phase y1 y2 n best → IsBestBelow p s phase y1 y2 (n + 1) best
  skip_here n None k h = none_more 0 n h k
  skip_here n (Some c) k h = record {
    candidate = h.candidate;
    below = omega (arith, h.below);
    greatest = λ i a b w m. ⊎_elim (λ l. h.greatest i a l w m) (λ e. absurd (k (subst (Wants p s phase y1 y2) e w))) (below_or_last i n b);
  }

  here : (n i : ℕ) (a b : ℚ) → HasMagnitude p s phase y1 y2 n b → i ≡ n → HasMagnitude p s phase y1 y2 i a → a ≡ b
  here n i a b h e m = magnitude_unique _ a b (subst (λ j. HasMagnitude p s phase y1 y2 j a) e m) h

  -- the size of a candidate is the magnitude of its column
  size_of : (n : ℕ) (c : Candidate) → c.number ≡ n → IsCandidate p s phase y1 y2 c → HasMagnitude p s phase y1 y2 n c.size
  size_of n c e h = subst (λ j. HasMagnitude p s phase y1 y2 j c.size) e h.moves.size

  takes : (n : ℕ) (next : Candidate) → next.number ≡ n → IsCandidate p s phase y1 y2 next
      → ((i : ℕ) (a : ℚ) → i < n → Wants p s phase y1 y2 i → HasMagnitude p s phase y1 y2 i a → a <ℚ next.size) → IsGreatestBelow p s phase y1 y2 (n + 1) next
  takes n next e h less = record {
    candidate = h;
    below = omega (arith, e);
    greatest = λ i a b v t. ⊎_elim (λ l. inl (less i a l v t)) (λ q. inr (here n i a next.size (size_of n next e h) q t, omega (arith, e, q))) (below_or_last i n b);
  }

  keeps : (n : ℕ) (c next : Candidate) → HasMagnitude p s phase y1 y2 n next.size → (c.size <ℚ next.size → ⊥) → IsGreatestBelow p s phase y1 y2 n c → IsGreatestBelow p s phase y1 y2 (n + 1) c
  keeps n c next m no_less h = record {
    candidate = h.candidate;
    below = omega (arith, h.below);
    greatest = λ i a b v t. ⊎_elim (λ l. h.greatest i a l v t) (λ q. last i a q (here n i a next.size m q t)) (below_or_last i n b);
  }
    where
      last : (i : ℕ) (a : ℚ) → i ≡ n → a ≡ next.size → (a <ℚ c.size) ⊎ ((a ≡ c.size) × (c.number ≤ i))
      last i a q e = of (less_cases a c.size)
        where
          of : (a <ℚ c.size) ⊎ ((a ≡ c.size) ⊎ (c.size <ℚ a)) → (a <ℚ c.size) ⊎ ((a ≡ c.size) × (c.number ≤ i))
          of (inl l) = inl l
          of (inr (inl l)) = inr (l, (let b = h.below in omega (arith, b, q)))
          of (inr (inr l)) = absurd (no_less (subst (λ z. c.size <ℚ z) e l))

  pub better_here : (n : ℕ) (best result : Option Candidate) (next : Candidate) → next.number ≡ n → IsCandidate p s phase y1 y2 next → IsBetter best next result → IsBestBelow p s phase y1 y2 n best → IsBestBelow p s phase y1 y2 (n + 1) result
  better_here n None result next e w b h = subst (IsBestBelow p s phase y1 y2 (n + 1)) (sym b) (takes n next e w (λ i a l v t. absurd (h i (omega arith) l v)))
  better_here n (Some c) result next e w (inl b) h = subst (IsBestBelow p s phase y1 y2 (n + 1)) (sym b.0) (keeps n c next (size_of n next e w) b.1 h)
  better_here n (Some c) result next e w (inr b) h = subst (IsBestBelow p s phase y1 y2 (n + 1)) (sym b.0) (takes n next e w (λ i a l v t. ⊎_elim (λ z. less_trans a c.size next.size z b.1) (λ z. subst (λ y. y <ℚ next.size) (sym z.0) b.1) (h.greatest i a l v t)))

  -- ---- what a rule picks
  pub none_in_all : WantsNoneIn p s phase y1 y2 0 (count_priced p) → WantsNone p s phase y1 y2
  none_in_all h i w = h i (omega arith) (wanted_within p s phase y1 y2 i w) w

  pub none_in_rounds : (from : ℕ) → WantsNoneIn p s phase y1 y2 from (count_priced p) → WantsNoneIn p s phase y1 y2 0 from → WantsNone p s phase y1 y2
  none_in_rounds from a b i w = ⊎_elim (λ l. b i (omega arith) l w) (λ l. a i l (wanted_within p s phase y1 y2 i w) w) (less_or_not i from)

  not_before : (from j i : ℕ) → WantsNoneIn p s phase y1 y2 from j → from ≤ i → Wants p s phase y1 y2 i → j ≤ i
  not_before from j i h a w = ⊎_elim (λ l. absurd (h i a l w)) (λ l. l) (less_or_not i j)

  pub least_chosen : (at : PricingState) (c : Candidate) → IsFirstWanted p s phase y1 y2 0 c → IsChosen p s phase y1 y2 Bland at c
  least_chosen at c f = record { candidate = f.candidate; by_rule = λ i w. not_before 0 c.number i f.before (omega arith) w }

  pub best_chosen : (at : PricingState) (c : Candidate) → IsGreatestBelow p s phase y1 y2 (count_priced p) c → IsChosen p s phase y1 y2 Best at c
  best_chosen at c h = record { candidate = h.candidate; by_rule = (c.size, h.candidate.moves.size, λ i b w m. h.greatest i b (wanted_within p s phase y1 y2 i w) w m) }

  -- behind the cursor, which may be past all columns
  pub next_chosen : (at : PricingState) (from : ℕ) (c : Candidate) → (from ≡ at.cursor) ⊎ ((from ≡ count_priced p) × (from ≤ at.cursor)) → IsFirstWanted p s phase y1 y2 from c → IsChosen p s phase y1 y2 First at c
  next_chosen at from c e f =
      let b : c.number < count_priced p = wanted_within p s phase y1 y2 c.number f.candidate.wanted in
      let behind : at.cursor ≤ c.number = ⊎_elim (λ q. (let h = f.behind in omega (arith, q, h))) (λ q. (let h = f.behind in let z = q.0 in absurd (omega (arith, z, h, b)))) e in
      let start : from ≤ at.cursor = ⊎_elim (λ q. omega (arith, q)) (λ q. q.1) e in
      record { candidate = f.candidate; by_rule = inl (behind, λ i w l. not_before from c.number i f.before (omega (arith, start, l)) w) }

  pub again_chosen : (at : PricingState) (from : ℕ) (c : Candidate) → (from ≡ at.cursor) ⊎ ((from ≡ count_priced p) × (from ≤ at.cursor)) → WantsNoneIn p s phase y1 y2 from (count_priced p) → IsFirstWanted p s phase y1 y2 0 c → IsChosen p s phase y1 y2 First at c
  again_chosen at from c e none f = record { candidate = f.candidate; by_rule = inr (before, λ i w. not_before 0 c.number i f.before (omega arith) w) }
    where
      before : (i : ℕ) → Wants p s phase y1 y2 i → i < at.cursor
      before i w = ⊎_elim (λ l. (let start : from ≤ at.cursor = ⊎_elim (λ q. omega (arith, q)) (λ q. q.1) e in omega (arith, l, start))) (λ l. absurd (none i l (wanted_within p s phase y1 y2 i w) w)) (less_or_not i from)

  -- What the scan for the best answers is what BEST picks.
  best_some : (at : PricingState) (r : Option Candidate) → IsBestBelow p s phase y1 y2 (count_priced p) r → IfSome r (IsChosen p s phase y1 y2 Best at)
  best_some at None h = tt
  best_some at (Some c) h = best_chosen at c h

  pub best_found : (at : PricingState) (r : Result (Option Candidate) Passed) → IfOk r (IsBestBelow p s phase y1 y2 (count_priced p)) → IfOk r (λ x. IfSome x (IsChosen p s phase y1 y2 Best at))
  best_found at (Ok x) h = best_some at x h
  best_found at (Err e) h = h
