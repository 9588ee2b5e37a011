-- The rows and reduced costs of a stage, by given columns, slacks and artificials.
use Rattle.std.proofs.Common.{◌≡◌, ◌≢◌, ℕ, ◌+◌, ◌-◌, ◌<◌, ◌⊎◌, inl, inr, Bool, [], ◌∷◌, refl, sym, ap, ap₂, ◌∙◌, arith}
use Rattle.nf_num.specs.Rational.{ℚ, zero_ℚ, ◌+ℚ◌, ◌*ℚ◌, neg_ℚ}
use Rattle.nf_num.specs.Sum.{sum_ℚ, delta}
use Rattle.nf_num.proofs.Sums.{sum-split, sum_one}
use Rattle.nf_simplex.specs.Columns.{col_at, slack_sign, sign, entry_of, cost_one, ones}
use Rattle.nf_simplex.specs.Layout.{Layout, IsLayout}
use Rattle.nf_simplex.specs.Numbers.{reduced}
use Rattle.nf_simplex.specs.StageOf.{StageNumber, rows_in, stage_in}
use Rattle.nf_simplex.proofs.FieldLaws.{mul_comm}
use Rattle.nf_simplex.proofs.StageOf.{column_given, column_slack, column_artificial}
use Rattle.nf_simplex.proofs.Sum.{sum_ext, sum_zero, unit_same, unit_other, below_or_past}
use Rattle.nf_simplex.proofs.Terms.{v, nought, unit, ◌:+◌, ◌:*◌, ring, zero-mul}

module _ (p : Layout) where
  abbrev pub slack_at : ℕ → ℕ
  slack_at q = p.columns + q

  abbrev pub artificial_at : ℕ → ℕ
  artificial_at r = p.columns + p.sides + r

  -- a sum over all columns
  pub split_columns : (f : ℕ → ℚ) → sum_ℚ (p.columns + p.sides + (p.nodes + p.sides)) f ≡ sum_ℚ p.columns f +ℚ sum_ℚ p.sides (λ q. f (slack_at q)) +ℚ sum_ℚ (p.nodes + p.sides) (λ r. f (artificial_at r))
  split_columns f = sum-split (p.columns + p.sides) (p.nodes + p.sides) f ∙ ap (λ z. z +ℚ sum_ℚ (p.nodes + p.sides) (λ r. f (artificial_at r))) (sum-split p.columns p.sides f)

  -- a row's sum over the given columns
  abbrev pub given_sum : (ℕ → ℚ) → ℕ → ℚ
  given_sum w i = sum_ℚ p.columns (λ j. p.entry j i *ℚ w j)

  -- The artificials add up to the cost of phase one.
  pub ones_total : (w : ℕ → ℚ) → sum_ℚ (p.columns + p.sides + (p.nodes + p.sides)) (λ j. ones p j *ℚ w j) ≡ sum_ℚ (p.nodes + p.sides) (λ r. w (artificial_at r))
  ones_total w =
      split_columns (λ j. ones p j *ℚ w j)
      ∙ (ap₂ (λ x y. x +ℚ y +ℚ sum_ℚ (p.nodes + p.sides) (λ r. ones p (artificial_at r) *ℚ w (artificial_at r)))
      (sum_zero p.columns _ (λ j h. ap (λ z. cost_one z *ℚ w j) (column_given p j h) ∙ zero-mul (w j)))
      (sum_zero p.sides _ (λ q h. ap (λ z. cost_one z *ℚ w (slack_at q)) (column_slack p q h) ∙ zero-mul (w (slack_at q))))
      ∙ (ring (sum_ℚ (p.nodes + p.sides) (λ r. ones p (artificial_at r) *ℚ w (artificial_at r)) ∷ []) (nought :+ nought :+ v 0) (v 0) refl
      ∙ sum_ext (p.nodes + p.sides) _ _ (λ r h. ap (λ z. cost_one z *ℚ w (artificial_at r)) (column_artificial p r) ∙ ring (w (artificial_at r) ∷ []) (unit :* v 0) (v 0) refl)))

  module _ (ok : IsLayout p) (negative : ℕ → Bool) (w : ℕ → ℚ) where
    given_part : (i : ℕ) → sum_ℚ p.columns (λ j. w j *ℚ entry_of p negative (col_at p j) i) ≡ given_sum w i
    given_part i = sum_ext p.columns _ _ (λ j h. ap (λ z. w j *ℚ entry_of p negative z i) (column_given p j h) ∙ mul_comm (w j) (p.entry j i))

    slack_term : (q i : ℕ) → q < p.sides → w (slack_at q) *ℚ entry_of p negative (col_at p (slack_at q)) i ≡ w (slack_at q) *ℚ (slack_sign (p.kind (p.nodes + q)) *ℚ delta (p.nodes + q) i)
    slack_term q i h = ap (λ z. w (slack_at q) *ℚ entry_of p negative z i) (column_slack p q h)

    off : (a b : ℚ) (k i : ℕ) → k ≢ i → a *ℚ (b *ℚ delta k i) ≡ zero_ℚ
    off a b k i n = ap (λ z. a *ℚ (b *ℚ z)) (unit_other k i n) ∙ ring (a ∷ b ∷ []) (v 0 :* (v 1 :* nought)) nought refl

    on : (a b : ℚ) (k : ℕ) → a *ℚ (b *ℚ delta k k) ≡ b *ℚ a
    on a b k = ap (λ z. a *ℚ (b *ℚ z)) (unit_same k) ∙ ring (a ∷ b ∷ []) (v 0 :* (v 1 :* unit)) (v 1 :* v 0) refl

    slack_part : (i : ℕ) → i < p.nodes + p.sides → sum_ℚ p.sides (λ q. w (slack_at q) *ℚ entry_of p negative (col_at p (slack_at q)) i) ≡ slack_sign (p.kind i) *ℚ w (slack_at (i - p.nodes))
    slack_part i h = of (below_or_past i p.nodes p.sides h)
      where
        of : (i < p.nodes) ⊎ ((q : ℕ) × (i ≡ p.nodes + q) × (q < p.sides)) → sum_ℚ p.sides (λ q. w (slack_at q) *ℚ entry_of p negative (col_at p (slack_at q)) i) ≡ slack_sign (p.kind i) *ℚ w (slack_at (i - p.nodes))
        of (inl l) =
            sum_zero p.sides _ (λ q m. slack_term q i m ∙ off (w (slack_at q)) (slack_sign (p.kind (p.nodes + q))) (p.nodes + q) i (omega arith))
            ∙ sym (ap (λ k. slack_sign k *ℚ w (slack_at (i - p.nodes))) (ok.node_kind i l) ∙ zero-mul _)
        of (inr (q, e, m)) =
            sum_one p.sides q (λ q. w (slack_at q) *ℚ entry_of p negative (col_at p (slack_at q)) i) m (λ k l n. slack_term k i l ∙ off (w (slack_at k)) (slack_sign (p.kind (p.nodes + k))) (p.nodes + k) i (omega arith))
            ∙ (slack_term q i m
            ∙ (ap (λ z. w (slack_at q) *ℚ (slack_sign (p.kind (p.nodes + q)) *ℚ delta (p.nodes + q) z)) e
            ∙ (on (w (slack_at q)) (slack_sign (p.kind (p.nodes + q))) (p.nodes + q)
            ∙ ap₂ (λ x y. slack_sign (p.kind x) *ℚ w (slack_at y)) (sym e) (omega arith))))

    artificial_part : (i : ℕ) → i < p.nodes + p.sides → sum_ℚ (p.nodes + p.sides) (λ r. w (artificial_at r) *ℚ entry_of p negative (col_at p (artificial_at r)) i) ≡ sign (negative i) *ℚ w (artificial_at i)
    artificial_part i h =
        sum_one (p.nodes + p.sides) i (λ r. w (artificial_at r) *ℚ entry_of p negative (col_at p (artificial_at r)) i) h (λ k l n. term k ∙ off (w (artificial_at k)) (sign (negative k)) k i n)
        ∙ (term i ∙ on (w (artificial_at i)) (sign (negative i)) i)
      where
        term : (k : ℕ) → w (artificial_at k) *ℚ entry_of p negative (col_at p (artificial_at k)) i ≡ w (artificial_at k) *ℚ (sign (negative k) *ℚ delta k i)
        term k = ap (λ z. w (artificial_at k) *ℚ entry_of p negative z i) (column_artificial p k)

    -- A row of the stage: the given columns, the row's slack, and its artificial. A node row has the slack sign 0.
    pub row_parts : (i : ℕ) → i < p.nodes + p.sides → sum_ℚ (p.columns + p.sides + (p.nodes + p.sides)) (λ j. w j *ℚ entry_of p negative (col_at p j) i)
        ≡ given_sum w i +ℚ slack_sign (p.kind i) *ℚ w (slack_at (i - p.nodes)) +ℚ sign (negative i) *ℚ w (artificial_at i)
    row_parts i h = split_columns (λ j. w j *ℚ entry_of p negative (col_at p j) i) ∙ ap₂ (λ x y. x +ℚ y) (ap₂ (λ x y. x +ℚ y) (given_part i) (slack_part i h)) (artificial_part i h)

  -- ---- reduced costs
  module _ (n : StageNumber) (negative : ℕ → Bool) (c y : ℕ → ℚ) where
    pub reduced_given : (j : ℕ) → j < p.columns → reduced (stage_in p n negative) c y j ≡ c j +ℚ neg_ℚ (sum_ℚ (rows_in p n) (λ i. y i *ℚ p.entry j i))
    unfolding reduced
    reduced_given j h = ap (λ z. c j +ℚ neg_ℚ z) (sum_ext (rows_in p n) _ _ (λ i m. ap (λ z. y i *ℚ entry_of p negative z i) (column_given p j h)))

    pub reduced_slack : (q : ℕ) → q < p.sides → p.nodes + q < rows_in p n → reduced (stage_in p n negative) c y (slack_at q) ≡ c (slack_at q) +ℚ neg_ℚ (slack_sign (p.kind (p.nodes + q)) *ℚ y (p.nodes + q))
    unfolding reduced
    reduced_slack q h m = ap (λ z. c (slack_at q) +ℚ neg_ℚ z)
        (sum_ext (rows_in p n) _ (λ i. y i *ℚ (slack_sign (p.kind (p.nodes + q)) *ℚ delta (p.nodes + q) i)) (λ i l. ap (λ z. y i *ℚ entry_of p negative z i) (column_slack p q h))
        ∙ (sum_one (rows_in p n) (p.nodes + q) (λ i. y i *ℚ (slack_sign (p.kind (p.nodes + q)) *ℚ delta (p.nodes + q) i)) m (λ k l d. ap (λ z. y k *ℚ (slack_sign (p.kind (p.nodes + q)) *ℚ z)) (unit_other (p.nodes + q) k (λ e. d (sym e))) ∙ ring (y k ∷ slack_sign (p.kind (p.nodes + q)) ∷ []) (v 0 :* (v 1 :* nought)) nought refl)
        ∙ (ap (λ z. y (p.nodes + q) *ℚ (slack_sign (p.kind (p.nodes + q)) *ℚ z)) (unit_same (p.nodes + q)) ∙ ring (y (p.nodes + q) ∷ slack_sign (p.kind (p.nodes + q)) ∷ []) (v 0 :* (v 1 :* unit)) (v 1 :* v 0) refl)))

-- Given columns and slacks cost nothing in phase one.
pub ones_priced : (p : Layout) (j : ℕ) → j < p.columns + p.sides → ones p j ≡ zero_ℚ
ones_priced p j h = of (below_or_past j p.columns p.sides h)
  where
    of : (j < p.columns) ⊎ ((q : ℕ) × (j ≡ p.columns + q) × (q < p.sides)) → ones p j ≡ zero_ℚ
    of (inl l) = ap cost_one (column_given p j l)
    of (inr (q, e, l)) = ap (λ k. ones p k) e ∙ ap cost_one (column_slack p q l)
