-- By level duals no given column and no slack has a reduced cost of phase one.
use Rattle.std.proofs.Common.{◌≡◌, ◌⊎◌, inl, inr, ℕ, ◌+◌, ◌<◌, ◌≤◌, List, length, Option, Some, None, refl, sym, ap, ap₂, ◌∙◌, subst, arith, [], ◌∷◌}
use Rattle.std.proofs.lemmas.List.{get_or_past}
use Rattle.nf_num.specs.Rational.{ℚ, zero_ℚ, ◌+ℚ◌, ◌-ℚ◌, ◌*ℚ◌, neg_ℚ}
use Rattle.nf_num.specs.Sum.{sum_ℚ, delta}
use Rattle.nf_num.proofs.Order.{lt_irrefl}
use Rattle.nf_num.proofs.Sums.{sum-split}
use Rattle.nf_model.specs.Program.{Ends, LinearProgram, column, at}
use Rattle.nf_model.specs.Problem.{IsColumn, IsProblem, HaveEndsBelow, node_entry}
use Rattle.nf_simplex.specs.Columns.{slack_sign, entry_of, ones}
use Rattle.nf_simplex.specs.Layout.{Layout, layout_of}
use Rattle.nf_simplex.specs.Numbers.{reduced}
use Rattle.nf_simplex.specs.Place.{Place, Lower, Upper, Zero, Absent, Basic}
use Rattle.nf_simplex.specs.Pricing.{HasWrongSign}
use Rattle.nf_simplex.specs.StageOf.{StageNumber, StageOne, StageTwo, rows_in}
use Rattle.nf_simplex.specs.Standing.{Standing, is_negative, place_at, rows_of, stage_of}
use Rattle.nf_simplex.proofs.Rows.{ones_priced}
use Rattle.nf_simplex.proofs.StageOf.{column_given, column_slack}
use Rattle.nf_simplex.proofs.Sum.{below_or_past, sum_ext, sum_zero, sum_add, sum_neg, sum_unit, unit_other}
use Rattle.nf_simplex.proofs.Terms.{v, nought, ◌:+◌, ◌:*◌, ◌:-◌, ring}
use Rattle.nf_basis.specs.declared.col.Phase.TheVariants.{One}
use Rattle.nf_duals.specs.Priced.{count_priced}
use Rattle.nf_price.specs.Level.{IsLevel}
use Rattle.nf_price.specs.Wanted.{WantsNone}
use Rattle.nf_price.proofs.ScanFacts.{wanted_within}

-- ---- the loop
-- The first n duals are level.
pub record IsLevelBelow (p : LinearProgram) (duals : List ℚ) (n : ℕ) : Type 0 where
  pub nodes : (i : ℕ) → i < n → i < p.nodes → at duals i ≡ at duals 0
  pub sides : (i : ℕ) → i < n → p.nodes ≤ i → at duals i ≡ zero_ℚ

below_or_last : (i n : ℕ) → i < n + 1 → (i < n) ⊎ (i ≡ n)
below_or_last i n b = grind arith

less_or_not : (i k : ℕ) → (i < k) ⊎ (k ≤ i)
less_or_not i k = grind arith

pub level_more : (p : LinearProgram) (duals : List ℚ) (n : ℕ) → (n < p.nodes → at duals n ≡ at duals 0) → (p.nodes ≤ n → at duals n ≡ zero_ℚ) → IsLevelBelow p duals n → IsLevelBelow p duals (n + 1)
level_more p duals n node side l = record { nodes = λ i h g. of_node i g (below_or_last i n h); sides = λ i h g. of_side i g (below_or_last i n h) }
  where
    of_node : (i : ℕ) → i < p.nodes → (i < n) ⊎ (i ≡ n) → at duals i ≡ at duals 0
    of_node i g (inl h) = l.nodes i h g
    of_node i g (inr e) = subst (λ k. at duals k ≡ at duals 0) (sym e) (node (subst (λ k. k < p.nodes) e g))

    of_side : (i : ℕ) → p.nodes ≤ i → (i < n) ⊎ (i ≡ n) → at duals i ≡ zero_ℚ
    of_side i g (inl h) = l.sides i h g
    of_side i g (inr e) = subst (λ k. at duals k ≡ zero_ℚ) (sym e) (side (subst (λ k. p.nodes ≤ k) e g))

pub level_whole : (p : LinearProgram) (duals : List ℚ) (n : ℕ) → n ≡ length duals → p.nodes ≤ length duals → IsLevelBelow p duals n → IsLevel p duals
level_whole p duals n e long l = record { level = at duals 0; nodes = λ i h. l.nodes i (omega (arith, e, h, long)) h; sides = λ i h. of i h (less_or_not i (length duals)) }
  where
    beyond : (xs : List ℚ) (i : ℕ) → length xs ≤ i → at xs i ≡ zero_ℚ
    beyond xs i g = get_or_past xs i zero_ℚ g

    of : (i : ℕ) → p.nodes ≤ i → (i < length duals) ⊎ (length duals ≤ i) → at duals i ≡ zero_ℚ
    of i h (inl g) = l.sides i (subst (λ k. i < k) (sym e) g) h
    of i h (inr g) = beyond duals i g

-- ---- sums
-- What an arc has at the nodes, times a number that is the same at all of them, sums to 0.
level_total : (n : ℕ) (e : Option Ends) (y : ℕ → ℚ) (level : ℚ) → HaveEndsBelow n e → ((i : ℕ) → i < n → y i ≡ level) → sum_ℚ n (λ i. y i *ℚ node_entry e i) ≡ zero_ℚ
level_total n None y level h same = sum_zero n _ (λ i g. ring (y i ∷ []) (v 0 :* nought) nought refl)
level_total n (Some e) y level h same =
    sum_ext n _ (λ i. delta e.tail i *ℚ level +ℚ neg_ℚ (delta e.head i *ℚ level)) (λ i g. ap (λ z. z *ℚ (delta e.tail i -ℚ delta e.head i)) (same i g) ∙ ring (level ∷ delta e.tail i ∷ delta e.head i ∷ []) (v 0 :* (v 1 :- v 2)) (v 1 :* v 0 :- v 2 :* v 0) refl)
    ∙ (sum_add n (λ i. delta e.tail i *ℚ level) (λ i. neg_ℚ (delta e.head i *ℚ level))
    ∙ (ap₂ (λ a b. a +ℚ b) (sum_unit n (λ i. level) e.tail h.0) (sum_neg n (λ i. delta e.head i *ℚ level) ∙ ap neg_ℚ (sum_unit n (λ i. level) e.head h.1))
    ∙ ring (level ∷ []) (v 0 :- v 0) nought refl))

zero_part : (n m : ℕ) (f : ℕ → ℚ) → ((q : ℕ) → f (n + q) ≡ zero_ℚ) → sum_ℚ n f ≡ zero_ℚ → sum_ℚ (n + m) f ≡ zero_ℚ
zero_part n m f sides nodes = sum-split n m f ∙ (ap₂ (λ a b. a +ℚ b) nodes (sum_zero m _ (λ q g. sides q)) ∙ ring [] (nought :+ nought) nought refl)

is_column : (p : LinearProgram) → IsProblem p → (j : ℕ) → j < length p.columns → IsColumn p.nodes (length p.rows) (column p j)
is_column p ok j h = search arith

module _ (p : LinearProgram) (ok : IsProblem p) (y : List ℚ) (l : IsLevel p y) where
  L : Layout
  L = layout_of p

  -- Level duals times what a column has sum to 0 in either stage, where they do at the nodes.
  both_stages : (f : ℕ → ℚ) → sum_ℚ p.nodes (λ i. at y i *ℚ f i) ≡ zero_ℚ → (n : StageNumber) → sum_ℚ (rows_in (layout_of p) n) (λ i. at y i *ℚ f i) ≡ zero_ℚ
  both_stages f h StageOne = h
  both_stages f h StageTwo = zero_part p.nodes (layout_of p).sides _ (λ q. ap (λ z. z *ℚ f (p.nodes + q)) (l.sides (p.nodes + q) (omega arith)) ∙ ring (f (p.nodes + q) ∷ []) (nought :* v 0) nought refl) h

  module _ (s : Standing) where
    given_total : (j : ℕ) → j < length p.columns → sum_ℚ (rows_of p s) (λ i. at y i *ℚ (stage_of p s).entry j i) ≡ zero_ℚ
    given_total j h =
        let c = is_column p ok j h in
        sum_ext (rows_of p s) _ (λ i. at y i *ℚ (layout_of p).entry j i) (λ i g. ap (λ z. at y i *ℚ entry_of (layout_of p) (is_negative s) z i) (column_given (layout_of p) j h))
        ∙ both_stages ((layout_of p).entry j) (sum_ext p.nodes _ _ (λ i g. ap (λ z. at y i *ℚ z) (c.at_nodes i g)) ∙ level_total p.nodes (column p j).ends (at y) l.level c.ends_within l.nodes) s.stage

    slack_total : (q : ℕ) → q < (layout_of p).sides → sum_ℚ (rows_of p s) (λ i. at y i *ℚ (stage_of p s).entry (length p.columns + q) i) ≡ zero_ℚ
    slack_total q h =
        sum_ext (rows_of p s) _ (λ i. at y i *ℚ (slack_sign ((layout_of p).kind (p.nodes + q)) *ℚ delta (p.nodes + q) i)) (λ i g. ap (λ z. at y i *ℚ entry_of (layout_of p) (is_negative s) z i) (column_slack (layout_of p) q h))
        ∙ both_stages (λ i. slack_sign ((layout_of p).kind (p.nodes + q)) *ℚ delta (p.nodes + q) i) (sum_zero p.nodes _ (λ i g. ap (λ z. at y i *ℚ (slack_sign ((layout_of p).kind (p.nodes + q)) *ℚ z)) (unit_other (p.nodes + q) i (λ e. (let z : p.nodes + q ≡ i = e in omega (arith, z, g)))) ∙ ring (at y i ∷ slack_sign ((layout_of p).kind (p.nodes + q)) ∷ []) (v 0 :* (v 1 :* nought)) nought refl)) s.stage

    total : (j : ℕ) → j < count_priced p → sum_ℚ (rows_of p s) (λ i. at y i *ℚ (stage_of p s).entry j i) ≡ zero_ℚ
    total j h = of (below_or_past j (length p.columns) (layout_of p).sides h)
      where
        of : (j < length p.columns) ⊎ ((q : ℕ) × (j ≡ length p.columns + q) × (q < (layout_of p).sides)) → sum_ℚ (rows_of p s) (λ i. at y i *ℚ (stage_of p s).entry j i) ≡ zero_ℚ
        of (inl a) = given_total j a
        of (inr (q, e, a)) = subst (λ k. sum_ℚ (rows_of p s) (λ i. at y i *ℚ (stage_of p s).entry k i) ≡ zero_ℚ) (sym e) (slack_total q a)

    reduced_zero : (j : ℕ) → j < count_priced p → reduced (stage_of p s) (ones (layout_of p)) (at y) j ≡ zero_ℚ
    unfolding reduced
    reduced_zero j h = ap₂ (λ a b. a +ℚ neg_ℚ b) (ones_priced (layout_of p) j h) (total j h) ∙ ring [] (nought :- nought) nought refl

    right_zero : (a : Place) → HasWrongSign a zero_ℚ → ⊥
    right_zero Lower w = lt_irrefl zero_ℚ w
    right_zero Upper w = lt_irrefl zero_ℚ w
    right_zero Zero w = w refl
    right_zero Absent w = w
    right_zero Basic w = w

    -- So phase one wants none.
    pub level_none : (y2 : List ℚ) → WantsNone p s One y y2
    level_none y2 j w = right_zero (place_at s j) (subst (HasWrongSign (place_at s j)) (reduced_zero j (wanted_within p s One y y2 j w)) w.1)

-- A stage has all nodes.
pub nodes_first : (p : LinearProgram) (n : StageNumber) → p.nodes ≤ rows_in (layout_of p) n
nodes_first p StageOne = omega arith
nodes_first p StageTwo = omega arith
