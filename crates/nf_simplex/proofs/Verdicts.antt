-- The lists of an ended state are valid certificates.
use Rattle.std.proofs.Common.{◌≡◌, ℕ, ◌<◌, ◌⊎◌, inl, inr, Bool, List, length, cond, ltb, ◌≤◌, sym, ap, ap₂, ◌∙◌, subst, subst₂, arith}
use Rattle.std.proofs.lemmas.List.{ext_get_or}
use Rattle.nf_num.specs.Rational.{ℚ, zero_ℚ, ◌+ℚ◌, ◌*ℚ◌, neg_ℚ, ◌-ℚ◌}
use Rattle.nf_num.specs.Sum.{sum_ℚ, delta}
use Rattle.nf_model.specs.Program.{LinearProgram, cost_of}
use Rattle.nf_model.specs.Lists.{list_of}
use Rattle.nf_model.specs.Certificate.{IsValidBest}
use Rattle.nf_model.specs.Farkas.{IsValidFarkas, IsGap}
use Rattle.nf_model.specs.Ray.{IsValidRay}
use Rattle.nf_model.proofs.Lists.{length-list_of, at-list_of}
use Rattle.nf_simplex.specs.Lists.{padded}
use Rattle.nf_simplex.specs.Stage.{Stage}
use Rattle.nf_simplex.specs.Numbers.{IsValues, AreEntries, AreDuals, reduced}
use Rattle.nf_simplex.specs.Step.{signed, CanEnter}
use Rattle.nf_simplex.specs.Ends.{HasEndedUnbounded, printed}
use Rattle.nf_simplex.specs.Layout.{layout_of}
use Rattle.nf_simplex.specs.Columns.{all_columns, number_of, ones, twos}
use Rattle.nf_simplex.specs.Standing.{Standing, place_at, is_negative, stage_of, rows_of, IsFeasibleState}
use Rattle.nf_simplex.specs.Moves.{Prices}
use Rattle.nf_simplex.specs.Verdicts.{AreGivenValues}
use Rattle.nf_simplex.specs.Laws.{OptimalIsBest, InfeasibleHasGap, UnboundedHasRay}
use Rattle.nf_simplex.proofs.Basis.{weights_unique, values_unique, duals_unique, weights_by_inverse}
use Rattle.nf_simplex.proofs.Next.{rate}
use Rattle.nf_simplex.proofs.Ratio.{speed}
use Rattle.nf_simplex.proofs.Orders.{yes_less, not_less, less_or_not}
use Rattle.nf_simplex.proofs.Padded.{rows_are}
use Rattle.nf_simplex.proofs.Values.{all_rows}
use Rattle.nf_simplex.proofs.Same.{reduced_same, optimal_same, infeasible_same, factor_same, total_same, eligible_same}
use Rattle.nf_simplex.proofs.Standings.{state_of}
use Rattle.nf_simplex.proofs.Optimal.{optimal_is_best}
use Rattle.nf_simplex.proofs.Infeasible.{infeasible_is_farkas}
use Rattle.nf_simplex.proofs.Ended.{unbounded_is_ray}

-- Lists of functions that are equal below their length are equal.
pub list_same : (n : ℕ) (f g : ℕ → ℚ) → ((k : ℕ) → k < n → f k ≡ g k) → list_of n f ≡ list_of n g
list_same n f g same =
    ext_get_or zero_ℚ (list_of n f) (list_of n g) (length-list_of n f ∙ sym (length-list_of n g))
    (λ k h. let l : k < n = subst (λ m. k < m) (length-list_of n f) h in at-list_of n f k l ∙ (same k l ∙ sym (at-list_of n g k l)))

module _ (p : LinearProgram) (s : Standing) (f : IsFeasibleState p s) where
  -- values, duals and entries are those that the state carries
  values_are : (x : ℕ → ℚ) → IsValues (stage_of p s) (place_at s) x → (j : ℕ) → j < all_columns (layout_of p) → x j ≡ f.feasible.values j
  values_are x v j h = values_unique (stage_of p s) (place_at s) x f.feasible.values f.feasible.basis.independent v f.feasible.are_values j h

  duals_same_at : (c y z : ℕ → ℚ) → AreDuals (stage_of p s) (place_at s) c y → AreDuals (stage_of p s) (place_at s) c z → (i : ℕ) → i < rows_of p s → y i ≡ z i
  duals_same_at c y z d e i h = duals_unique (stage_of p s) (place_at s) f.feasible.inverse f.feasible.are_inverse c y z d e i h

  reduced_by : (c y z : ℕ → ℚ) → AreDuals (stage_of p s) (place_at s) c y → AreDuals (stage_of p s) (place_at s) c z → (j : ℕ) → reduced (stage_of p s) c y j ≡ reduced (stage_of p s) c z j
  reduced_by c y z d e j = reduced_same (stage_of p s) (place_at s) c y z (duals_same_at c y z d e) j

  given_list : (xs : List ℚ) → AreGivenValues p s xs → list_of (length p.columns) f.feasible.values ≡ xs
  given_list xs g = list_same (length p.columns) f.feasible.values g.0 (λ j h. sym (values_are g.0 g.1 j (omega arith))) ∙ sym g.2

  moves_are : (e : ℕ) (down : Bool) (c : CanEnter (stage_of p s) (place_at s) e down) (w : ℕ → ℚ) → AreEntries (stage_of p s) (place_at s) e w → (j : ℕ) → j < all_columns (layout_of p)
      → speed (stage_of p s) (place_at s) f.feasible e down c j ≡ signed down (delta e j -ℚ w j)
  unfolding rate
  moves_are e down c w a j h =
      ap (λ z. signed down (delta e j +ℚ neg_ℚ z))
      (weights_unique (stage_of p s) (place_at s) ((stage_of p s).entry e) (λ k. sum_ℚ (stage_of p s).rows (λ r. (stage_of p s).entry e r *ℚ f.feasible.inverse r k)) w f.feasible.basis.independent (weights_by_inverse (stage_of p s) (place_at s) f.feasible.inverse f.feasible.are_inverse ((stage_of p s).entry e)) a j h)

pub optimal_verdict : OptimalIsBest
optimal_verdict p s ok f last ended xs ys given d =
    subst₂ (λ x y. IsValidBest p x y) (given_list p s f xs given) (list_same (length p.rows) _ _ same ∙ sym d.2.2)
    (optimal_is_best p ok s.stage (is_negative s) (place_at s) (state_of p s f) last n.one n.two n.are_duals_one n.are_duals_two
    (optimal_same S (place_at s) n.values f.feasible.values (ones (layout_of p)) (twos (layout_of p)) n.one n.two (λ j h. values_are p s f n.values n.are_values j h) ended.1)
    d.0
    (factor_same S (place_at s) (reduced S (ones (layout_of p)) k.one) (reduced S (twos (layout_of p)) k.two) (reduced S (ones (layout_of p)) n.one) (reduced S (twos (layout_of p)) n.two) d.0
    (λ j. reduced_by p s f (ones (layout_of p)) k.one n.one k.are_duals_one n.are_duals_one j) (λ j. reduced_by p s f (twos (layout_of p)) k.two n.two k.are_duals_two n.are_duals_two j) d.1.1))
  where
    S : Stage
    S = stage_of p s

    n : Prices p s
    n = ended.0

    k : Prices p s
    k = d.1.0

    q : Prices p s
    q = d.2.1.0

    all : length p.rows ≡ rows_of p s
    all = sym (all_rows (layout_of p) s.stage last ∙ rows_are p ok)

    same : (i : ℕ) → i < length p.rows → printed n.one n.two d.0 i ≡ padded (rows_of p s) d.2.0 i
    same i h =
        let l : i < rows_of p s = subst (λ m. i < m) all h in
        ap₂ (λ a b. a +ℚ d.0 *ℚ b) (duals_same_at p s f (twos (layout_of p)) n.two q.two n.are_duals_two q.are_duals_two i l) (duals_same_at p s f (ones (layout_of p)) n.one q.one n.are_duals_one q.are_duals_one i l)
        ∙ (sym (d.2.1.1 i l) ∙ sym (yes_less i (rows_of p s) (d.2.0 i) zero_ℚ l))

pub infeasible_verdict : InfeasibleHasGap
infeasible_verdict p s ok f ended ys x d v =
    let proved = infeasible_is_farkas p ok s.stage (is_negative s) (place_at s) (state_of p s f) n.one n.are_duals_one
    (infeasible_same S (place_at s) n.values f.feasible.values (ones (layout_of p)) n.one (λ j h. values_are p s f n.values n.are_values j h) ended.1) in
    (subst (IsValidFarkas p) duals proved.0, subst₂ (λ y g. IsGap p y g) duals (total_same S (place_at s) (ones (layout_of p)) f.feasible.values x (λ j h. sym (values_are p s f x v j h))) proved.1)
  where
    S : Stage
    S = stage_of p s

    n : Prices p s
    n = ended.0

    same : (i : ℕ) → i < length p.rows → padded (rows_of p s) n.one i ≡ padded (rows_of p s) d.0 i
    same i h = of (less_or_not i (rows_of p s))
      where
        of : (i < rows_of p s) ⊎ (rows_of p s ≤ i) → padded (rows_of p s) n.one i ≡ padded (rows_of p s) d.0 i
        of (inl l) = ap (λ z. cond (ltb i (rows_of p s)) z zero_ℚ) (duals_same_at p s f (ones (layout_of p)) n.one d.0 n.are_duals_one d.1 i l)
        of (inr l) = not_less i (rows_of p s) (n.one i) zero_ℚ l ∙ sym (not_less i (rows_of p s) (d.0 i) zero_ℚ l)

    duals : list_of (length p.rows) (padded (rows_of p s) n.one) ≡ ys
    duals = list_same (length p.rows) _ _ same ∙ sym d.2

pub unbounded_verdict : UnboundedHasRay
unbounded_verdict p s c down ok f last ended xs rs given moves =
    let proved = unbounded_is_ray p ok s.stage (is_negative s) (place_at s) (state_of p s f) last n.one n.two n.are_duals_one n.are_duals_two e down here in (
      subst₂ (λ x r. IsValidRay p x r) (given_list p s f xs given) ray proved.0,
      λ m. subst (λ r. cost_of p r ≡ signed down (reduced S (twos (layout_of p)) m.two e)) ray (proved.1 ∙ ap (signed down) (reduced_by p s f (twos (layout_of p)) n.two m.two n.are_duals_two m.are_duals_two e)),
    )
  where
    S : Stage
    S = stage_of p s

    e : ℕ
    e = number_of (layout_of p) c

    n : Prices p s
    n = ended.0

    here : HasEndedUnbounded S (place_at s) f.feasible.values (ones (layout_of p)) (twos (layout_of p)) n.one n.two e down
    here = record {
      eligible = eligible_same S (place_at s) n.values f.feasible.values (ones (layout_of p)) (twos (layout_of p)) n.one n.two (λ j h. values_are p s f n.values n.are_values j h) e ended.1.eligible;
      enters = ended.1.enters;
      improves = ended.1.improves;
      stuck = ended.1.stuck;
    }

    ray : list_of (length p.columns) (speed S (place_at s) f.feasible e down here.enters) ≡ rs
    ray = list_same (length p.columns) _ _ (λ j h. moves_are p s f e down here.enters moves.0 moves.1 j (omega arith)) ∙ sym moves.2
