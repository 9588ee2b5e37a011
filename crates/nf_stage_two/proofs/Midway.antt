-- The start of stage two while it is made: one column or one side row after another.
use Rattle.std.proofs.Common.{◌≡◌, ◌≢◌, ◌⊎◌, inl, inr, ◌↔◌, ℕ, suc, ◌+◌, ◌-◌, ◌<◌, ◌≤◌, Bool, true, IsTrue, length, refl, sym, ap, ap₂, ◌∙◌, subst, arith}
use Rattle.nf_num.specs.Rational.{ℚ, zero_ℚ, ◌<ℚ◌}
use Rattle.nf_model.specs.declared.RowKind.{RowKind}
use Rattle.nf_model.specs.Program.{LinearProgram}
use Rattle.nf_simplex.specs.Place.{Place, Lower, Basic}
use Rattle.nf_simplex.specs.Layout.{layout_of}
use Rattle.nf_simplex.specs.Columns.{Col, Given, Slack, Artificial, all_columns, col_at}
use Rattle.nf_simplex.specs.StageOf.{StageTwo, rows_in}
use Rattle.nf_simplex.specs.Starts.{second_rest, TakesSlack, StartsRow}
use Rattle.nf_simplex.specs.Standing.{Standing, number_in, place_at, place_of, is_negative, IsStateOf}
use Rattle.nf_simplex.specs.Changes.{with_place, with_negative, resting_place, IsRestingState}
use Rattle.nf_simplex.specs.Moves.{HasStartedRow, IsSecondState}
use Rattle.nf_simplex.proofs.Orders.{not_less}
use Rattle.nf_simplex.proofs.Placed.{placed_here, placed_other, negative_here, negative_other}
use Rattle.nf_simplex.proofs.StageOf.{column_given, column_slack, column_artificial}
use Rattle.nf_stage_two.specs.Starting.{RestsAtRow, IsMidway}

more : (n : ℕ) → suc n ≡ n + 1
more n = omega arith

below_next : (j n : ℕ) → j < suc n → (j < n) ⊎ (j ≡ n)
below_next j n l = grind arith

module _ (p : LinearProgram) (arcs : p.arcs ≤ length p.columns) where
  slack_number : (q : ℕ) → number_in p (Slack (p.nodes + q)) ≡ length p.columns + q
  slack_number q = omega arith

  -- ---- the state in which all rests
  module _ (t : Standing) (rest : IsRestingState p StageTwo t) where
    at_rest : (j : ℕ) (c : Col) → j < all_columns (layout_of p) → col_at (layout_of p) j ≡ c → place_at t j ≡ resting_place (layout_of p) StageTwo c
    at_rest j c h e = rest.places j h ∙ ap (resting_place (layout_of p) StageTwo) e

    pub midway_none : (s : Standing) (x : ℕ → ℚ) → IsMidway p s x 0 0 0 t
    midway_none s x = record {
      stage = rest.stage;
      arcs_stay = λ j h. absurd (omega arith);
      nonarcs_started = λ j h. at_rest (p.arcs + j) (Given (p.arcs + j)) (omega arith) (column_given (layout_of p) (p.arcs + j) h) ∙ not_less (p.arcs + j) p.arcs Lower _ (omega arith);
      nodes_stay = λ j h. absurd (omega arith);
      sides_started = λ j h. absurd (omega arith);
      sides_rest = λ q z h. record {
        slack = ap (place_at t) (slack_number q) ∙ at_rest (length p.columns + q) (Slack (p.nodes + q)) (omega arith) (column_slack (layout_of p) q (omega arith));
        artificial = at_rest (length p.columns + (layout_of p).sides + (p.nodes + q)) (Artificial (p.nodes + q)) (omega arith) (column_artificial (layout_of p) (p.nodes + q));
        sign = rest.signs (p.nodes + q) (subst (λ n. p.nodes + q < rows_in (layout_of p) n) (sym rest.stage) (omega arith));
      };
    }

  -- ---- one column or row more
  -- The side row q of t' stands as that of t.
  record SameRow (t t' : Standing) (q : ℕ) : Type 0 where
    slack : place_of p t' (Slack (p.nodes + q)) ≡ place_of p t (Slack (p.nodes + q))
    artificial : place_of p t' (Artificial (p.nodes + q)) ≡ place_of p t (Artificial (p.nodes + q))
    sign : is_negative t' (p.nodes + q) ≡ is_negative t (p.nodes + q)

  row_started : (x : ℕ → ℚ) (t t' : Standing) (q : ℕ) → SameRow t t' q → HasStartedRow p x t q → HasStartedRow p x t' q
  row_started x t t' q e h =
      subst (λ a. StartsRow ((layout_of p).kind (p.nodes + q)) (second_rest (layout_of p) x (p.nodes + q)) a (place_of p t' (Artificial (p.nodes + q))) (is_negative t' (p.nodes + q))) (sym e.slack)
      (subst (λ a. StartsRow ((layout_of p).kind (p.nodes + q)) (second_rest (layout_of p) x (p.nodes + q)) (place_of p t (Slack (p.nodes + q))) a (is_negative t' (p.nodes + q))) (sym e.artificial)
      (subst (StartsRow ((layout_of p).kind (p.nodes + q)) (second_rest (layout_of p) x (p.nodes + q)) (place_of p t (Slack (p.nodes + q))) (place_of p t (Artificial (p.nodes + q)))) (sym e.sign) h))

  row_rests : (t t' : Standing) (q : ℕ) → SameRow t t' q → RestsAtRow p t q → RestsAtRow p t' q
  row_rests t t' q e h = record { slack = e.slack ∙ h.slack; artificial = e.artificial ∙ h.artificial; sign = e.sign ∙ h.sign }

  module _ (s : Standing) (x : ℕ → ℚ) (t : Standing) (long : length t.places ≡ all_columns (layout_of p)) where
    -- An arc stands as in s.
    pub arc_more : (a : ℕ) → a < p.arcs → IsMidway p s x a 0 0 t → IsMidway p s x (suc a) 0 0 (with_place t a (place_at s a))
    arc_more a h m = record {
      stage = m.stage;
      arcs_stay = λ j l. arc j (below_next j a l);
      nonarcs_started = λ j l. other (p.arcs + j) (omega arith) ∙ m.nonarcs_started j l;
      nodes_stay = λ j l. absurd (omega arith);
      sides_started = λ j l. absurd (omega arith);
      sides_rest = λ q z l. row_rests t (with_place t a (place_at s a)) q record { slack = other _ (omega arith); artificial = other _ (omega arith); sign = refl } (m.sides_rest q z l);
    }
      where
        other : (j : ℕ) → j ≢ a → place_at (with_place t a (place_at s a)) j ≡ place_at t j
        other j d = placed_other t a j (place_at s a) d

        arc : (j : ℕ) → (j < a) ⊎ (j ≡ a) → place_at (with_place t a (place_at s a)) j ≡ place_at s j
        arc j (inl l) = other j (omega arith) ∙ m.arcs_stay j l
        arc j (inr e) = ap (place_at (with_place t a (place_at s a))) e ∙ (placed_here t a (place_at s a) (subst (λ k. a < k) (sym long) (omega arith)) ∙ ap (place_at s) (sym e))

    -- A node row's artificial stands as in s, with its sign.
    module _ (n : ℕ) (h : n < p.nodes) (signs : n < length t.negative) where
      abbrev between : Standing
      between = with_place t (number_in p (Artificial n)) (place_of p s (Artificial n))

      abbrev after : Standing
      after = with_negative between n (is_negative s n)

      other : (j : ℕ) → j ≢ number_in p (Artificial n) → place_at after j ≡ place_at t j
      other j d = placed_other t (number_in p (Artificial n)) j (place_of p s (Artificial n)) d

      pub node_more : IsMidway p s x p.arcs n 0 t → IsMidway p s x p.arcs (suc n) 0 (with_negative (with_place t (number_in p (Artificial n)) (place_of p s (Artificial n))) n (is_negative s n))
      node_more m = record {
        stage = m.stage;
        arcs_stay = λ j l. other j (omega arith) ∙ m.arcs_stay j l;
        nonarcs_started = λ j l. other (p.arcs + j) (omega arith) ∙ m.nonarcs_started j l;
        nodes_stay = λ i l. node i (below_next i n l);
        sides_started = λ j l. absurd (omega arith);
        sides_rest = λ q z l. row_rests t after q record { slack = other _ (omega arith); artificial = other _ (omega arith); sign = negative_other between n (p.nodes + q) (is_negative s n) (omega arith) } (m.sides_rest q z l);
      }
        where
          node : (i : ℕ) → (i < n) ⊎ (i ≡ n) → (place_of p after (Artificial i) ≡ place_of p s (Artificial i)) × (is_negative after i ≡ is_negative s i)
          node i (inl l) = (other (number_in p (Artificial i)) (omega arith) ∙ (m.nodes_stay i l).0, negative_other between n i (is_negative s n) (omega arith) ∙ (m.nodes_stay i l).1)
          node i (inr e) =
              subst (λ k. (place_of p after (Artificial k) ≡ place_of p s (Artificial k)) × (is_negative after k ≡ is_negative s k)) (sym e)
              (placed_here t (number_in p (Artificial n)) (place_of p s (Artificial n)) (subst (λ k. number_in p (Artificial n) < k) (sym long) (omega arith)), negative_here between n (is_negative s n) signs)

    -- A side row starts where no other row changes.
    row_more : (t' : Standing) (q : ℕ) → p.nodes + q < length p.rows → t'.stage ≡ t.stage
        → ((j : ℕ) → j ≢ length p.columns + q → j ≢ number_in p (Artificial (p.nodes + q)) → place_at t' j ≡ place_at t j)
        → ((r : ℕ) → r ≢ p.nodes + q → is_negative t' r ≡ is_negative t r)
        → HasStartedRow p x t' q → IsMidway p s x p.arcs p.nodes q t → IsMidway p s x p.arcs p.nodes (suc q) t'
    row_more t' q h stage places signs started m = record {
      stage = stage ∙ m.stage;
      arcs_stay = λ j l. places j (omega arith) (omega arith) ∙ m.arcs_stay j l;
      nonarcs_started = λ j l. places (p.arcs + j) (omega arith) (omega arith) ∙ m.nonarcs_started j l;
      nodes_stay = λ i l. (places (number_in p (Artificial i)) (omega arith) (omega arith) ∙ (m.nodes_stay i l).0, signs i (omega arith) ∙ (m.nodes_stay i l).1);
      sides_started = λ k l. row k (below_next k q l);
      sides_rest = λ k z l. row_rests t t' k (same k l (omega arith)) (m.sides_rest k (omega arith) l);
    }
      where
        same : (k : ℕ) → p.nodes + k < length p.rows → k ≢ q → SameRow t t' k
        same k l d = record { slack = places _ (omega arith) (omega arith); artificial = places _ (omega arith) (omega arith); sign = signs (p.nodes + k) (omega arith) }

        row : (k : ℕ) → (k < q) ⊎ (k ≡ q) → HasStartedRow p x t' k
        row k (inl l) = row_started x t t' k (same k (omega arith) (omega arith)) (m.sides_started k l)
        row k (inr e) = subst (HasStartedRow p x t') (sym e) started

    module _ (q : ℕ) (h : p.nodes + q < length p.rows) where
      abbrev slacked : Standing
      slacked = with_place t (length p.columns + q) Basic

      -- It starts by its slack,
      pub slack_more : TakesSlack ((layout_of p).kind (p.nodes + q)) (second_rest (layout_of p) x (p.nodes + q))
          → IsMidway p s x p.arcs p.nodes q t → IsMidway p s x p.arcs p.nodes (suc q) (with_place t (length p.columns + q) Basic)
      slack_more takes m =
          row_more slacked q h refl (λ j d e. placed_other t (length p.columns + q) j Basic d) (λ r d. refl)
          (let r = m.sides_rest q (omega arith) h in record {
            by_slack = λ z. (ap (place_at slacked) (slack_number q) ∙ placed_here t (length p.columns + q) Basic (subst (λ k. length p.columns + q < k) (sym long) (omega arith)), placed_other t (length p.columns + q) _ Basic (omega arith) ∙ r.artificial, r.sign);
            by_artificial = λ none. absurd (none takes);
          }) m

      abbrev between_row : Standing
      between_row = with_place t (number_in p (Artificial (p.nodes + q))) Basic

      -- or by its artificial.
      pub artificial_more : (b : Bool) → p.nodes + q < length t.negative → (TakesSlack ((layout_of p).kind (p.nodes + q)) (second_rest (layout_of p) x (p.nodes + q)) → ⊥)
          → (b ≡ true) ↔ (second_rest (layout_of p) x (p.nodes + q) <ℚ zero_ℚ)
          → IsMidway p s x p.arcs p.nodes q t → IsMidway p s x p.arcs p.nodes (suc q) (with_negative (with_place t (number_in p (Artificial (p.nodes + q))) Basic) (p.nodes + q) b)
      artificial_more b signs none sign m =
          row_more (with_negative between_row (p.nodes + q) b) q h refl (λ j d e. placed_other t (number_in p (Artificial (p.nodes + q))) j Basic e) (λ r d. negative_other between_row (p.nodes + q) r b d)
          (let r = m.sides_rest q (omega arith) h in record {
            by_slack = λ takes. absurd (none takes);
            by_artificial = λ z. (
              placed_other t (number_in p (Artificial (p.nodes + q))) _ Basic (omega arith) ∙ r.slack,
              placed_here t (number_in p (Artificial (p.nodes + q))) Basic (subst (λ k. number_in p (Artificial (p.nodes + q)) < k) (sym long) (omega arith)),
              subst (λ c. (c ≡ true) ↔ (second_rest (layout_of p) x (p.nodes + q) <ℚ zero_ℚ)) (sym (negative_here between_row (p.nodes + q) b signs)) sign,
            );
          }) m

  -- The same, as the calls tell it: at numbers, places and states that are equal to these.
  module _ (s : Standing) (x : ℕ → ℚ) (t t' : Standing) (long : length t.places ≡ all_columns (layout_of p)) where
    pub arc_told : (a n : ℕ) (place : Place) → a < p.arcs → n ≡ a → place ≡ place_at s n → t' ≡ with_place t n place → IsMidway p s x a 0 0 t → IsMidway p s x (a + 1) 0 0 t'
    arc_told a n place h number told changed m =
        subst (λ k. IsMidway p s x k 0 0 t') (more a)
        (subst (IsMidway p s x (suc a) 0 0) (sym (changed ∙ (ap (with_place t n) told ∙ ap (λ k. with_place t k (place_at s k)) number))) (arc_more s x t long a h m))

    pub node_told : (i n : ℕ) (place : Place) (b : Bool) → i < p.nodes → i < length t.negative → n ≡ i → place ≡ place_of p s (Artificial n) → b ≡ is_negative s n
        → t' ≡ with_negative (with_place t (number_in p (Artificial n)) place) n b → IsMidway p s x p.arcs i 0 t → IsMidway p s x p.arcs (i + 1) 0 t'
    node_told i n place b h signs number told sign changed m =
        subst (λ k. IsMidway p s x p.arcs k 0 t') (more i)
        (subst (IsMidway p s x p.arcs (suc i) 0)
        (sym (changed ∙ (ap₂ (λ q c. with_negative (with_place t (number_in p (Artificial n)) q) n c) told sign ∙ ap (λ k. with_negative (with_place t (number_in p (Artificial k)) (place_of p s (Artificial k))) k (is_negative s k)) number)))
        (node_more s x t long i h signs m))

    pub slack_told : (q n : ℕ) (lacks : ℚ) (kind : RowKind) → p.nodes + q < length p.rows → lacks ≡ second_rest (layout_of p) x (p.nodes + q) → kind ≡ (layout_of p).kind (p.nodes + q) → TakesSlack kind lacks
        → n ≡ length p.columns + q → t' ≡ with_place t n Basic → IsMidway p s x p.arcs p.nodes q t → IsMidway p s x p.arcs p.nodes (q + 1) t'
    slack_told q n lacks kind h rest is_kind takes number changed m =
        subst (λ k. IsMidway p s x p.arcs p.nodes k t') (more q)
        (subst (IsMidway p s x p.arcs p.nodes (suc q)) (sym (changed ∙ ap (λ k. with_place t k Basic) number))
        (slack_more s x t long q h (subst (λ r. TakesSlack ((layout_of p).kind (p.nodes + q)) r) rest (subst (λ k. TakesSlack k lacks) is_kind takes)) m))

    pub artificial_told : (q n : ℕ) (b : Bool) (lacks : ℚ) (kind : RowKind) → p.nodes + q < length p.rows → p.nodes + q < length t.negative → lacks ≡ second_rest (layout_of p) x (p.nodes + q) → kind ≡ (layout_of p).kind (p.nodes + q)
        → (TakesSlack kind lacks → ⊥) → IsTrue b ↔ (lacks <ℚ zero_ℚ) → n ≡ p.nodes + q → t' ≡ with_negative (with_place t (number_in p (Artificial n)) Basic) n b
        → IsMidway p s x p.arcs p.nodes q t → IsMidway p s x p.arcs p.nodes (q + 1) t'
    artificial_told q n b lacks kind h signs rest is_kind none sign number changed m =
        subst (λ k. IsMidway p s x p.arcs p.nodes k t') (more q)
        (subst (IsMidway p s x p.arcs p.nodes (suc q)) (sym (changed ∙ ap (λ k. with_negative (with_place t (number_in p (Artificial k)) Basic) k b) number))
        (artificial_more s x t long q h b signs
        (λ takes. none (subst (λ k. TakesSlack k lacks) (sym is_kind) (subst (TakesSlack ((layout_of p).kind (p.nodes + q))) (sym rest) takes)))
        (subst (λ r. (b ≡ true) ↔ (r <ℚ zero_ℚ)) rest (truth b sign)) m))
      where
        truth : (b : Bool) → IsTrue b ↔ (lacks <ℚ zero_ℚ) → (b ≡ true) ↔ (lacks <ℚ zero_ℚ)
        truth b e = (λ z. e.0 z, λ z. e.1 z)

  -- With all side rows it is the start.
  pub midway_all : (s : Standing) (x : ℕ → ℚ) (t : Standing) → IsStateOf p t → IsMidway p s x p.arcs p.nodes (length p.rows - p.nodes) t → IsSecondState p s x t
  midway_all s x t st m = record {
    state = st;
    stage = m.stage;
    arcs = m.arcs_stay;
    nonarcs = m.nonarcs_started;
    nodes = m.nodes_stay;
    sides = λ q h. m.sides_started q (omega arith);
  }
