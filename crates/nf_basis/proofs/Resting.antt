-- The state in which nothing is basic.
use Rattle.std.proofs.Common.{◌≡◌, ◌≢◌, ℕ, ◌-◌, ◌<◌, ◌≤◌, ◌⊎◌, inl, inr, Bool, false, List, length, map, replicate, slice_index_or, ◌+◌, Option, Some, None, cond, ltb, refl, sym, ap, ◌∙◌, subst, nat_eq, arith}
use Rattle.std.proofs.Math.ListN.{get_or-map}
use Rattle.std.proofs.lemmas.List.{get_or-replicate, get_or_past, length-map, length-replicate}
use Rattle.nf_model.specs.declared.RowKind.{RowKind}
use Rattle.nf_model.specs.declared.RowKind.TheVariants.{Eq, Le, Ge}
use Rattle.nf_model.specs.Program.{LinearProgram, column, row, lower_of, upper_of}
use Rattle.nf_num.specs.Rational.{ℚ}
use Rattle.nf_model.specs.Problem.{IsProblem}
use Rattle.nf_simplex.specs.Place as model
use Rattle.nf_simplex.specs.Layout.{layout_of}
use Rattle.nf_simplex.specs.Columns.{all_columns, col_at, col_lower, col_upper}
use Rattle.nf_simplex.specs.Columns as col
use Rattle.nf_simplex.specs.Changes.{IsRestingState, resting_place}
use Rattle.nf_simplex.specs.Starts.{nonarc_place, idle_place}
use Rattle.nf_simplex.proofs.Orders.{yes_less, not_less, less_or_not}
use Rattle.nf_simplex.proofs.StageOf.{by_columns}
use Rattle.nf_simplex.specs.StageOf.{StageNumber, StageOne, StageTwo, rows_in, IsPresent as IsOfStage}
use Rattle.nf_simplex.specs.Standing.{place_at, MayStandIn, FitsAt}
use Rattle.nf_basis.specs.declared.col.Place.{Place}
use Rattle.nf_basis.specs.declared.col.Place.TheVariants.{Absent}
use Rattle.nf_basis.specs.Names.{place_of, stage_by, stage_of}
use Rattle.nf_basis.specs.Kept.{Kept, HasSizes, IsStateOf}
use Rattle.nf_basis.specs.Resting.{AreResting}

-- The test of a stage's number tells the stage.
pub stage_two : (n : ℕ) → 0 < n → n ≤ 2 → stage_by (nat_eq n 2) ≡ stage_of n
stage_two n a b = of (one_or_two n a b)
  where
    one_or_two : (n : ℕ) → 0 < n → n ≤ 2 → (n ≡ 1) ⊎ (n ≡ 2)
    one_or_two n a b = grind arith

    of : (n ≡ 1) ⊎ (n ≡ 2) → stage_by (nat_eq n 2) ≡ stage_of n
    of (inl e) = subst (λ m. stage_by (nat_eq m 2) ≡ stage_of m) (sym e) refl
    of (inr e) = subst (λ m. stage_by (nat_eq m 2) ≡ stage_of m) (sym e) refl

-- No member of a list of false is true.
all_false : (n i : ℕ) → slice_index_or (replicate n false) i false ≡ false
all_false n i = of (less_or n i)
  where
    less_or : (n i : ℕ) → (i < n) ⊎ (n ≤ i)
    less_or n i = grind arith

    of : (i < n) ⊎ (n ≤ i) → slice_index_or (replicate n false) i false ≡ false
    of (inl l) = get_or-replicate n i false false l
    of (inr m) = get_or_past (replicate n false) i false (let e = length-replicate n false in omega arith)

-- A column may stand where a nonarc variable with its bounds starts,
start_may : (l u : Option ℚ) → MayStandIn l u (nonarc_place l u)
start_may (Some l) u = λ e. cc
start_may None (Some u) = λ e. cc
start_may None None = (refl, refl)

-- and one that has a lower bound stands there.
bounded_rests : (l u : Option ℚ) → l ≢ None → nonarc_place l u ≡ model.Lower
bounded_rests (Some l) u h = refl
bounded_rests None u h = absurd (h refl)

module _ (p : LinearProgram) (ok : IsProblem p) (two : Bool) (places : List Place) (signs : List Bool) (rests : AreResting p two places) (none : signs ≡ replicate (rows_in (layout_of p) (stage_by two)) false)
    (columns nodes sides : ℕ) (sizes : HasSizes p (record { standing = record { stage = stage_by two; places = map place_of places; negative = signs }; columns = columns; nodes = nodes; sides = sides })) where
  abbrev kept : Kept
  kept = record { standing = record { stage = stage_by two; places = map place_of places; negative = signs }; columns = columns; nodes = nodes; sides = sides }

  there : (j : ℕ) → place_at kept.standing j ≡ place_of (slice_index_or places j Absent)
  there j = get_or-map place_of places j Absent

  pub is_state : IsStateOf p kept
  is_state = record {
    problem = ok;
    sizes = sizes;
    fits = record {
      one_place_each = length-map places place_of ∙ rests.one_each;
      one_sign_each = ap length none ∙ length-replicate _ false;
      fits = fits;
    };
  }
    where
      fits : (j : ℕ) → j < all_columns (layout_of p) → FitsAt p kept.standing j
      fits j h = let at = rests.each j h in record {
        present = λ g. subst (MayStandIn (col_lower (layout_of p) (col_at (layout_of p) j)) (col_upper (layout_of p) (col_at (layout_of p) j))) (sym (there j ∙ at.present g)) (start_may _ _);
        absent = λ g. there j ∙ ap place_of (at.absent g);
      }

  resting : (n : StageNumber) → stage_by two ≡ n → (j : ℕ) → j < all_columns (layout_of p) → place_at kept.standing j ≡ resting_place (layout_of p) n (col_at (layout_of p) j)
  resting n e j h = subst (λ m. place_at kept.standing j ≡ resting_place (layout_of p) m (col_at (layout_of p) j)) e
      (by_stage (stage_by two) (col_at (layout_of p) j) (column_within j h) (λ g. there j ∙ (rests.each j h).present g) (λ g. there j ∙ ap place_of ((rests.each j h).absent g)))
    where
      Within : col.Col → Type 0
      Within (col.Given i) = i < length p.columns
      Within (col.Slack r) = (p.nodes ≤ r) × (r < length p.rows)
      Within (col.Artificial r) = r < length p.rows

      arc_rests : (i : ℕ) → i < p.arcs → nonarc_place (lower_of (column p i)) (upper_of (column p i)) ≡ model.Lower
      arc_rests i l = bounded_rests _ _ (ok.arcs_have_lower i l)

      column_within : (j : ℕ) → j < all_columns (layout_of p) → Within (col_at (layout_of p) j)
      column_within = by_columns (layout_of p) Within (λ j h. h) (λ q h. (omega arith, omega arith)) (λ i h. (let w = ok.nodes_within in omega arith))

      by_stage : (n : StageNumber) (x : col.Col) → Within x → (IsOfStage (layout_of p) n x → place_at kept.standing j ≡ nonarc_place (col_lower (layout_of p) x) (col_upper (layout_of p) x)) → ((IsOfStage (layout_of p) n x → ⊥) → place_at kept.standing j ≡ model.Absent) → place_at kept.standing j ≡ resting_place (layout_of p) n x
      by_stage StageOne (col.Given i) w here off = of (less_or_not i p.arcs)
        where
          of : (i < p.arcs) ⊎ (p.arcs ≤ i) → place_at kept.standing j ≡ cond (ltb i p.arcs) model.Lower model.Absent
          of (inl l) = here l ∙ (arc_rests i l ∙ sym (yes_less i p.arcs _ _ l))
          of (inr l) = off (λ g. omega arith) ∙ sym (not_less i p.arcs _ _ l)
      by_stage StageOne (col.Slack r) w here off = off (λ g. g)
      by_stage StageOne (col.Artificial r) w here off = of (less_or_not r p.nodes)
        where
          of : (r < p.nodes) ⊎ (p.nodes ≤ r) → place_at kept.standing j ≡ cond (ltb r p.nodes) model.Lower model.Absent
          of (inl l) = here l ∙ sym (yes_less r p.nodes _ _ l)
          of (inr l) = off (λ g. omega arith) ∙ sym (not_less r p.nodes _ _ l)
      by_stage StageTwo (col.Given i) w here off = of (less_or_not i p.arcs)
        where
          of : (i < p.arcs) ⊎ (p.arcs ≤ i) → place_at kept.standing j ≡ cond (ltb i p.arcs) model.Lower (nonarc_place (lower_of (column p i)) (upper_of (column p i)))
          of (inl l) = here w ∙ (arc_rests i l ∙ sym (yes_less i p.arcs _ _ l))
          of (inr l) = here w ∙ sym (not_less i p.arcs _ _ l)
      by_stage StageTwo (col.Slack r) w here off = of (row p r).kind refl
        where
          there : r < p.nodes + (length p.rows - p.nodes)
          there = let a = w.0 in let b = w.1 in omega arith

          of : (kind : RowKind) → (row p r).kind ≡ kind → place_at kept.standing j ≡ idle_place (row p r).kind
          of Eq e = off (λ g. g.2 e) ∙ ap idle_place (sym e)
          of Le e = here (w.0, there, λ q. (let x : Le ≡ Eq = sym e ∙ q in cc)) ∙ ap idle_place (sym e)
          of Ge e = here (w.0, there, λ q. (let x : Ge ≡ Eq = sym e ∙ q in cc)) ∙ ap idle_place (sym e)
      by_stage StageTwo (col.Artificial r) w here off = here (omega arith)

  pub is_resting_state : (n : StageNumber) → stage_by two ≡ n → IsRestingState p n kept.standing
  is_resting_state n e = record {
    state = is_state.fits;
    stage = e;
    places = resting n e;
    signs = λ i h. ap (λ xs. slice_index_or xs i false) none ∙ all_false (rows_in (layout_of p) (stage_by two)) i;
  }
