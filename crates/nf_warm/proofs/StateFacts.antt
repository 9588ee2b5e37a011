-- The state that is made of places and signs: which columns are present, and what has been put.
use Rattle.std.proofs.Common.{◌≡◌, ◌≢◌, ◌∙◌, ◌<◌, ◌≤◌, ◌+◌, ◌⊎◌, inl, inr, ℕ, Bool, false, List, length, map, get_or, refl, ap, sym, subst, arith}
use Rattle.std.proofs.lemmas.Bool.{cases_lt}
use Rattle.std.proofs.lemmas.List.{ext_get_or, length-map}
use Rattle.nf_model.specs.declared.RowKind.{RowKind}
use Rattle.nf_model.specs.declared.RowKind.TheVariants.{Eq, Le, Ge}
use Rattle.nf_model.specs.Program.{LinearProgram}
use Rattle.nf_simplex.specs.Place as model
use Rattle.nf_simplex.specs.Layout.{layout_of}
use Rattle.nf_simplex.specs.Columns.{Col, Given, Slack, Artificial, all_columns}
use Rattle.nf_simplex.specs.StageOf.{StageNumber, StageOne, StageTwo, IsPresent, rows_in}
use Rattle.nf_simplex.specs.Standing.{Standing, HasColumn, IsStateOf, MayStandIn, column_in, lower_in, place_at, upper_in}
use Rattle.nf_simplex.proofs.StageOf.{by_columns}
use Rattle.nf_simplex.proofs.Standings.{may_not_absent}
use Rattle.nf_basis.specs.Kept.{Kept}
use Rattle.nf_basis.specs.Loading.{with_places}
use Rattle.nf_basis.specs.Names.{place_of}
use Rattle.nf_basis.specs.declared.col.Place.{Place}
use Rattle.nf_saved.specs.declared.fault.SavedArtificial.{SavedArtificial}
use Rattle.nf_warm.specs.Standing.{HasPlace, HasPlaces, HasSigns, standing_of}

-- ---- present or not
kinds : (k : RowKind) → (k ≡ Eq) ⊎ (k ≢ Eq)
kinds Eq = inl refl
kinds Le = inr (λ e. cc)
kinds Ge = inr (λ e. cc)

abbrev Decided : LinearProgram → StageNumber → Col → Type 0
Decided p n c = IsPresent (layout_of p) n c ⊎ (IsPresent (layout_of p) n c → ⊥)

pub decided : (p : LinearProgram) (n : StageNumber) (j : ℕ) → j < all_columns (layout_of p) → Decided p n (column_in p j)
decided p n j h = by_columns (layout_of p) (Decided p n) (given n) (slack n) (artificial n) j h
  where
    given : (n : StageNumber) (j : ℕ) → j < length p.columns → Decided p n (Given j)
    given StageOne j h = of (cases_lt j p.arcs)
      where
        of : (j < p.arcs) ⊎ (p.arcs ≤ j) → Decided p StageOne (Given j)
        of (inl l) = inl l
        of (inr m) = inr (λ l. omega (arith, l, m))
    given StageTwo j h = inl h

    slack : (n : StageNumber) (q : ℕ) → q < (layout_of p).sides → Decided p n (Slack (p.nodes + q))
    slack StageOne q h = inr (λ z. z)
    slack StageTwo q h = of (kinds ((layout_of p).kind (p.nodes + q)))
      where
        of : ((layout_of p).kind (p.nodes + q) ≡ Eq) ⊎ ((layout_of p).kind (p.nodes + q) ≢ Eq) → Decided p StageTwo (Slack (p.nodes + q))
        of (inl e) = inr (λ g. g.2 e)
        of (inr e) = inl (omega arith, omega (arith, h), e)

    artificial : (n : StageNumber) (i : ℕ) → i < p.nodes + (layout_of p).sides → Decided p n (Artificial i)
    artificial StageOne i h = of (cases_lt i p.nodes)
      where
        of : (i < p.nodes) ⊎ (p.nodes ≤ i) → Decided p StageOne (Artificial i)
        of (inl l) = inl l
        of (inr m) = inr (λ l. omega (arith, l, m))
    artificial StageTwo i h = inl h

-- A column that is not absent is of the stage, and may stand where it stands.
pub stands : (p : LinearProgram) (s : Standing) → IsStateOf p s → (j : ℕ) → j < all_columns (layout_of p) → place_at s j ≢ model.Absent → HasColumn p s (column_in p j) × MayStandIn (lower_in p (column_in p j)) (upper_in p (column_in p j)) (place_at s j)
stands p s st j h there = of (decided p s.stage j h)
  where
    of : Decided p s.stage (column_in p j) → HasColumn p s (column_in p j) × MayStandIn (lower_in p (column_in p j)) (upper_in p (column_in p j)) (place_at s j)
    of (inl g) = (g, (st.fits j h).present g)
    of (inr n) = absurd (there ((st.fits j h).absent n))

-- One that is absent is not, and so it is absent in each state of the stage.
pub absent-too : (p : LinearProgram) (s t : Standing) → s.stage ≡ t.stage → IsStateOf p s → IsStateOf p t → (j : ℕ) → j < all_columns (layout_of p) → place_at s j ≡ model.Absent → place_at t j ≡ model.Absent
absent-too p s t same st tt' j h gone = (tt'.fits j h).absent (λ g. may_not_absent _ _ (place_at s j) ((st.fits j h).present (subst (λ n. IsPresent (layout_of p) n (column_in p j)) (sym same) g)) gone)

-- ---- places that were put
pub placed-more : (p : LinearProgram) (old now new : Kept) (i : ℕ) (places : List Place) (here : model.Place) → HasPlaces p old now i places → HasPlace p now new i here → here ≡ get_or (map place_of places) i model.Absent → HasPlaces p old new (i + 1) places
placed-more p old now new i places here h g e = record {
  state = g.state;
  stage = g.stage ∙ h.stage;
  signs = g.signs ∙ h.signs;
  placed = λ j b. of j (cases_lt j i) b;
}
  where
    of : (j : ℕ) → (j < i) ⊎ (i ≤ j) → j < i + 1 → place_at new.standing j ≡ get_or (map place_of places) j model.Absent
    of j (inl l) b = g.others j (λ z. omega (arith, l, z)) ∙ h.placed j l
    of j (inr m) b = subst (λ k. place_at new.standing k ≡ get_or (map place_of places) k model.Absent) (let z : i ≡ j = omega (arith, m, b) in z) (g.placed ∙ e)

-- ---- the whole state
pub with-fits : (p : LinearProgram) (s t : Standing) (places : List model.Place) → s.stage ≡ t.stage → t.places ≡ places → IsStateOf p s → IsStateOf p t → IsStateOf p (with_places s places)
with-fits p s t places same is st tt' = record {
  one_place_each = ap length (sym is) ∙ tt'.one_place_each;
  one_sign_each = st.one_sign_each;
  fits = λ j h. record {
    present = λ g. subst (λ l. MayStandIn (lower_in p (column_in p j)) (upper_in p (column_in p j)) (get_or l j model.Absent)) is ((tt'.fits j h).present (subst (λ n. IsPresent (layout_of p) n (column_in p j)) same g));
    absent = λ gone. ap (λ l. get_or l j model.Absent) (sym is) ∙ (tt'.fits j h).absent (λ g. gone (subst (λ n. IsPresent (layout_of p) n (column_in p j)) (sym same) g));
  };
}

standing-equal : (t u : Standing) → t.stage ≡ u.stage → t.places ≡ u.places → t.negative ≡ u.negative → t ≡ u
standing-equal t u a b c = λ i. record { stage = a i; places = b i; negative = c i }

pub all-put : (p : LinearProgram) (two : Bool) (places : List Place) (artificials : List SavedArtificial) (old now new : Kept) → old.standing.stage ≡ (standing_of two places artificials).stage → IsStateOf p (standing_of two places artificials)
    → HasPlaces p old now (length places) places → HasSigns p now new (length artificials) artificials → new.standing ≡ standing_of two places artificials
all-put p two places artificials old now new same st h g = standing-equal new.standing (standing_of two places artificials) stage all_places all_signs
  where
    stage : new.standing.stage ≡ (standing_of two places artificials).stage
    stage = g.stage ∙ (h.stage ∙ same)

    all_places : new.standing.places ≡ map place_of places
    all_places =
        g.places
        ∙ ext_get_or model.Absent now.standing.places (map place_of places) (h.state.fits.one_place_each ∙ sym st.one_place_each)
        (λ j b. h.placed j (let e = h.state.fits.one_place_each in let f = st.one_place_each in let m = length-map places place_of in omega (arith, b, e, f, m)))

    all_signs : new.standing.negative ≡ map (λ a. a.negative) artificials
    all_signs =
        ext_get_or false new.standing.negative (map (λ a. a.negative) artificials) many
        (λ r b. g.signed r (let m = length-map artificials (λ a. a.negative) in omega (arith, b, many, m)))
      where
        many : length new.standing.negative ≡ length (map (λ a. a.negative) artificials)
        many = g.state.fits.one_sign_each ∙ (ap (λ n. rows_in (layout_of p) n) stage ∙ sym st.one_sign_each)
