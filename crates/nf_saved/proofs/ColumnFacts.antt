-- The places that are read, by number: the given columns, then the slacks of side rows, then the artificials.
use Rattle.std.proofs.Common.{◌≡◌, ◌∙◌, ◌<◌, ◌≤◌, ◌-◌, ◌+◌, ◌++◌, ◌⊎◌, inl, inr, ℕ, false, List, length, map, get_or, drop, replicate, refl, ap, ap₂, sym, subst, arith, length-append, le-ltb}
use Rattle.std.specs.Prelude.{if◌then◌else◌}
use Rattle.std.specs.List.{range_with_len}
use Rattle.std.proofs.lemmas.Bool.{cases_lt}
use Rattle.std.proofs.lemmas.List.{ext_get_or, get_or-drop, get_or-map, get_or-replicate, get_or_append_left, length-drop, length-map, length-replicate}
use Rattle.std.proofs.lemmas.List.FromFn.{get_or-map-range_with_len}
use Rattle.nf_model.specs.Program.{LinearProgram}
use Rattle.nf_model.specs.Problem.{IsProblem}
use Rattle.nf_simplex.specs.Place as model
use Rattle.nf_simplex.specs.Layout.{layout_of}
use Rattle.nf_simplex.specs.Columns.{Col, Given, Slack, Artificial, all_columns, number_of}
use Rattle.nf_simplex.specs.StageOf.{StageNumber, StageOne, StageTwo, IsPresent, rows_in}
use Rattle.nf_simplex.specs.Standing.{Standing, column_in, is_negative, place_at, place_of, rows_of, IsStateOf}
use Rattle.nf_simplex.proofs.StageOf.{by_columns, column_artificial}
use Rattle.nf_simplex.proofs.Numbered.{number_col}
use Rattle.nf_basis.specs.declared.col.Place.{Place}
use Rattle.nf_basis.specs.declared.col.Place.TheVariants.{Lower, Basic, Absent}
use Rattle.nf_basis.specs.Names as names
use Rattle.nf_saved.specs.declared.fault.SavedArtificial.{SavedArtificial}
use Rattle.nf_saved.specs.Values.{artificial}
use Rattle.nf_saved.specs.Rows.{Recorded}
use Rattle.nf_saved.specs.Reading.{artificial_place, places_read, standing_read}
use Rattle.nf_saved.proofs.ListFacts.{get-behind, length-numbered, numbered-same}
use Rattle.nf_saved.proofs.ValueFacts.{is_basic, named, of-named}
use Rattle.nf_saved.proofs.RowFacts.{artificial_of, artificials_of}
use Rattle.nf_saved.proofs.PlaceFacts.{absent-there, artificial-stands, may-stand, slack_of}

pub no_artificial : SavedArtificial
no_artificial = artificial false false

-- ---- by number
module _ (p : LinearProgram) (columns slacks : List Place) (artificials : List SavedArtificial)
    (within : p.nodes ≤ length p.rows) (many_columns : length columns ≡ length p.columns) (many_slacks : length slacks ≡ length p.rows) (few : length artificials ≤ length p.rows) where
  sides : List Place
  sides = drop p.nodes slacks

  rest : List Place
  rest = map artificial_place artificials ++ replicate (length p.rows - length artificials) Absent

  many_sides : length (drop p.nodes slacks) ≡ length p.rows - p.nodes
  many_sides = length-drop p.nodes slacks ∙ ap (λ n. n - p.nodes) many_slacks

  many_rest : length (map artificial_place artificials ++ replicate (length p.rows - length artificials) Absent) ≡ length p.rows
  many_rest =
      length-append (map artificial_place artificials) (replicate (length p.rows - length artificials) Absent)
      ∙ (ap₂ (λ a b. a + b) (length-map artificials artificial_place) (length-replicate (length p.rows - length artificials) Absent)
      ∙ (let e : length artificials + (length p.rows - length artificials) ≡ length p.rows = omega (arith, few) in e))

  pub all-places : length (places_read p columns slacks artificials) ≡ all_columns (layout_of p)
  unfolding rest
  all-places =
      length-append columns (drop p.nodes slacks ++ rest)
      ∙ (ap₂ (λ a b. a + b) many_columns (length-append (drop p.nodes slacks) rest ∙ ap₂ (λ a b. a + b) many_sides many_rest)
      ∙ (let e : length p.columns + (length p.rows - p.nodes + length p.rows) ≡ length p.columns + (length p.rows - p.nodes) + (p.nodes + (length p.rows - p.nodes)) = omega (arith, within) in e))

  pub place-given : (j : ℕ) → j < length p.columns → get_or (places_read p columns slacks artificials) j Absent ≡ get_or columns j Absent
  unfolding rest
  place-given j h = get_or_append_left columns (drop p.nodes slacks ++ rest) Absent j (omega (arith, h, many_columns))

  past-given : (j : ℕ) → get_or (places_read p columns slacks artificials) (length p.columns + j) Absent ≡ get_or (drop p.nodes slacks ++ rest) j Absent
  unfolding rest
  past-given j = ap (λ n. get_or (columns ++ (drop p.nodes slacks ++ rest)) (n + j) Absent) (sym many_columns) ∙ get-behind columns (drop p.nodes slacks ++ rest) j Absent

  pub place-slack : (q : ℕ) → q < length p.rows - p.nodes → get_or (places_read p columns slacks artificials) (length p.columns + q) Absent ≡ get_or slacks (p.nodes + q) Absent
  place-slack q h = past-given q ∙ (get_or_append_left (drop p.nodes slacks) rest Absent q (omega (arith, h, many_sides)) ∙ get_or-drop p.nodes slacks q Absent)

  past-slacks : (i : ℕ) → get_or (places_read p columns slacks artificials) (length p.columns + (length p.rows - p.nodes) + i) Absent ≡ get_or rest i Absent
  unfolding rest
  past-slacks i =
      ap (λ n. get_or (places_read p columns slacks artificials) n Absent) (let e : length p.columns + (length p.rows - p.nodes) + i ≡ length p.columns + (length p.rows - p.nodes + i) = omega arith in e)
      ∙ (past-given (length p.rows - p.nodes + i)
      ∙ (ap (λ n. get_or (drop p.nodes slacks ++ rest) (n + i) Absent) (sym many_sides)
      ∙ get-behind (drop p.nodes slacks) rest i Absent))

  pub place-artificial : (i : ℕ) → i < length artificials → get_or (places_read p columns slacks artificials) (length p.columns + (length p.rows - p.nodes) + i) Absent ≡ artificial_place (get_or artificials i no_artificial)
  unfolding rest
  place-artificial i h =
      past-slacks i
      ∙ (get_or_append_left (map artificial_place artificials) (replicate (length p.rows - length artificials) Absent) Absent i (subst (λ n. i < n) (sym (length-map artificials artificial_place)) h)
      ∙ get_or-map artificial_place artificials i no_artificial Absent h)

  pub place-lacked : (i : ℕ) → length artificials ≤ i → i < length p.rows → get_or (places_read p columns slacks artificials) (length p.columns + (length p.rows - p.nodes) + i) Absent ≡ Absent
  unfolding rest
  place-lacked i l h =
      past-slacks i
      ∙ (ap (λ n. get_or rest n Absent) (let e : i ≡ length artificials + (i - length artificials) = omega (arith, l) in e)
      ∙ (ap (λ n. get_or rest (n + (i - length artificials)) Absent) (sym (length-map artificials artificial_place))
      ∙ (get-behind (map artificial_place artificials) (replicate (length p.rows - length artificials) Absent) (i - length artificials) Absent
      ∙ get_or-replicate (length p.rows - length artificials) (i - length artificials) Absent Absent (omega (arith, l, h)))))

  -- Where the column with a number stands.
  pub stands-at : (r : Recorded) → r.artificials ≡ artificials → (j : ℕ) → j < all_columns (layout_of p) → place_at (standing_read p r columns slacks) j ≡ names.place_of (get_or (places_read p columns slacks artificials) j Absent)
  stands-at r same j h =
      ap (λ l. place_at (record { stage = r.stage; places = map names.place_of (places_read p columns slacks l); negative = map (λ a. a.negative) r.artificials }) j) same
      ∙ get_or-map names.place_of (places_read p columns slacks artificials) j Absent model.Absent (subst (λ n. j < n) (sym all-places) h)

-- ---- the state that was saved
pub few-rows : (p : LinearProgram) → p.nodes ≤ length p.rows → (stage : StageNumber) → rows_in (layout_of p) stage ≤ length p.rows
few-rows p h StageOne = h
few-rows p h StageTwo = omega (arith, h)

module _ (p : LinearProgram) (s : Standing) (ok : IsProblem p) (st : IsStateOf p s) where
  unfoldable pub columns_of : List Place
  columns_of = map (λ j. named (place_at s j)) (range_with_len 0 (length p.columns))

  unfoldable pub slacks_of : List Place
  slacks_of = map (λ i. named (slack_of p s st i)) (range_with_len 0 (length p.rows))

  places : List Place
  places = places_read p columns_of slacks_of (artificials_of p s (rows_of p s))

  many_artificials : length (artificials_of p s (rows_of p s)) ≡ rows_of p s
  many_artificials = length-numbered (artificial_of p s) 0 (rows_of p s)

  fewer : length (artificials_of p s (rows_of p s)) ≤ length p.rows
  fewer = subst (λ n. n ≤ length p.rows) (sym many_artificials) (few-rows p ok.nodes_within s.stage)

  many_columns : length columns_of ≡ length p.columns
  unfolding columns_of
  many_columns = length-numbered (λ j. named (place_at s j)) 0 (length p.columns)

  many_slacks : length slacks_of ≡ length p.rows
  unfolding slacks_of
  many_slacks = length-numbered (λ i. named (slack_of p s st i)) 0 (length p.rows)

  pub places-many : length (places_read p columns_of slacks_of (artificials_of p s (rows_of p s))) ≡ all_columns (layout_of p)
  places-many = all-places p columns_of slacks_of (artificials_of p s (rows_of p s)) ok.nodes_within many_columns many_slacks fewer

  -- The name of the place of each column.
  given-same : (j : ℕ) → j < length p.columns → names.place_of (get_or (places_read p columns_of slacks_of (artificials_of p s (rows_of p s))) j Absent) ≡ place_of p s (Given j)
  unfolding columns_of
  given-same j h =
      ap names.place_of
      (place-given p columns_of slacks_of (artificials_of p s (rows_of p s)) ok.nodes_within many_columns many_slacks fewer j h
      ∙ get_or-map-range_with_len (λ j. named (place_at s j)) 0 (length p.columns) j j Absent h (omega arith))
      ∙ of-named (place_at s j)

  slack-same : (q : ℕ) → q < (layout_of p).sides → names.place_of (get_or (places_read p columns_of slacks_of (artificials_of p s (rows_of p s))) (length p.columns + q) Absent) ≡ place_of p s (Slack (p.nodes + q))
  unfolding slacks_of slack_of
  slack-same q h =
      ap names.place_of
      (place-slack p columns_of slacks_of (artificials_of p s (rows_of p s)) ok.nodes_within many_columns many_slacks fewer q h
      ∙ get_or-map-range_with_len (λ i. named (slack_of p s st i)) 0 (length p.rows) (p.nodes + q) (p.nodes + q) Absent (omega (arith, h)) (omega arith))
      ∙ (of-named (slack_of p s st (p.nodes + q)) ∙ ap (λ b. if b then model.Absent else place_of p s (Slack (p.nodes + q))) (le-ltb (p.nodes + q) p.nodes (omega arith)))

  basic-place : (a : model.Place) → (a ≡ model.Basic) ⊎ (a ≡ model.Lower) → names.place_of (if is_basic a then Basic else Lower) ≡ a
  basic-place a (inl e) = rw e refl
  basic-place a (inr e) = rw e refl

  artificial-same : (i : ℕ) → i < p.nodes + (layout_of p).sides → names.place_of (get_or (places_read p columns_of slacks_of (artificials_of p s (rows_of p s))) (length p.columns + (layout_of p).sides + i) Absent) ≡ place_of p s (Artificial i)
  artificial-same i h = of (cases_lt i (rows_of p s))
    where
      at : column_in p (length p.columns + (layout_of p).sides + i) ≡ Artificial i
      at = column_artificial (layout_of p) i

      there : (stage : StageNumber) → i < rows_in (layout_of p) stage → IsPresent (layout_of p) stage (Artificial i)
      there StageOne l = l
      there StageTwo l = l

      gone : (stage : StageNumber) → rows_in (layout_of p) stage ≤ i → IsPresent (layout_of p) stage (Artificial i) → ⊥
      gone StageOne m g = omega (arith, m, g)
      gone StageTwo m g = omega (arith, m, g)

      of : (i < rows_of p s) ⊎ (rows_of p s ≤ i) → names.place_of (get_or (places_read p columns_of slacks_of (artificials_of p s (rows_of p s))) (length p.columns + (layout_of p).sides + i) Absent) ≡ place_of p s (Artificial i)
      of (inl l) =
          ap names.place_of
          (place-artificial p columns_of slacks_of (artificials_of p s (rows_of p s)) ok.nodes_within many_columns many_slacks fewer i (subst (λ n. i < n) (sym many_artificials) l)
          ∙ ap artificial_place (get_or-map-range_with_len (artificial_of p s) 0 (rows_of p s) i i no_artificial l (omega arith)))
          ∙ basic-place (place_of p s (Artificial i)) (artificial-stands p s st (place_of p s (Artificial i)) (may-stand p s st (length p.columns + (layout_of p).sides + i) (Artificial i) (omega (arith, h)) at (there s.stage l)))
      of (inr m) =
          ap names.place_of (place-lacked p columns_of slacks_of (artificials_of p s (rows_of p s)) ok.nodes_within many_columns many_slacks fewer i (subst (λ n. n ≤ i) (sym many_artificials) m) (let w = ok.nodes_within in omega (arith, h, w)))
          ∙ sym (absent-there p s st (length p.columns + (layout_of p).sides + i) (Artificial i) (omega (arith, h)) at (gone s.stage m))

  place-same : (j : ℕ) → j < all_columns (layout_of p) → names.place_of (get_or (places_read p columns_of slacks_of (artificials_of p s (rows_of p s))) j Absent) ≡ place_at s j
  place-same j h =
      ap (λ k. names.place_of (get_or (places_read p columns_of slacks_of (artificials_of p s (rows_of p s))) k Absent)) (sym (number_col (layout_of p) j h))
      ∙ (by_columns (layout_of p) (λ c. names.place_of (get_or (places_read p columns_of slacks_of (artificials_of p s (rows_of p s))) (number_of_col c) Absent) ≡ place_of p s c) given-same slack_named artificial-same j h
      ∙ ap (place_at s) (number_col (layout_of p) j h))
    where
      number_of_col : Col → ℕ
      number_of_col c = number_of (layout_of p) c

      slack_named : (q : ℕ) → q < (layout_of p).sides → names.place_of (get_or (places_read p columns_of slacks_of (artificials_of p s (rows_of p s))) (length p.columns + (p.nodes + q - p.nodes)) Absent) ≡ place_of p s (Slack (p.nodes + q))
      slack_named q l = ap (λ k. names.place_of (get_or (places_read p columns_of slacks_of (artificials_of p s (rows_of p s))) (length p.columns + k) Absent)) (let e : p.nodes + q - p.nodes ≡ q = omega arith in e) ∙ slack-same q l

  pub places-same : map names.place_of (places_read p columns_of slacks_of (artificials_of p s (rows_of p s))) ≡ s.places
  places-same =
      ext_get_or model.Absent (map names.place_of (places_read p columns_of slacks_of (artificials_of p s (rows_of p s)))) s.places
      (length-map (places_read p columns_of slacks_of (artificials_of p s (rows_of p s))) names.place_of ∙ (places-many ∙ sym st.one_place_each))
      (λ j h. let w : j < length (places_read p columns_of slacks_of (artificials_of p s (rows_of p s))) = subst (λ n. j < n) (length-map (places_read p columns_of slacks_of (artificials_of p s (rows_of p s))) names.place_of) h in
      get_or-map names.place_of (places_read p columns_of slacks_of (artificials_of p s (rows_of p s))) j Absent model.Absent w ∙ place-same j (subst (λ n. j < n) places-many w))

  pub signs-same : map (λ a. a.negative) (artificials_of p s (rows_of p s)) ≡ s.negative
  signs-same =
      numbered-same (λ a. a.negative) (artificial_of p s) (is_negative s) 0 (rows_of p s) (λ i a b. refl)
      ∙ ext_get_or false (map (is_negative s) (range_with_len 0 (rows_of p s))) s.negative
      (length-numbered (is_negative s) 0 (rows_of p s) ∙ sym st.one_sign_each)
      (λ j h. get_or-map-range_with_len (is_negative s) 0 (rows_of p s) j j false (subst (λ n. j < n) (length-numbered (is_negative s) 0 (rows_of p s)) h) (omega arith))

  standing-equal : (t u : Standing) → t.stage ≡ u.stage → t.places ≡ u.places → t.negative ≡ u.negative → t ≡ u
  standing-equal t u a b c = λ i. record { stage = a i; places = b i; negative = c i }

  -- The state that is read is the one that was saved.
  pub standing-back : (r : Recorded) → r.stage ≡ s.stage → r.artificials ≡ artificials_of p s (rows_of p s) → standing_read p r columns_of slacks_of ≡ s
  standing-back r same artificials =
      standing-equal (standing_read p r columns_of slacks_of) s same
      (ap (λ l. map names.place_of (places_read p columns_of slacks_of l)) artificials ∙ places-same)
      (ap (λ l. map (λ a. a.negative) l) artificials ∙ signs-same)
