-- The members of a session's queue are read back.
use Rattle.std.proofs.Common.{◌≡◌, ◌≢◌, ◌<◌, ◌≤◌, ◌^◌, ◌-◌, ◌+◌, ◌∷◌, ◌⊎◌, inl, inr, ℕ, zero, suc, Bool, true, false, List, [], length, get_or, take, Some, refl, sym, subst, arith, decimal, le-ltb, lt-ltb}
use Rattle.std.specs.Prelude.{◌==◌, nat_lt}
use Rattle.std.specs.List.{list_any}
use Rattle.std.proofs.lemmas.Bool.{cases_lt, ne_eqb}
use Rattle.nf_model.specs.declared.RowKind.{RowKind}
use Rattle.nf_model.specs.declared.RowKind.TheVariants.{Eq, Le, Ge}
use Rattle.nf_model.specs.Program.{LinearProgram, HoldsBelow, row}
use Rattle.nf_cells.specs.Cells.{value_of}
use Rattle.nf_simplex.specs.Place.{Absent}
use Rattle.nf_simplex.specs.Layout.{layout_of}
use Rattle.nf_simplex.specs.Columns.{Col, Given, Slack, all_columns}
use Rattle.nf_simplex.specs.StageOf.{StageNumber, StageOne, StageTwo, IsPresent}
use Rattle.nf_simplex.specs.Standing.{Standing, column_in, place_at, IsStateOf}
use Rattle.nf_simplex.proofs.StageOf.{column_given, column_slack}
use Rattle.nf_saved.specs.Session.{IsEnteringNumber, count_entering}
use Rattle.nf_saved.specs.Statuses.{given_is_in, has_slack, slack_is_in}
use Rattle.nf_saved.specs.Rows.{enters_in, member_said}
use Rattle.nf_saved.proofs.ValueFacts.{count-back}
use Rattle.nf_saved.proofs.PlaceFacts.{not-less}

-- ---- present columns
-- What is decided is true if it cannot be false.
pub must-be : (b : Bool) → (b ≡ false → ⊥) → b ≡ true
must-be true h = refl
must-be false h = absurd (h refl)

module _ (p : LinearProgram) (s : Standing) (st : IsStateOf p s) where
  -- A column that is not absent is of the stage.
  absent-else : (j : ℕ) (c : Col) → j < all_columns (layout_of p) → column_in p j ≡ c → place_at s j ≢ Absent → (IsPresent (layout_of p) s.stage c → ⊥) → ⊥
  absent-else j c h same there gone = there ((st.fits j h).absent (λ g. gone (subst (IsPresent (layout_of p) s.stage) same g)))

  given-there : (stage : StageNumber) → s.stage ≡ stage → (j : ℕ) → j < length p.columns → place_at s j ≢ Absent → given_is_in p stage j ≡ true
  given-there StageOne e j h there = must-be (nat_lt j p.arcs) (λ f. absent-else j (Given j) (omega (arith, h)) (column_given (layout_of p) j h) there (λ g. not-less j p.arcs f (subst (λ n. IsPresent (layout_of p) n (Given j)) e g)))
  given-there StageTwo e j h there = refl

  eq-or-slack : (k : RowKind) → has_slack k ≡ false → k ≡ Eq
  eq-or-slack Eq h = refl
  eq-or-slack Le h = let e : true ≡ false = h in cc
  eq-or-slack Ge h = let e : true ≡ false = h in cc

  slack-there : (stage : StageNumber) → s.stage ≡ stage → (q : ℕ) → q < (layout_of p).sides → place_at s (length p.columns + q) ≢ Absent → slack_is_in p stage (p.nodes + q) ≡ true
  slack-there StageOne e q h there = absurd (absent-else (length p.columns + q) (Slack (p.nodes + q)) (omega (arith, h)) (column_slack (layout_of p) q h) there (λ g. subst (λ n. IsPresent (layout_of p) n (Slack (p.nodes + q))) e g))
  slack-there StageTwo e q h there =
      must-be (has_slack (row p (p.nodes + q)).kind) (λ f. absent-else (length p.columns + q) (Slack (p.nodes + q)) (omega (arith, h)) (column_slack (layout_of p) q h) there
      (λ g. (subst (λ n. IsPresent (layout_of p) n (Slack (p.nodes + q))) e g).2 (eq-or-slack (row p (p.nodes + q)).kind f)))

  pub enters-there : (j : ℕ) → j < count_entering p → place_at s j ≢ Absent → enters_in p s.stage j ≡ true
  enters-there j h there = of (cases_lt j (length p.columns))
    where
      of : (j < length p.columns) ⊎ (length p.columns ≤ j) → enters_in p s.stage j ≡ true
      of (inl l) = rw (lt-ltb j (length p.columns) l) (given-there s.stage refl j l there)
      of (inr m) = rw (le-ltb j (length p.columns) m)
          (slack-there s.stage refl (j - length p.columns) (omega (arith, h, m)) (subst (λ i. place_at s i ≢ Absent) (let e : j ≡ length p.columns + (j - length p.columns) = omega (arith, m) in e) there))

-- ---- members of the queue
none-of : (n : ℕ) (xs : List ℕ) → ((i : ℕ) → i < length xs → get_or xs i 0 ≢ n) → list_any (λ m. m == n) xs ≡ false
none-of n [] h = refl
none-of n (x ∷ xs) h = rw (ne_eqb x n (h 0 (omega arith))) (none-of n xs (λ i b. h (suc i) (omega (arith, b))))

length-taken : (j : ℕ) (js : List ℕ) → length (take j js) ≤ j
length-taken zero js = omega arith
length-taken (suc j) [] = omega arith
length-taken (suc j) (x ∷ js) = let h : length (take j js) ≤ j = length-taken j js in omega (arith, h)

get-taken : (j : ℕ) (js : List ℕ) (i : ℕ) → i < j → get_or (take j js) i 0 ≡ get_or js i 0
get-taken zero js i h = absurd (omega (arith, h))
get-taken (suc j) [] i h = refl
get-taken (suc j) (x ∷ js) zero h = refl
get-taken (suc j) (x ∷ js) (suc i) h = get-taken j js i (omega (arith, h))

pub member-back : (p : LinearProgram) (s : Standing) → IsStateOf p s → count_entering p < 10 ^ 64 → (js : List ℕ)
    → HoldsBelow (length js) (λ k. IsEnteringNumber p s (get_or js k 0))
    → ((i k : ℕ) → i < k → k < length js → get_or js i 0 ≢ get_or js k 0)
    → (j : ℕ) → j < length js → member_said p s.stage (take j js) (value_of (decimal (get_or js j 0))) ≡ Some (get_or js j 0)
unfolding member_said
member-back p s st few js entering once j h =
    let e = entering j h in
    let w = e.within in
    let c = e.counted in
    rw (
      count-back 1 (count_entering p) (get_or js j 0) (omega (arith, c)) w (omega (arith, w, few)),
      enters-there p s st (get_or js j 0 - 1) (omega (arith, c, w)) e.present,
      none-of (get_or js j 0) (take j js) (λ i b. let l : i < j = let t = length-taken j js in omega (arith, b, t) in subst (λ x. x ≢ get_or js j 0) (sym (get-taken j js i l)) (once i j l h)),
    ) refl
