-- The rows of a state are read as its places: those of CONIN, and those of DUALIN.
use Rattle.std.proofs.Common.{◌≡◌, ◌≢◌, ◌∙◌, ◌<◌, ◌≤◌, ◌-◌, ◌+◌, ◌⊎◌, inl, inr, ℕ, suc, true, false, length, Option, Some, None, refl, ap, sym, subst, arith, decimal, lt-ltb, le-ltb}
use Rattle.std.specs.Prelude.{nat_lt, if◌then◌else◌}
use Rattle.std.proofs.lemmas.Bool.{cases_Bool, cases_lt}
use Rattle.nf_num.specs.Rational.{ℚ, zero_ℚ}
use Rattle.nf_model.specs.declared.RowKind.{RowKind}
use Rattle.nf_model.specs.declared.RowKind.TheVariants.{Eq, Le, Ge}
use Rattle.nf_model.specs.Program.{LinearProgram, row}
use Rattle.nf_cells.specs.Cells.{value_of}
use Rattle.nf_simplex.specs.Place.{Place, Lower, Upper, Zero, Absent, Basic}
use Rattle.nf_simplex.specs.Layout.{layout_of}
use Rattle.nf_simplex.specs.Columns.{Col, Given, Slack, all_columns}
use Rattle.nf_simplex.specs.StageOf.{StageNumber, StageOne, StageTwo, IsPresent}
use Rattle.nf_simplex.specs.Standing.{Standing, MayStandIn, column_in, lower_in, upper_in, place_at, place_of, IsStateOf}
use Rattle.nf_simplex.proofs.StageOf.{column_given, column_slack}
use Rattle.nf_basis.specs.declared.col.Place.{Place as place_name}
use Rattle.nf_out.specs.Words.{place_word, row_word, side_word}
use Rattle.nf_saved.specs.Values.{place_said}
use Rattle.nf_saved.specs.Statuses.{column_place, given_may, has_slack, if_allowed, is_missing, is_there, may_stand, row_place, side_place, slack_may}
use Rattle.nf_saved.proofs.RowFacts.{same-bytes}
use Rattle.nf_saved.proofs.ValueFacts.{named, place-back}

pub less-of : (i n : ℕ) → nat_lt i n ≡ true → i < n
less-of i n t = of (cases_lt i n)
  where
    of : (i < n) ⊎ (n ≤ i) → i < n
    of (inl l) = l
    of (inr m) = absurd (let e : true ≡ false = sym t ∙ le-ltb i n m in cc)

pub not-less : (i n : ℕ) → nat_lt i n ≡ false → i < n → ⊥
not-less i n f h = let e : true ≡ false = sym (lt-ltb i n h) ∙ f in cc

pub kind-cases : (k : RowKind) → ((k ≡ Eq) × (has_slack k ≡ false)) ⊎ ((k ≢ Eq) × (has_slack k ≡ true))
kind-cases Eq = inl (refl, refl)
kind-cases Le = inr ((λ e. cc), refl)
kind-cases Ge = inr ((λ e. cc), refl)

module _ (p : LinearProgram) (s : Standing) (st : IsStateOf p s) where
  -- A column that the stage has may stand where it stands, and one that it lacks is absent.
  pub may-stand : (j : ℕ) (c : Col) → j < all_columns (layout_of p) → column_in p j ≡ c → IsPresent (layout_of p) s.stage c → MayStandIn (lower_in p c) (upper_in p c) (place_at s j)
  may-stand j c h same there = subst (λ d. MayStandIn (lower_in p d) (upper_in p d) (place_at s j)) same ((st.fits j h).present (subst (IsPresent (layout_of p) s.stage) (sym same) there))

  pub absent-there : (j : ℕ) (c : Col) → j < all_columns (layout_of p) → column_in p j ≡ c → (IsPresent (layout_of p) s.stage c → ⊥) → place_at s j ≡ Absent
  absent-there j c h same gone = (st.fits j h).absent (λ g. gone (subst (IsPresent (layout_of p) s.stage) same g))

  there-is : (o : Option ℚ) → o ≢ None → is_there o ≡ true
  there-is None n = absurd (n refl)
  there-is (Some x) n = refl

  missing-is : (o : Option ℚ) → o ≡ None → is_missing o ≡ true
  missing-is None e = refl
  missing-is (Some x) e = absurd (let h : Some x ≡ None = e in cc)

  may-is : (l u : Option ℚ) (a : Place) → MayStandIn l u a → may_stand l u (named a) ≡ true
  may-is l u Lower h = there-is l h
  may-is l u Upper h = there-is u h
  may-is l u Zero h = rw (missing-is l h.0) (missing-is u h.1)
  may-is l u Absent h = absurd h
  may-is l u Basic h = refl

  slack-is : (a : Place) → MayStandIn (Some zero_ℚ) None a → slack_may (named a) ≡ true
  slack-is Lower h = refl
  slack-is Upper h = absurd (h refl)
  slack-is Zero h = absurd (let e : Some zero_ℚ ≡ None = h.0 in cc)
  slack-is Absent h = absurd h
  slack-is Basic h = refl

  pub artificial-stands : (a : Place) → MayStandIn (Some zero_ℚ) None a → (a ≡ Basic) ⊎ (a ≡ Lower)
  artificial-stands Lower h = inr refl
  artificial-stands Upper h = absurd (h refl)
  artificial-stands Zero h = absurd (let e : Some zero_ℚ ≡ None = h.0 in cc)
  artificial-stands Absent h = absurd h
  artificial-stands Basic h = inl refl

  -- ---- CONIN
  given-fits : (j : ℕ) → j < length p.columns → given_may p s.stage j (named (place_at s j)) ≡ true
  given-fits j h = of s.stage refl (cases_Bool (nat_lt j p.arcs))
    where
      same : column_in p j ≡ Given j
      same = column_given (layout_of p) j h

      of : (stage : StageNumber) → s.stage ≡ stage → (nat_lt j p.arcs ≡ true) ⊎ (nat_lt j p.arcs ≡ false) → given_may p stage j (named (place_at s j)) ≡ true
      of StageOne e (inl t) = rw t (may-is _ _ (place_at s j) (may-stand j (Given j) (omega (arith, h)) same (subst (λ n. IsPresent (layout_of p) n (Given j)) (sym e) (less-of j p.arcs t))))
      of StageOne e (inr f) = rw (f, absent-there j (Given j) (omega (arith, h)) same (λ g. not-less j p.arcs f (subst (λ n. IsPresent (layout_of p) n (Given j)) e g))) refl
      of StageTwo e x = may-is _ _ (place_at s j) (may-stand j (Given j) (omega (arith, h)) same (subst (λ n. IsPresent (layout_of p) n (Given j)) (sym e) h))

  -- Row j of CONIN gives the place of column j.
  pub column-back : (j : ℕ) → j < length p.columns → column_place p s.stage j (record { status = value_of (place_word (place_at s j)); number = decimal (suc j) }) ≡ Some (named (place_at s j))
  unfolding column_place
  column-back j h = rw (same-bytes (decimal (suc j)), place-back (place_at s j), given-fits j h) refl

  -- ---- DUALIN
  pub slack-place : (q : ℕ) → place_of p s (Slack (p.nodes + q)) ≡ place_at s (length p.columns + q)
  slack-place q = ap (place_at s) (let e : length p.columns + (p.nodes + q - p.nodes) ≡ length p.columns + q = omega arith in e)

  -- The place that a row gives: that of its slack, and for a node none.
  unfoldable pub slack_of : ℕ → Place
  slack_of i = if nat_lt i p.nodes then Absent else place_of p s (Slack i)

  -- A slack that the stage lacks is absent.
  lacked : (q : ℕ) → q < (layout_of p).sides → (IsPresent (layout_of p) s.stage (Slack (p.nodes + q)) → ⊥) → place_of p s (Slack (p.nodes + q)) ≡ Absent
  lacked q h gone = slack-place q ∙ absent-there (length p.columns + q) (Slack (p.nodes + q)) (omega (arith, h)) (column_slack (layout_of p) q h) gone

  side-back : (q : ℕ) → q < (layout_of p).sides → side_place p s.stage (p.nodes + q) (value_of (side_word s.stage (row p (p.nodes + q)).kind (place_of p s (Slack (p.nodes + q))))) ≡ Some (named (place_of p s (Slack (p.nodes + q))))
  side-back q h = of s.stage refl (kind-cases (row p (p.nodes + q)).kind)
    where
      of : (stage : StageNumber) → s.stage ≡ stage → (((row p (p.nodes + q)).kind ≡ Eq) × (has_slack (row p (p.nodes + q)).kind ≡ false)) ⊎ (((row p (p.nodes + q)).kind ≢ Eq) × (has_slack (row p (p.nodes + q)).kind ≡ true))
          → side_place p stage (p.nodes + q) (value_of (side_word stage (row p (p.nodes + q)).kind (place_of p s (Slack (p.nodes + q))))) ≡ Some (named (place_of p s (Slack (p.nodes + q))))
      of StageOne e x = rw (place-back Absent, lacked q h (λ g. subst (λ n. IsPresent (layout_of p) n (Slack (p.nodes + q))) e g)) refl
      of StageTwo e (inl x) = rw (x.0, lacked q h (λ g. (subst (λ n. IsPresent (layout_of p) n (Slack (p.nodes + q))) e g).2 x.0)) refl
      of StageTwo e (inr x) = slack-said (row p (p.nodes + q)).kind _ x.1
          (slack-is (place_of p s (Slack (p.nodes + q))) (subst (MayStandIn (Some zero_ℚ) None) (sym (slack-place q)) (may-stand (length p.columns + q) (Slack (p.nodes + q)) (omega (arith, h)) (column_slack (layout_of p) q h) (subst (λ n. IsPresent (layout_of p) n (Slack (p.nodes + q))) (sym e) (omega arith, omega (arith, h), x.0)))))
        where
          slack-said : (k : RowKind) (other : Option place_name) → has_slack k ≡ true → slack_may (named (place_of p s (Slack (p.nodes + q)))) ≡ true
              → (if has_slack k then if_allowed slack_may (place_said (value_of (side_word StageTwo k (place_of p s (Slack (p.nodes + q)))))) else other) ≡ Some (named (place_of p s (Slack (p.nodes + q))))
          slack-said Eq other t g = absurd (let z : false ≡ true = t in cc)
          slack-said Le other t g = rw (place-back (place_of p s (Slack (p.nodes + q))), g) refl
          slack-said Ge other t g = rw (place-back (place_of p s (Slack (p.nodes + q))), g) refl

  -- Row i of DUALIN gives it.
  pub row-back : (i : ℕ) → i < p.nodes + (layout_of p).sides → row_place p s.stage i (value_of (row_word p s i)) ≡ Some (named (slack_of i))
  unfolding row_place slack_of
  row-back i h = of (cases_lt i p.nodes)
    where
      of : (i < p.nodes) ⊎ (p.nodes ≤ i) → row_place p s.stage i (value_of (row_word p s i)) ≡ Some (named (slack_of i))
      of (inl l) = rw (lt-ltb i p.nodes l) refl
      of (inr m) = rw (le-ltb i p.nodes m)
          (subst (λ k. side_place p s.stage k (value_of (side_word s.stage (row p k).kind (place_of p s (Slack k)))) ≡ Some (named (place_of p s (Slack k)))) (let e : p.nodes + (i - p.nodes) ≡ i = omega (arith, m) in e)
          (side-back (i - p.nodes) (omega (arith, h, m))))
