-- The first state of stage one is lexicographically feasible: it is the state of no rows, widened by every row.
use Rattle.std.proofs.Common.{◌≡◌, ℕ, zero, suc, ◌+◌, ◌<◌, ◌⊎◌, inl, inr, [], ◌∷◌, refl, sym, ap, ◌∙◌, subst, arith, Some, None}
use Rattle.nf_num.specs.Rational.{ℚ, zero_ℚ, one_ℚ, ◌+ℚ◌, ◌*ℚ◌, neg_ℚ, ◌<ℚ◌}
use Rattle.nf_num.specs.Sum.{sum_ℚ, delta}
use Rattle.nf_simplex.specs.Lex.{IsLexFeasible}
use Rattle.nf_simplex.specs.Numbers.{StandsAt}
use Rattle.nf_simplex.specs.Place.{Place, Absent, Basic, count_basic}
use Rattle.nf_simplex.specs.Stage.{Stage, order}
use Rattle.nf_simplex.proofs.FieldLaws.{mul-one, less_irrefl, less_trans, less_cases}
use Rattle.nf_simplex.proofs.Lex.{neg_positive}
use Rattle.nf_simplex.proofs.Terms.{v, unit, minus, ◌:*◌, ring}
use Rattle.nf_simplex.proofs.Widen.{widened_feasible}

none_basic : (n : ℕ) → count_basic n (λ j. Absent) ≡ 0
none_basic zero = refl
none_basic (suc n) = let a = none_basic n in omega arith

-- Each row has a column of its own, an artificial, and these alone are basic. z has the numbers of the other columns,
-- and an artificial has the sign of its row's rest.
pub record IsStart (S : Stage) (s : ℕ → Place) (own : ℕ → ℕ) (sign z : ℕ → ℚ) : Type 0 where
  pub in_order : (q : ℕ) → q < S.rows → order S q ≡ q
  pub own_there : (q : ℕ) → q < S.rows → own q < S.columns
  pub own_distinct : (q p : ℕ) → q < S.rows → p < S.rows → own q ≡ own p → q ≡ p
  pub own_basic : (q : ℕ) → q < S.rows → s (own q) ≡ Basic
  pub own_entry : (q i : ℕ) → q < S.rows → i < S.rows → S.entry (own q) i ≡ sign q *ℚ delta q i
  pub own_lower : (q : ℕ) → q < S.rows → S.lower (own q) ≡ Some zero_ℚ
  pub own_upper : (q : ℕ) → q < S.rows → S.upper (own q) ≡ None
  pub only : (j : ℕ) → j < S.columns → s j ≡ Basic → (q : ℕ) × (q < S.rows) × (own q ≡ j)
  pub stands : (j : ℕ) → j < S.columns → StandsAt (s j) (S.lower j) (S.upper j) (z j)
  pub own_zero : (q : ℕ) → q < S.rows → z (own q) ≡ zero_ℚ
  pub plus : (q : ℕ) → q < S.rows → (S.right q +ℚ neg_ℚ (sum_ℚ S.columns (λ j. z j *ℚ S.entry j q)) <ℚ zero_ℚ → ⊥) → sign q ≡ one_ℚ
  pub minus_one : (q : ℕ) → q < S.rows → S.right q +ℚ neg_ℚ (sum_ℚ S.columns (λ j. z j *ℚ S.entry j q)) <ℚ zero_ℚ → sign q ≡ neg_ℚ one_ℚ

module _ (S : Stage) (s : ℕ → Place) (own : ℕ → ℕ) (sign z : ℕ → ℚ) (c : IsStart S s own sign z) where
  no_rows : Stage
  no_rows = record {
    rows = 0;
    sides = 0;
    columns = S.columns;
    entering = S.entering;
    entry = S.entry;
    right = S.right;
    lower = S.lower;
    upper = S.upper;
  }

  absent : ℕ → Place
  absent j = Absent

  nothing : IsLexFeasible no_rows absent
  unfolding no_rows absent
  nothing = record {
    basis = record { as_many = none_basic S.columns; independent = λ w of_basics null j h. of_basics j h (λ e. absurd (cc)) };
    values = λ j. zero_ℚ;
    inverse = λ r j. zero_ℚ;
    are_values = record { stands = λ j h. refl; equations = λ i h. absurd (omega arith) };
    are_inverse = λ r h. absurd (omega arith);
    above = λ j h e. absurd (cc);
    under = λ j h e. absurd (cc);
  }

  rest : ℕ → ℚ
  rest q = S.right q +ℚ neg_ℚ (sum_ℚ S.columns (λ j. z j *ℚ S.entry j q))

  -- The state is lexicographically feasible.
  pub start_feasible : IsLexFeasible S s
  unfolding no_rows absent nothing rest
  start_feasible = widened_feasible no_rows S absent s nothing S.rows own sign z record {
    rows = omega arith;
    columns = refl;
    entries = λ j i h m. refl;
    rights = λ i h. refl;
    new_order = λ q h. c.in_order q h ∙ omega arith;
    old_order = λ p h. absurd (omega arith);
    kept = λ j h e. absurd (cc);
    own_there = c.own_there;
    own_distinct = c.own_distinct;
    own_new = λ q h e. absurd (cc);
    own_basic = c.own_basic;
    own_entry = λ q i h m. c.own_entry q i h m ∙ ap (λ r. sign q *ℚ delta r i) (past q);
    own_lower = c.own_lower;
    own_upper = c.own_upper;
    only = λ j h b. inr (c.only j h b);
    stands = c.stands;
    own_zero = c.own_zero;
    old_values = λ j h e. absurd (cc);
    moved_off = λ j h. inr (λ i l. absurd (omega arith));
    square = λ q h. of_square q (less_cases (rest q) zero_ℚ) h;
    signs = λ q h. subst (λ r. (zero_ℚ <ℚ rest r *ℚ sign q) ⊎ ((rest r ≡ zero_ℚ) × (sign q ≡ one_ℚ))) (past q) (of_sign q (less_cases (rest q) zero_ℚ) h);
  }
    where
      past : (q : ℕ) → q ≡ 0 + q
      past q = omega arith

      stays : (q : ℕ) → (rest q ≡ zero_ℚ) ⊎ (zero_ℚ <ℚ rest q) → rest q <ℚ zero_ℚ → ⊥
      stays q (inl e) h = less_irrefl zero_ℚ (subst (λ x. x <ℚ zero_ℚ) e h)
      stays q (inr p) h = less_irrefl zero_ℚ (less_trans zero_ℚ (rest q) zero_ℚ p h)

      of_square : (q : ℕ) → (rest q <ℚ zero_ℚ) ⊎ ((rest q ≡ zero_ℚ) ⊎ (zero_ℚ <ℚ rest q)) → q < S.rows → sign q *ℚ sign q ≡ one_ℚ
      of_square q (inl p) h = ap (λ x. x *ℚ x) (c.minus_one q h p) ∙ ring [] (minus unit :* minus unit) unit refl
      of_square q (inr w) h = ap (λ x. x *ℚ x) (c.plus q h (stays q w)) ∙ mul-one one_ℚ

      of_sign : (q : ℕ) → (rest q <ℚ zero_ℚ) ⊎ ((rest q ≡ zero_ℚ) ⊎ (zero_ℚ <ℚ rest q)) → q < S.rows → (zero_ℚ <ℚ rest q *ℚ sign q) ⊎ ((rest q ≡ zero_ℚ) × (sign q ≡ one_ℚ))
      of_sign q (inl p) h = inl (subst (λ x. zero_ℚ <ℚ x) (ring (rest q ∷ []) (minus (v 0)) (v 0 :* minus unit) refl ∙ ap (λ x. rest q *ℚ x) (sym (c.minus_one q h p))) (neg_positive (rest q) p))
      of_sign q (inr (inl e)) h = inr (e, c.plus q h (stays q (inl e)))
      of_sign q (inr (inr p)) h = inl (subst (λ x. zero_ℚ <ℚ x) (sym (mul-one (rest q)) ∙ ap (λ x. rest q *ℚ x) (sym (c.plus q h (stays q (inr p))))) p)
