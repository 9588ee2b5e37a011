-- The ratio test: of the columns that bound the step, and the flip, the one with the least vector gives the next state.
use Rattle.std.proofs.Common.{◌≡◌, ◌≢◌, ℕ, zero, suc, ◌<◌, ◌⊎◌, inl, inr, Bool, true, false, [], ◌∷◌, refl, sym, ap, ap₂, ◌∙◌, subst, subst₂, arith, Option, Some, None}
use Rattle.nf_num.specs.Rational.{ℚ, zero_ℚ, one_ℚ, ◌+ℚ◌, ◌*ℚ◌, neg_ℚ, inv_ℚ, ◌<ℚ◌}
use Rattle.nf_num.specs.Sum.{sum_ℚ, delta}
use Rattle.nf_simplex.specs.Lex.{vector, IsLexPositive, IsLexLess, bound_vector, IsAbove, IsUnder, IsLexFeasible}
use Rattle.nf_simplex.specs.Numbers.{StandsAt, Gives, IsIndependent}
use Rattle.nf_simplex.specs.Place.{Place, Lower, Upper, Zero, Absent, Basic, IsOtherBound, one_if_basic}
use Rattle.nf_simplex.specs.Stage.{Stage, order}
use Rattle.nf_simplex.specs.Step.{IsFlip, IsExchange, signed, CanEnter, IsNext}
use Rattle.nf_simplex.proofs.Basis.{sum_move, basic_or_not, weights_by_inverse, left_inverse}
use Rattle.nf_simplex.proofs.Count.{exchanged_basis, count_same, not_basic_none}
use Rattle.nf_simplex.proofs.Exchange.{IsDirection, direction, bound_not_basic, divide_times, stays_independent, brought, new_weights, new_values}
use Rattle.nf_simplex.proofs.FieldLaws.{add-zero, mul_assoc, mul-one, mul-inverse, one-positive}
use Rattle.nf_simplex.proofs.Lex.{lex_ext, lex_zero, lex_add, lex_scale, lex_not_both, lex_cases, beyond, slope_negative, sign_cases, inverse-positive, not_zero}
use Rattle.nf_simplex.proofs.Next.{bound_place, bound_of, members, members_at, at_lower, at_upper, at_zero, stands_at, rate, is_inside_lower, is_inside_upper, e_apart, basic_apart, signed_zero, signed_step, other_not_basic, far, far_positive, travel, Hit, hit, in_play, inside_or_there}
use Rattle.nf_simplex.proofs.Orders.{order_onto}
use Rattle.nf_simplex.proofs.Sum.{by_one, neg-zero, equal_or_not, difference_zero, sum_ext, sum_zero, sum_scale, unit_same, unit_other}
use Rattle.nf_simplex.proofs.Terms.{v, nought, unit, minus, ◌:+◌, ◌:*◌, ◌:-◌, ring, mul-zero, zero-mul, one-mul}

module _ (S : Stage) (s : ℕ → Place) (fs : IsLexFeasible S s) (e : ℕ) (down : Bool) (c : CanEnter S s e down) where
  abbrev pub speed : ℕ → ℚ
  speed j = rate S s fs e down c j

  abbrev pub X : ℕ → ℕ → ℚ
  X j k = members S fs j k

  -- A basic column that moves towards a bound, and the vector of the step at which it meets it.
  pub record IsBlock (j : ℕ) (up : Bool) (b : ℚ) (R : ℕ → ℚ) : Type 0 where
    pub there : j < S.columns
    pub basic : s j ≡ Basic
    pub is_bound : bound_of S up j ≡ Some b
    pub moves : zero_ℚ <ℚ neg_ℚ (signed up (speed j))
    pub ratio : (k : ℕ) → k < suc S.rows → R k *ℚ speed j ≡ bound_vector b k +ℚ neg_ℚ (X j k)

  -- The entering column's own two bounds.
  pub record IsSpan (R : ℕ → ℚ) : Type 0 where
    pub low : ℚ
    pub high : ℚ
    pub is_low : S.lower e ≡ Some low
    pub is_high : S.upper e ≡ Some high
    pub ratio : (k : ℕ) → k < suc S.rows → R k ≡ bound_vector high k +ℚ neg_ℚ (bound_vector low k)

  abbrev pub IsStep : (ℕ → ℚ) → Type 0
  IsStep R = ((j : ℕ) × (up : Bool) × (b : ℚ) × IsBlock j up b R) ⊎ IsSpan R

  -- No step is less.
  abbrev pub IsLeast : (ℕ → ℚ) → Type 0
  IsLeast R = (Q : ℕ → ℚ) → IsStep Q → IsLexLess (suc S.rows) Q R → ⊥

  d : ℕ → ℚ
  d j = delta e j +ℚ neg_ℚ (sum_ℚ S.rows (λ r. S.entry e r *ℚ fs.inverse r j))

  dir : IsDirection S s e d
  unfolding d
  dir = direction S s e (λ q. sum_ℚ S.rows (λ r. S.entry e r *ℚ fs.inverse r q)) c.there c.nonbasic (weights_by_inverse S s fs.inverse fs.are_inverse (S.entry e))

  speed-is : (j : ℕ) → speed j ≡ signed down (d j)
  unfolding d rate
  speed-is j = refl

  speed-not-zero : (up : Bool) (j : ℕ) → zero_ℚ <ℚ neg_ℚ (signed up (speed j)) → speed j ≢ zero_ℚ
  speed-not-zero up j h z = not_zero (neg_ℚ (signed up (speed j))) h (ap (λ y. neg_ℚ (signed up y)) z ∙ of up)
    where
      of : (b : Bool) → neg_ℚ (signed b zero_ℚ) ≡ zero_ℚ
      of false = neg-zero
      of true = ring [] (minus (minus nought)) nought refl

  -- Two columns do not meet their bounds in one step, for then rows of the inverse would be dependent.
  pub no_tie : (j i : ℕ) (up on : Bool) (a b : ℚ) (R : ℕ → ℚ) → j ≢ i → IsBlock j up a R → IsBlock i on b R → ⊥
  no_tie j i up on a b R ne p q =
      speed-not-zero on i q.moves
      (sym (one-mul (speed i)) ∙ (ap (λ y. y *ℚ speed i) (sym (unit_same j) ∙ sym (left_inverse S s fs.inverse fs.basis.independent fs.are_inverse j p.there p.basic j p.there))
      ∙ (sym (sum_scale S.rows (λ r. S.entry j r *ℚ fs.inverse r j) (speed i))
      ∙ (sum_ext S.rows (λ r. (S.entry j r *ℚ fs.inverse r j) *ℚ speed i) (λ r. (S.entry j r *ℚ fs.inverse r i) *ℚ speed j) (λ r h. mul_assoc _ _ _ ∙ (ap (λ y. S.entry j r *ℚ y) (cross r h) ∙ sym (mul_assoc _ _ _)))
      ∙ (sum_scale S.rows (λ r. S.entry j r *ℚ fs.inverse r i) (speed j)
      ∙ (ap (λ y. y *ℚ speed j) (left_inverse S s fs.inverse fs.basis.independent fs.are_inverse j p.there p.basic i q.there ∙ unit_other j i ne) ∙ zero-mul (speed j)))))))
    where
      cross : (r : ℕ) → r < S.rows → fs.inverse r j *ℚ speed i ≡ fs.inverse r i *ℚ speed j
      cross r h =
          let (k, m, w) = order_onto S r h in
          subst (λ z. fs.inverse z j *ℚ speed i ≡ fs.inverse z i *ℚ speed j) w
          (by_one _ _ ((zero_ℚ +ℚ neg_ℚ (fs.inverse (order S k) i)) *ℚ speed j +ℚ (R (suc k) *ℚ speed j) *ℚ speed i) ((R (suc k) *ℚ speed i) *ℚ speed j +ℚ (zero_ℚ +ℚ neg_ℚ (fs.inverse (order S k) j)) *ℚ speed i)
          (ap₂ (λ x y. x *ℚ speed j +ℚ y *ℚ speed i) (sym (q.ratio (suc k) (omega arith))) (p.ratio (suc k) (omega arith)))
          (ring (R (suc k) ∷ speed i ∷ speed j ∷ fs.inverse (order S k) j ∷ fs.inverse (order S k) i ∷ [])
          (v 3 :* v 1 :+ ((v 0 :* v 1) :* v 2 :+ (nought :- v 3) :* v 1))
          (v 4 :* v 2 :+ ((nought :- v 4) :* v 2 :+ (v 0 :* v 2) :* v 1)) refl))

  pub no_tie_span : (j : ℕ) (up : Bool) (a : ℚ) (R : ℕ → ℚ) → IsBlock j up a R → IsSpan R → ⊥
  no_tie_span j up a R p q =
      not_zero one_ℚ one-positive
      (sym (unit_same j) ∙ (sym (left_inverse S s fs.inverse fs.basis.independent fs.are_inverse j p.there p.basic j p.there)
      ∙ sum_zero S.rows (λ r. S.entry j r *ℚ fs.inverse r j) (λ r h. ap (λ y. S.entry j r *ℚ y) (none r h) ∙ mul-zero _)))
    where
      none : (r : ℕ) → r < S.rows → fs.inverse r j ≡ zero_ℚ
      none r h =
          let (k, m, w) = order_onto S r h in
          subst (λ z. fs.inverse z j ≡ zero_ℚ) w
          (by_one _ _ (R (suc k) *ℚ speed j) (zero_ℚ +ℚ neg_ℚ (fs.inverse (order S k) j)) (p.ratio (suc k) (omega arith))
          (ap (λ y. fs.inverse (order S k) j +ℚ (y +ℚ neg_ℚ (fs.inverse (order S k) j))) (ring (speed j ∷ []) nought ((nought :- nought) :* v 0) refl ∙ ap (λ y. y *ℚ speed j) (sym (q.ratio (suc k) (omega arith))))
          ∙ ring (fs.inverse (order S k) j ∷ R (suc k) *ℚ speed j ∷ []) (v 0 :+ (v 1 :- v 0)) (nought :+ v 1) refl))

  span_positive : (R : ℕ → ℚ) → IsSpan R → IsLexPositive (suc S.rows) R
  span_positive R p = lex_ext (suc S.rows) (λ k. bound_vector p.high k +ℚ neg_ℚ (bound_vector p.low k)) R (λ k h. sym (p.ratio k h)) (e_apart S s fs e down c p.low p.high p.is_low p.is_high)

  block_ext : (j : ℕ) (up : Bool) (b : ℚ) (R Q : ℕ → ℚ) → ((k : ℕ) → k < suc S.rows → R k ≡ Q k) → IsBlock j up b R → IsBlock j up b Q
  block_ext j up b R Q same p = record {
    there = p.there;
    basic = p.basic;
    is_bound = p.is_bound;
    moves = p.moves;
    ratio = λ k h. ap (λ y. y *ℚ speed j) (sym (same k h)) ∙ p.ratio k h;
  }

  -- A least vector is less than that of every other column.
  least_before : (R : ℕ → ℚ) → IsLeast R → (j : ℕ) (up : Bool) (b : ℚ) (Q : ℕ → ℚ) → IsBlock j up b Q → (IsBlock j up b R → ⊥) → IsLexLess (suc S.rows) R Q
  least_before R least j up b Q p other = of (lex_cases n (λ k. Q k +ℚ neg_ℚ (R k)))
    where
      n : ℕ
      n = suc S.rows

      of : IsLexPositive n (λ k. Q k +ℚ neg_ℚ (R k)) ⊎ (((k : ℕ) → k < n → Q k +ℚ neg_ℚ (R k) ≡ zero_ℚ) ⊎ IsLexPositive n (λ k. neg_ℚ (Q k +ℚ neg_ℚ (R k)))) → IsLexPositive n (λ k. Q k +ℚ neg_ℚ (R k))
      of (inl q) = q
      of (inr (inl z)) = absurd (other (block_ext j up b Q R (λ k h. difference_zero _ _ (z k h)) p))
      of (inr (inr q)) =
          absurd (least Q (inl (j, up, b, p)) (lex_ext n (λ k. neg_ℚ (Q k +ℚ neg_ℚ (R k))) (λ k. R k +ℚ neg_ℚ (Q k)) (λ k h. ring (Q k ∷ R k ∷ []) (minus (v 0 :- v 1)) (v 1 :- v 0) refl) q))

  -- the step at which a column meets a bound towards which it moves
  pub block_of : (j : ℕ) (up : Bool) (b : ℚ) → j < S.columns → s j ≡ Basic → bound_of S up j ≡ Some b → zero_ℚ <ℚ neg_ℚ (signed up (speed j)) → IsBlock j up b (λ k. (bound_vector b k +ℚ neg_ℚ (X j k)) *ℚ inv_ℚ (speed j))
  block_of j up b h q z m = record {
    there = h;
    basic = q;
    is_bound = z;
    moves = m;
    ratio = λ k l. divide_times (bound_vector b k +ℚ neg_ℚ (X j k)) (speed j) (speed-not-zero up j m);
  }

  inside_of : (j : ℕ) → j < S.columns → s j ≡ Basic → (up : Bool) (b : ℚ) → bound_of S up j ≡ Some b → IsLexPositive (suc S.rows) (λ k. signed up (X j k +ℚ neg_ℚ (bound_vector b k)))
  inside_of j h q false b z = is_inside_lower S s fs e down c j h q b z
  inside_of j h q true b z = is_inside_upper S s fs e down c j h q b z

  -- The vector of a column that blocks is positive.
  block_positive : (j : ℕ) (up : Bool) (b : ℚ) (R : ℕ → ℚ) → IsBlock j up b R → IsLexPositive (suc S.rows) R
  block_positive j up b R p =
      lex_ext (suc S.rows) (λ k. signed up (X j k +ℚ neg_ℚ (bound_vector b k)) *ℚ inv_ℚ m) R (λ k h. ap (λ y. y *ℚ inv_ℚ m) (sym (turn up (R k) (speed j) (X j k) (bound_vector b k) (p.ratio k h))) ∙ cancel (R k))
      (lex_scale (suc S.rows) (λ k. signed up (X j k +ℚ neg_ℚ (bound_vector b k))) (inv_ℚ m) (inverse-positive m p.moves) (inside_of j p.there p.basic up b p.is_bound))
    where
      m : ℚ
      m = neg_ℚ (signed up (speed j))

      cancel : (r : ℚ) → (r *ℚ m) *ℚ inv_ℚ m ≡ r
      cancel r = mul_assoc _ _ _ ∙ (ap (λ y. r *ℚ y) (mul-inverse m (λ z. not_zero m p.moves z)) ∙ mul-one r)

      turn : (up : Bool) (r w x y : ℚ) → r *ℚ w ≡ y +ℚ neg_ℚ x → r *ℚ neg_ℚ (signed up w) ≡ signed up (x +ℚ neg_ℚ y)
      turn false r w x y e = ring (r ∷ w ∷ []) (v 0 :* minus (v 1)) (minus (v 0 :* v 1)) refl ∙ (ap neg_ℚ e ∙ ring (x ∷ y ∷ []) (minus (v 1 :- v 0)) (v 0 :- v 1) refl)
      turn true r w x y e = ring (r ∷ w ∷ []) (v 0 :* minus (minus (v 1))) (v 0 :* v 1) refl ∙ (e ∙ ring (x ∷ y ∷ []) (v 1 :- v 0) (minus (v 0 :- v 1)) refl)

  -- A basic column that is not met stays inside its bound.
  inside_after : (R : ℕ → ℚ) → IsLexPositive (suc S.rows) R → (j : ℕ) → j < S.columns → s j ≡ Basic → (up : Bool) (b : ℚ) → bound_of S up j ≡ Some b
      → ((Q : ℕ → ℚ) → IsBlock j up b Q → IsLexLess (suc S.rows) R Q)
      → IsLexPositive (suc S.rows) (λ k. signed up ((X j k +ℚ R k *ℚ speed j) +ℚ neg_ℚ (bound_vector b k)))
  inside_after R pos j h q up b z before = of (sign_cases (signed up (speed j)))
    where
      n : ℕ
      n = suc S.rows

      turn : (up : Bool) (x r v' y : ℚ) → signed up (x +ℚ neg_ℚ y) +ℚ r *ℚ signed up v' ≡ signed up ((x +ℚ r *ℚ v') +ℚ neg_ℚ y)
      turn false x r w y = ring (x ∷ r ∷ w ∷ y ∷ []) ((v 0 :- v 3) :+ v 1 :* v 2) ((v 0 :+ v 1 :* v 2) :- v 3) refl
      turn true x r w y = ring (x ∷ r ∷ w ∷ y ∷ []) (minus (v 0 :- v 3) :+ v 1 :* minus (v 2)) (minus ((v 0 :+ v 1 :* v 2) :- v 3)) refl

      goal : (f : ℕ → ℚ) → ((k : ℕ) → k < n → f k ≡ signed up (X j k +ℚ neg_ℚ (bound_vector b k)) +ℚ R k *ℚ signed up (speed j)) → IsLexPositive n f → IsLexPositive n (λ k. signed up ((X j k +ℚ R k *ℚ speed j) +ℚ neg_ℚ (bound_vector b k)))
      goal f same p = lex_ext n f (λ k. signed up ((X j k +ℚ R k *ℚ speed j) +ℚ neg_ℚ (bound_vector b k))) (λ k m. same k m ∙ turn up (X j k) (R k) (speed j) (bound_vector b k)) p

      meets : (up : Bool) (x y r w qk : ℚ) → qk *ℚ w ≡ y +ℚ neg_ℚ x → (qk +ℚ neg_ℚ r) *ℚ neg_ℚ (signed up w) ≡ signed up (x +ℚ neg_ℚ y) +ℚ r *ℚ signed up w
      meets false x y r w qk m =
          by_one _ _ (y +ℚ neg_ℚ x) (qk *ℚ w) (sym m) (ring (x ∷ y ∷ r ∷ w ∷ qk ∷ []) ((v 4 :- v 2) :* minus (v 3) :+ v 4 :* v 3) (((v 0 :- v 1) :+ v 2 :* v 3) :+ (v 1 :- v 0)) refl)
      meets true x y r w qk m =
          by_one _ _ (qk *ℚ w) (y +ℚ neg_ℚ x) m (ring (x ∷ y ∷ r ∷ w ∷ qk ∷ []) ((v 4 :- v 2) :* minus (minus (v 3)) :+ (v 1 :- v 0)) ((minus (v 0 :- v 1) :+ v 2 :* minus (v 3)) :+ v 4 :* v 3) refl)

      of : (zero_ℚ <ℚ signed up (speed j)) ⊎ ((signed up (speed j) ≡ zero_ℚ) ⊎ (zero_ℚ <ℚ neg_ℚ (signed up (speed j)))) → IsLexPositive n (λ k. signed up ((X j k +ℚ R k *ℚ speed j) +ℚ neg_ℚ (bound_vector b k)))
      of (inl p) =
          goal (λ k. signed up (X j k +ℚ neg_ℚ (bound_vector b k)) +ℚ R k *ℚ signed up (speed j)) (λ k m. refl)
          (lex_add n (λ k. signed up (X j k +ℚ neg_ℚ (bound_vector b k))) (λ k. R k *ℚ signed up (speed j)) (inside_of j h q up b z) (lex_scale n R (signed up (speed j)) p pos))
      of (inr (inl o)) =
          goal (λ k. signed up (X j k +ℚ neg_ℚ (bound_vector b k))) (λ k m. sym (add-zero _) ∙ ap (λ y. signed up (X j k +ℚ neg_ℚ (bound_vector b k)) +ℚ y) (sym (mul-zero (R k)) ∙ ap (λ y. R k *ℚ y) (sym o))) (inside_of j h q up b z)
      of (inr (inr p)) =
          let block = block_of j up b h q z p in
          goal (λ k. ((bound_vector b k +ℚ neg_ℚ (X j k)) *ℚ inv_ℚ (speed j) +ℚ neg_ℚ (R k)) *ℚ neg_ℚ (signed up (speed j)))
          (λ k m. meets up (X j k) (bound_vector b k) (R k) (speed j) ((bound_vector b k +ℚ neg_ℚ (X j k)) *ℚ inv_ℚ (speed j)) (block.ratio k m))
          (lex_scale n (λ k. (bound_vector b k +ℚ neg_ℚ (X j k)) *ℚ inv_ℚ (speed j) +ℚ neg_ℚ (R k)) (neg_ℚ (signed up (speed j))) p (before (λ k. (bound_vector b k +ℚ neg_ℚ (X j k)) *ℚ inv_ℚ (speed j)) block))

  pub speed_e : speed e ≡ signed down one_ℚ
  speed_e = speed-is e ∙ ap (λ y. signed down y) dir.one

  pub speed_off : (j : ℕ) → j < S.columns → s j ≢ Basic → j ≢ e → speed j ≡ zero_ℚ
  speed_off j h nb ne = speed-is j ∙ (ap (λ y. signed down y) (dir.off j h nb ne) ∙ of down)
    where
      of : (b : Bool) → signed b zero_ℚ ≡ zero_ℚ
      of false = refl
      of true = neg-zero

  -- The entering column stays inside its bounds for a positive step that is less than the span.
  e_inside : (R : ℕ → ℚ) → IsLexPositive (suc S.rows) R → ((Q : ℕ → ℚ) → IsSpan Q → IsLexLess (suc S.rows) R Q) → (up : Bool) (b : ℚ) → bound_of S up e ≡ Some b
      → IsLexPositive (suc S.rows) (λ k. signed up ((X e k +ℚ R k *ℚ speed e) +ℚ neg_ℚ (bound_vector b k)))
  e_inside R pos before up b z = go (s e) refl up z
    where
      n : ℕ
      n = suc S.rows

      at_speed : (b : Bool) → down ≡ b → speed e ≡ signed b one_ℚ
      at_speed b h = speed_e ∙ ap (λ y. signed y one_ℚ) h

      start : (k : ℕ) → k < n → (y : ℚ) → fs.values e ≡ y → X e k ≡ bound_vector y k
      start k h y q = members_at S s fs e c.there c.nonbasic y q k h

      go : (p : Place) → s e ≡ p → (up : Bool) → bound_of S up e ≡ Some b → IsLexPositive n (λ k. signed up ((X e k +ℚ R k *ℚ speed e) +ℚ neg_ℚ (bound_vector b k)))
      go Lower q up w =
          let (l, ll, vl) = at_lower S (S.lower e) (S.upper e) (fs.values e) (stands_at S s fs e c.there Lower q) in
          of l ll vl up w
        where
          of : (l : ℚ) → S.lower e ≡ Some l → fs.values e ≡ l → (up : Bool) → bound_of S up e ≡ Some b → IsLexPositive n (λ k. signed up ((X e k +ℚ R k *ℚ speed e) +ℚ neg_ℚ (bound_vector b k)))
          of l ll vl false w =
              let same : l ≡ b = cc in
              lex_ext n R (λ k. (X e k +ℚ R k *ℚ speed e) +ℚ neg_ℚ (bound_vector b k))
              (λ k h. ring (R k ∷ bound_vector b k ∷ []) (v 0) ((v 1 :+ v 0 :* unit) :- v 1) refl ∙ ap₂ (λ x y. (x +ℚ R k *ℚ y) +ℚ neg_ℚ (bound_vector b k)) (sym (start k h b (vl ∙ same))) (sym (at_speed false (c.from_lower q)))) pos
          of l ll vl true w =
              lex_ext n (λ k. (bound_vector b k +ℚ neg_ℚ (bound_vector l k)) +ℚ neg_ℚ (R k)) (λ k. neg_ℚ ((X e k +ℚ R k *ℚ speed e) +ℚ neg_ℚ (bound_vector b k)))
              (λ k h. ring (R k ∷ bound_vector b k ∷ bound_vector l k ∷ []) ((v 1 :- v 2) :- v 0) (minus ((v 2 :+ v 0 :* unit) :- v 1)) refl
              ∙ ap₂ (λ x y. neg_ℚ ((x +ℚ R k *ℚ y) +ℚ neg_ℚ (bound_vector b k))) (sym (start k h l vl)) (sym (at_speed false (c.from_lower q))))
              (before (λ k. bound_vector b k +ℚ neg_ℚ (bound_vector l k)) record { low = l; high = b; is_low = ll; is_high = w; ratio = λ k h. refl })
      go Upper q up w =
          let (u, uu, vu) = at_upper S (S.lower e) (S.upper e) (fs.values e) (stands_at S s fs e c.there Upper q) in
          of u uu vu up w
        where
          of : (u : ℚ) → S.upper e ≡ Some u → fs.values e ≡ u → (up : Bool) → bound_of S up e ≡ Some b → IsLexPositive n (λ k. signed up ((X e k +ℚ R k *ℚ speed e) +ℚ neg_ℚ (bound_vector b k)))
          of u uu vu true w =
              let same : u ≡ b = cc in
              lex_ext n R (λ k. neg_ℚ ((X e k +ℚ R k *ℚ speed e) +ℚ neg_ℚ (bound_vector b k)))
              (λ k h. ring (R k ∷ bound_vector b k ∷ []) (v 0) (minus ((v 1 :+ v 0 :* minus unit) :- v 1)) refl ∙ ap₂ (λ x y. neg_ℚ ((x +ℚ R k *ℚ y) +ℚ neg_ℚ (bound_vector b k))) (sym (start k h b (vu ∙ same))) (sym (at_speed true (c.from_upper q)))) pos
          of u uu vu false w =
              lex_ext n (λ k. (bound_vector u k +ℚ neg_ℚ (bound_vector b k)) +ℚ neg_ℚ (R k)) (λ k. (X e k +ℚ R k *ℚ speed e) +ℚ neg_ℚ (bound_vector b k))
              (λ k h. ring (R k ∷ bound_vector b k ∷ bound_vector u k ∷ []) ((v 2 :- v 1) :- v 0) ((v 2 :+ v 0 :* minus unit) :- v 1) refl
              ∙ ap₂ (λ x y. (x +ℚ R k *ℚ y) +ℚ neg_ℚ (bound_vector b k)) (sym (start k h u vu)) (sym (at_speed true (c.from_upper q))))
              (before (λ k. bound_vector u k +ℚ neg_ℚ (bound_vector b k)) record { low = b; high = u; is_low = w; is_high = uu; ratio = λ k h. refl })
      go Zero q up w = absurd (of (S.lower e) (S.upper e) refl refl up w (stands_at S s fs e c.there Zero q))
        where
          of : (l u : Option ℚ) → S.lower e ≡ l → S.upper e ≡ u → (up : Bool) → bound_of S up e ≡ Some b → StandsAt Zero (S.lower e) (S.upper e) (fs.values e) → ⊥
          of None None a o false w h = cc
          of None None a o true w h = cc
          of (Some l) u a o up w h = subst (λ y. StandsAt Zero y (S.upper e) (fs.values e)) a h
          of None (Some u) a o up w h = subst₂ (λ x y. StandsAt Zero x y (fs.values e)) a o h
      go Absent q up w = absurd (c.present q)
      go Basic q up w = absurd (c.nonbasic q)

  -- The members of the state after the exchange.
  brought_member : (l : ℕ) (up : Bool) (b : ℚ) (R : ℕ → ℚ) → IsBlock l up b R → (k : ℕ) → k < suc S.rows → (g : ℚ) → bound_vector b k ≡ g → (w : ℕ → ℚ) → w l ≡ X l k
      → (j : ℕ) → w j +ℚ ((g +ℚ neg_ℚ (w l)) *ℚ inv_ℚ (d l)) *ℚ d j ≡ w j +ℚ R k *ℚ speed j
  brought_member l up b R p k h g e w q j = ap (λ y. w j +ℚ y) (of down (sym (speed-is l)) (speed-is j))
    where
      dl : d l ≢ zero_ℚ
      dl z = speed-not-zero up l p.moves (speed-is l ∙ (ap (λ y. signed down y) z ∙ nil down))
        where
          nil : (b : Bool) → signed b zero_ℚ ≡ zero_ℚ
          nil false = refl
          nil true = neg-zero

      apart : (R k *ℚ speed l) ≡ g +ℚ neg_ℚ (w l)
      apart = p.ratio k h ∙ ap₂ (λ x y. x +ℚ neg_ℚ y) e (sym q)

      of : (b : Bool) → signed b (d l) ≡ speed l → speed j ≡ signed b (d j) → ((g +ℚ neg_ℚ (w l)) *ℚ inv_ℚ (d l)) *ℚ d j ≡ R k *ℚ speed j
      of false m n =
          ap (λ y. (y *ℚ inv_ℚ (d l)) *ℚ d j) (sym apart ∙ ap (λ y. R k *ℚ y) (sym m))
          ∙ (ring (R k ∷ d l ∷ inv_ℚ (d l) ∷ d j ∷ []) (((v 0 :* v 1) :* v 2) :* v 3) ((v 0 :* (v 1 :* v 2)) :* v 3) refl
          ∙ (ap (λ y. (R k *ℚ y) *ℚ d j) (mul-inverse (d l) dl) ∙ (ap (λ y. y *ℚ d j) (mul-one (R k)) ∙ ap (λ y. R k *ℚ y) (sym n))))
      of true m n =
          ap (λ y. (y *ℚ inv_ℚ (d l)) *ℚ d j) (sym apart ∙ ap (λ y. R k *ℚ y) (sym m))
          ∙ (ring (R k ∷ d l ∷ inv_ℚ (d l) ∷ d j ∷ []) (((v 0 :* minus (v 1)) :* v 2) :* v 3) ((v 0 :* (v 1 :* v 2)) :* minus (v 3)) refl
          ∙ (ap (λ y. (R k *ℚ y) *ℚ neg_ℚ (d j)) (mul-inverse (d l) dl) ∙ (ap (λ y. y *ℚ neg_ℚ (d j)) (mul-one (R k)) ∙ ap (λ y. R k *ℚ y) (sym n))))

  signed_twice : (b : Bool) (r : ℚ) → signed b (zero_ℚ +ℚ r *ℚ signed b one_ℚ) ≡ r
  signed_twice false r = ring (r ∷ []) (nought :+ v 0 :* unit) (v 0) refl
  signed_twice true r = ring (r ∷ []) (minus (nought :+ v 0 :* minus unit)) (v 0) refl

  before_span : (R : ℕ → ℚ) → IsLeast R → (IsSpan R → ⊥) → (Q : ℕ → ℚ) → IsSpan Q → IsLexLess (suc S.rows) R Q
  before_span R least other Q p = of (lex_cases n (λ k. Q k +ℚ neg_ℚ (R k)))
    where
      n : ℕ
      n = suc S.rows

      of : IsLexPositive n (λ k. Q k +ℚ neg_ℚ (R k)) ⊎ (((k : ℕ) → k < n → Q k +ℚ neg_ℚ (R k) ≡ zero_ℚ) ⊎ IsLexPositive n (λ k. neg_ℚ (Q k +ℚ neg_ℚ (R k)))) → IsLexPositive n (λ k. Q k +ℚ neg_ℚ (R k))
      of (inl q) = q
      of (inr (inl z)) = absurd (other record { low = p.low; high = p.high; is_low = p.is_low; is_high = p.is_high; ratio = λ k h. sym (difference_zero _ _ (z k h)) ∙ p.ratio k h })
      of (inr (inr q)) =
          absurd (least Q (inr p) (lex_ext n (λ k. neg_ℚ (Q k +ℚ neg_ℚ (R k))) (λ k. R k +ℚ neg_ℚ (Q k)) (λ k h. ring (Q k ∷ R k ∷ []) (minus (v 0 :- v 1)) (v 1 :- v 0) refl) q))

  above_of : (n : ℕ) (o : Option ℚ) (u : ℕ → ℚ) → ((b : ℚ) → o ≡ Some b → IsLexPositive n (λ k. u k +ℚ neg_ℚ (bound_vector b k))) → IsAbove n o u
  above_of n None u h = tt
  above_of n (Some b) u h = h b refl

  under_of : (n : ℕ) (o : Option ℚ) (u : ℕ → ℚ) → ((b : ℚ) → o ≡ Some b → IsLexPositive n (λ k. neg_ℚ (u k +ℚ neg_ℚ (bound_vector b k)))) → IsUnder n o u
  under_of n None u h = tt
  under_of n (Some b) u h = lex_ext n (λ k. neg_ℚ (u k +ℚ neg_ℚ (bound_vector b k))) (λ k. bound_vector b k +ℚ neg_ℚ (u k)) (λ k l. ring (u k ∷ bound_vector b k ∷ []) (minus (v 0 :- v 1)) (v 1 :- v 0) refl) (h b refl)

  stands_of : (up : Bool) (l u : Option ℚ) (b : ℚ) → ((o : Option ℚ) → o ≡ Some b → StandsAt Lower o u b) × ((o : Option ℚ) → o ≡ Some b → StandsAt Upper l o b)
  stands_of up l u b = (λ o q. subst (λ z. StandsAt Lower z u b) (sym q) refl, λ o q. subst (λ z. StandsAt Upper l z b) (sym q) refl)

  stands_there : (p : Place) (j : ℕ) (up : Bool) (b : ℚ) → p ≡ bound_place up → bound_of S up j ≡ Some b → StandsAt p (S.lower j) (S.upper j) b
  stands_there p j false b q z = subst (λ y. StandsAt y (S.lower j) (S.upper j) b) (sym q) ((stands_of false (S.lower j) (S.upper j) b).0 (S.lower j) z)
  stands_there p j true b q z = subst (λ y. StandsAt y (S.lower j) (S.upper j) b) (sym q) ((stands_of true (S.lower j) (S.upper j) b).1 (S.upper j) z)

  -- The column with the least vector leaves, at the bound that it meets.
  pub leave_is_next : (t : ℕ → Place) (l : ℕ) (up : Bool) (b : ℚ) (R : ℕ → ℚ) → IsBlock l up b R → IsLeast R → IsExchange S s e l t → t l ≡ bound_place up → IsNext S s e down t
  unfolding brought
  leave_is_next t l up b R p least x at = record {
    differs = inr (l, x);
    feasible = feasible;
    from_zero = λ z. lex_ext n R (λ k. signed down (vector S values inverse' e k))
        (λ k h. sym (signed_twice down (R k)) ∙ ap (λ y. signed down y) (ap₂ (λ y w. y +ℚ R k *ℚ w) (nil k ∙ sym (members_at S s fs e c.there c.nonbasic zero_ℚ (at_zero S (S.lower e) (S.upper e) (fs.values e) (stands_at S s fs e c.there Zero z)) k h)) (sym speed_e) ∙ sym (after e k h)))
        pos;
  }
    where
      n : ℕ
      n = suc S.rows

      dl : d l ≢ zero_ℚ
      dl z = speed-not-zero up l p.moves (speed-is l ∙ (ap (λ y. signed down y) z ∙ of down))
        where
          of : (b : Bool) → signed b zero_ℚ ≡ zero_ℚ
          of false = refl
          of true = neg-zero

      nil : (k : ℕ) → zero_ℚ ≡ bound_vector zero_ℚ k
      nil zero = refl
      nil (suc k) = refl

      values : ℕ → ℚ
      values = brought S s e d dir l t c.nonbasic c.there x b fs.values

      inverse' : ℕ → ℕ → ℚ
      inverse' r = brought S s e d dir l t c.nonbasic c.there x zero_ℚ (fs.inverse r)

      pos : IsLexPositive n R
      pos = block_positive l up b R p

      after : (j k : ℕ) → k < n → vector S values inverse' j k ≡ X j k +ℚ R k *ℚ speed j
      after j zero h = brought_member l up b R p zero h b refl fs.values refl j
      after j (suc k) h = brought_member l up b R p (suc k) h zero_ℚ refl (fs.inverse (order S k)) refl j

      inside : (j : ℕ) → j < S.columns → t j ≡ Basic → (on : Bool) (z : ℚ) → bound_of S on j ≡ Some z → IsLexPositive n (λ k. signed on (vector S values inverse' j k +ℚ neg_ℚ (bound_vector z k)))
      inside j h q on z w =
          lex_ext n (λ k. signed on ((X j k +ℚ R k *ℚ speed j) +ℚ neg_ℚ (bound_vector z k))) (λ k. signed on (vector S values inverse' j k +ℚ neg_ℚ (bound_vector z k)))
          (λ k m. ap (λ y. signed on (y +ℚ neg_ℚ (bound_vector z k))) (sym (after j k m))) (of (equal_or_not j e))
        where
          of : (j ≡ e) ⊎ (j ≢ e) → IsLexPositive n (λ k. signed on ((X j k +ℚ R k *ℚ speed j) +ℚ neg_ℚ (bound_vector z k)))
          of (inl a) =
              subst (λ i. IsLexPositive n (λ k. signed on ((X i k +ℚ R k *ℚ speed i) +ℚ neg_ℚ (bound_vector z k)))) (sym a)
              (e_inside R pos (before_span R least (no_tie_span l up b R p)) on z (ap (λ i. bound_of S on i) (sym a) ∙ w))
          of (inr a) =
              let nl : j ≢ l = λ i. bound_not_basic (t l) x.leaves (ap t (sym i) ∙ q) in
              inside_after R pos j h (sym (x.rest j h a nl) ∙ q) on z w
              (λ Q r. least_before R least j on z Q r (λ tie. no_tie l j up on b z R (λ i. nl (sym i)) p tie))

      feasible : IsLexFeasible S t
      feasible = record {
        basis = exchanged_basis S s t e l c.there c.nonbasic x fs.basis (stays_independent S s e d dir l t c.nonbasic c.there x fs.basis.independent dl);
        values = values;
        inverse = inverse';
        are_values = new_values S s e d dir l t c.nonbasic c.there x dl b (stands_there (t l) l up b at p.is_bound) fs.values fs.are_values;
        are_inverse = λ r h. new_weights S s e d dir l t c.nonbasic c.there x dl (delta r) (fs.inverse r) (fs.are_inverse r h);
        above = λ j h q. above_of n (S.lower j) (vector S values inverse' j) (λ z w. inside j h q false z w);
        under = λ j h q. under_of n (S.upper j) (vector S values inverse' j) (λ z w. inside j h q true z w);
      }

  pub speed-null : Gives S speed (λ i. zero_ℚ)
  speed-null i h = sum_ext S.columns (λ j. speed j *ℚ S.entry j i) (λ j. (zero_ℚ +ℚ signed down one_ℚ *ℚ d j) *ℚ S.entry j i) (λ j k. ap (λ y. y *ℚ S.entry j i) (speed-is j ∙ of down (d j)))
      ∙ (sum_move S.columns (λ j. zero_ℚ) d (λ j. S.entry j i) (signed down one_ℚ)
      ∙ (ap₂ (λ x y. x +ℚ signed down one_ℚ *ℚ y) (sum_zero S.columns (λ j. zero_ℚ *ℚ S.entry j i) (λ j k. zero-mul _)) (dir.null i h)
      ∙ ring (signed down one_ℚ ∷ []) (nought :+ v 0 :* nought) nought refl))
    where
      of : (b : Bool) (x : ℚ) → signed b x ≡ zero_ℚ +ℚ signed b one_ℚ *ℚ x
      of false x = ring (x ∷ []) (v 0) (nought :+ unit :* v 0) refl
      of true x = ring (x ∷ []) (minus (v 0)) (nought :+ minus unit :* v 0) refl

  -- Where the entering column's own bounds are nearest, it goes to its other bound.
  pub flip_is_next : (t : ℕ → Place) (R : ℕ → ℚ) → IsSpan R → IsLeast R → IsFlip S s e t → IsNext S s e down t
  flip_is_next t R p least x = record {
    differs = inl x;
    feasible = feasible;
    from_zero = λ z. absurd (subst (λ y. IsOtherBound y (t e)) z x.other);
  }
    where
      n : ℕ
      n = suc S.rows

      values : ℕ → ℚ
      values j = fs.values j +ℚ R 0 *ℚ speed j

      pos : IsLexPositive n R
      pos = span_positive R p

      same_basic : (j : ℕ) → j < S.columns → one_if_basic (t j) ≡ one_if_basic (s j)
      same_basic j h = of (equal_or_not j e)
        where
          of : (j ≡ e) ⊎ (j ≢ e) → one_if_basic (t j) ≡ one_if_basic (s j)
          of (inl a) = ap (λ i. one_if_basic (t i)) a ∙ (not_basic_none (t e) (other_not_basic S s fs e down c (s e) (t e) x.other) ∙ (sym (not_basic_none (s e) c.nonbasic) ∙ ap (λ i. one_if_basic (s i)) (sym a)))
          of (inr a) = ap one_if_basic (x.rest j h a)

      still_not : (j : ℕ) → j < S.columns → s j ≢ Basic → t j ≢ Basic
      still_not j h nb q = of (equal_or_not j e)
        where
          of : (j ≡ e) ⊎ (j ≢ e) → ⊥
          of (inl a) = other_not_basic S s fs e down c (s e) (t e) x.other (ap t (sym a) ∙ q)
          of (inr a) = nb (sym (x.rest j h a) ∙ q)

      was_basic : (j : ℕ) → j < S.columns → t j ≡ Basic → s j ≡ Basic
      was_basic j h q = of (basic_or_not (s j))
        where
          of : (s j ≡ Basic) ⊎ (s j ≢ Basic) → s j ≡ Basic
          of (inl a) = a
          of (inr a) = absurd (still_not j h a q)

      was_not : (j : ℕ) → j < S.columns → t j ≢ Basic → s j ≢ Basic
      was_not j h nb q = of (equal_or_not j e)
        where
          of : (j ≡ e) ⊎ (j ≢ e) → ⊥
          of (inl a) = c.nonbasic (ap s (sym a) ∙ q)
          of (inr a) = nb (x.rest j h a ∙ q)

      after : (j k : ℕ) → k < n → vector S values fs.inverse j k ≡ X j k +ℚ R k *ℚ speed j
      after j zero h = refl
      after j (suc k) h = sym (ap (λ y. fs.inverse (order S k) j +ℚ y *ℚ speed j) (p.ratio (suc k) h) ∙ ring (fs.inverse (order S k) j ∷ speed j ∷ []) (v 0 :+ (nought :- nought) :* v 1) (v 0) refl)

      inside : (j : ℕ) → j < S.columns → t j ≡ Basic → (on : Bool) (z : ℚ) → bound_of S on j ≡ Some z → IsLexPositive n (λ k. signed on (vector S values fs.inverse j k +ℚ neg_ℚ (bound_vector z k)))
      inside j h q on z w =
          lex_ext n (λ k. signed on ((X j k +ℚ R k *ℚ speed j) +ℚ neg_ℚ (bound_vector z k))) (λ k. signed on (vector S values fs.inverse j k +ℚ neg_ℚ (bound_vector z k)))
          (λ k m. ap (λ y. signed on (y +ℚ neg_ℚ (bound_vector z k))) (sym (after j k m)))
          (inside_after R pos j h (was_basic j h q) on z w (λ Q r. least_before R least j on z Q r (λ tie. no_tie_span j on z R tie p)))

      independent : IsIndependent S t
      independent w of_basics null j h = fs.basis.independent w (λ i m nb. of_basics i m (still_not i m nb)) null j h

      stands : (j : ℕ) → j < S.columns → StandsAt (t j) (S.lower j) (S.upper j) (values j)
      stands j h = of (equal_or_not j e)
        where
          at_speed : (b : Bool) → down ≡ b → speed e ≡ signed b one_ℚ
          at_speed b q = speed_e ∙ ap (λ y. signed y one_ℚ) q

          go : (a : Place) → s e ≡ a → IsOtherBound a (t e) → StandsAt (t e) (S.lower e) (S.upper e) (values e)
          go Lower q te =
              let (l, ll, vl) = at_lower S (S.lower e) (S.upper e) (fs.values e) (stands_at S s fs e c.there Lower q) in
              let same : p.low ≡ l = (let a = p.is_low in cc) in
              let v' : values e ≡ p.high =
              ap₂ (λ y w. y +ℚ R 0 *ℚ w) vl (at_speed false (c.from_lower q))
              ∙ (ap₂ (λ y w. y +ℚ w *ℚ one_ℚ) (sym same) (p.ratio 0 (omega arith)) ∙ ring (p.low ∷ p.high ∷ []) (v 0 :+ (v 1 :- v 0) :* unit) (v 1) refl) in
              subst (λ y. StandsAt (t e) (S.lower e) (S.upper e) y) (sym v') (stands_there (t e) e true p.high te p.is_high)
          go Upper q te =
              let (u, uu, vu) = at_upper S (S.lower e) (S.upper e) (fs.values e) (stands_at S s fs e c.there Upper q) in
              let same : p.high ≡ u = (let a = p.is_high in cc) in
              let v' : values e ≡ p.low =
              ap₂ (λ y w. y +ℚ R 0 *ℚ w) vu (at_speed true (c.from_upper q))
              ∙ (ap₂ (λ y w. y +ℚ w *ℚ neg_ℚ one_ℚ) (sym same) (p.ratio 0 (omega arith)) ∙ ring (p.low ∷ p.high ∷ []) (v 1 :+ (v 1 :- v 0) :* minus unit) (v 0) refl) in
              subst (λ y. StandsAt (t e) (S.lower e) (S.upper e) y) (sym v') (stands_there (t e) e false p.low te p.is_low)
          go Zero q te = absurd te
          go Absent q te = absurd te
          go Basic q te = absurd te

          of : (j ≡ e) ⊎ (j ≢ e) → StandsAt (t j) (S.lower j) (S.upper j) (values j)
          of (inl a) = subst (λ i. StandsAt (t i) (S.lower i) (S.upper i) (values i)) (sym a) (go (s e) refl x.other)
          of (inr a) = subst (λ y. StandsAt y (S.lower j) (S.upper j) (values j)) (sym (x.rest j h a)) (on (basic_or_not (s j)))
            where
              on : (s j ≡ Basic) ⊎ (s j ≢ Basic) → StandsAt (s j) (S.lower j) (S.upper j) (values j)
              on (inl b) = subst (λ y. StandsAt y (S.lower j) (S.upper j) (values j)) (sym b) tt
              on (inr b) = subst (λ y. StandsAt (s j) (S.lower j) (S.upper j) y) (sym (ap (λ y. fs.values j +ℚ R 0 *ℚ y) (speed_off j h b a) ∙ (ap (λ y. fs.values j +ℚ y) (mul-zero _) ∙ add-zero _))) (fs.are_values.stands j h)

      feasible : IsLexFeasible S t
      feasible = record {
        basis = record { as_many = count_same s t S.columns same_basic ∙ fs.basis.as_many; independent = independent };
        values = values;
        inverse = fs.inverse;
        are_values = record {
          stands = stands;
          equations = λ i h.
              sum_move S.columns fs.values speed (λ j. S.entry j i) (R 0)
              ∙ (ap₂ (λ y w. y +ℚ R 0 *ℚ w) (fs.are_values.equations i h) (speed-null i h) ∙ (ap (λ y. S.right i +ℚ y) (mul-zero _) ∙ add-zero _));
        };
        are_inverse = λ r h. record {
          of_basics = λ j k nb. (fs.are_inverse r h).of_basics j k (was_not j k nb);
          gives = (fs.are_inverse r h).gives;
        };
        above = λ j h q. above_of n (S.lower j) (vector S values fs.inverse j) (λ z w. inside j h q false z w);
        under = λ j h q. under_of n (S.upper j) (vector S values fs.inverse j) (λ z w. inside j h q true z w);
      }

  neg_signed_zero : (up : Bool) (x y : ℚ) → x ≡ y → neg_ℚ (signed up (x +ℚ neg_ℚ y)) ≡ zero_ℚ
  neg_signed_zero up x y h = ap neg_ℚ (signed_zero S s fs e down c up x y h) ∙ neg-zero

  -- A next state is not beyond a column's bound.
  not_beyond : (t : ℕ → Place) (x : IsNext S s e down t) (j : ℕ) → j < S.columns → (j ≡ e) ⊎ (s j ≡ Basic)
      → ((l u : ℚ) → S.lower j ≡ Some l → S.upper j ≡ Some u → IsLexLess (suc S.rows) (bound_vector l) (bound_vector u))
      → (up : Bool) (b : ℚ) → bound_of S up j ≡ Some b → (Q : ℕ → ℚ) → IsLexPositive (suc S.rows) Q
      → IsLexPositive (suc S.rows) (λ k. signed up (X j k +ℚ neg_ℚ (bound_vector b k)))
      → ((k : ℕ) → k < suc S.rows → X j k +ℚ Q k *ℚ speed j ≡ bound_vector b k)
      → IsLexLess (suc S.rows) Q (far S s fs e down c t x.feasible) → ⊥
  not_beyond t x j h w apart up b z Q pos was meets less =
      of (inside_or_there S s fs e down c t x j h (in_play S s fs e down c t x.differs j h w) apart up b z)
    where
      n : ℕ
      n = suc S.rows

      T : ℕ → ℚ
      T = far S s fs e down c t x.feasible

      gone : IsLexPositive n (λ k. neg_ℚ (signed up (members S x.feasible j k +ℚ neg_ℚ (bound_vector b k))))
      gone =
          lex_ext n (λ k. neg_ℚ (signed up (X j k +ℚ neg_ℚ (bound_vector b k)) +ℚ T k *ℚ signed up (speed j))) (λ k. neg_ℚ (signed up (members S x.feasible j k +ℚ neg_ℚ (bound_vector b k))))
          (λ k m. ap neg_ℚ (signed_step S s fs e down c up (X j k) (bound_vector b k) (T k) (speed j) ∙ ap (λ y. signed up (y +ℚ neg_ℚ (bound_vector b k))) (sym (travel S s fs e down c t x j h k m))))
          (beyond n (λ k. signed up (X j k +ℚ neg_ℚ (bound_vector b k))) Q T (signed up (speed j)) was pos
          (λ k m. signed_step S s fs e down c up (X j k) (bound_vector b k) (Q k) (speed j) ∙ signed_zero S s fs e down c up (X j k +ℚ Q k *ℚ speed j) (bound_vector b k) (meets k m)) less)

      of : ((t j ≡ bound_place up) × ((k : ℕ) → k < n → members S x.feasible j k ≡ bound_vector b k)) ⊎ IsLexPositive n (λ k. signed up (members S x.feasible j k +ℚ neg_ℚ (bound_vector b k))) → ⊥
      of (inl q) = lex_zero n _ gone (λ k m. neg_signed_zero up _ _ (q.1 k m))
      of (inr q) = lex_not_both n _ q gone

  -- A next state's step is the least.
  pub next_is_least : (t : ℕ → Place) (x : IsNext S s e down t) → IsLeast (far S s fs e down c t x.feasible)
  next_is_least t x Q (inl (j, up, b, p)) less =
      not_beyond t x j p.there (inr p.basic) (basic_apart S s fs e down c j p.there p.basic) up b p.is_bound Q (block_positive j up b Q p) (inside_of j p.there p.basic up b p.is_bound)
      (λ k h. ap (λ y. X j k +ℚ y) (p.ratio k h) ∙ ring (X j k ∷ bound_vector b k ∷ []) (v 0 :+ (v 1 :- v 0)) (v 1) refl) less
  next_is_least t x Q (inr p) less = go (s e) refl
    where
      n : ℕ
      n = suc S.rows

      at_speed : (b : Bool) → down ≡ b → speed e ≡ signed b one_ℚ
      at_speed b q = speed_e ∙ ap (λ y. signed y one_ℚ) q

      go : (a : Place) → s e ≡ a → ⊥
      go Lower q =
          let (l, ll, vl) = at_lower S (S.lower e) (S.upper e) (fs.values e) (stands_at S s fs e c.there Lower q) in
          let same : l ≡ p.low = (let a = p.is_low in cc) in
          let start : (k : ℕ) → k < n → X e k ≡ bound_vector p.low k = members_at S s fs e c.there c.nonbasic p.low (vl ∙ same) in
          not_beyond t x e c.there (inl refl) (e_apart S s fs e down c) true p.high p.is_high Q (span_positive Q p)
          (lex_ext n (λ k. bound_vector p.high k +ℚ neg_ℚ (bound_vector p.low k)) (λ k. neg_ℚ (X e k +ℚ neg_ℚ (bound_vector p.high k)))
          (λ k h. ring (bound_vector p.high k ∷ bound_vector p.low k ∷ []) (v 0 :- v 1) (minus (v 1 :- v 0)) refl ∙ ap (λ y. neg_ℚ (y +ℚ neg_ℚ (bound_vector p.high k))) (sym (start k h)))
          (e_apart S s fs e down c p.low p.high p.is_low p.is_high))
          (λ k h. ap₂ (λ y w. y +ℚ Q k *ℚ w) (start k h) (at_speed false (c.from_lower q)) ∙ (ap (λ y. bound_vector p.low k +ℚ y *ℚ one_ℚ) (p.ratio k h) ∙ ring (bound_vector p.low k ∷ bound_vector p.high k ∷ []) (v 0 :+ (v 1 :- v 0) :* unit) (v 1) refl))
          less
      go Upper q =
          let (u, uu, vu) = at_upper S (S.lower e) (S.upper e) (fs.values e) (stands_at S s fs e c.there Upper q) in
          let same : u ≡ p.high = (let a = p.is_high in cc) in
          let start : (k : ℕ) → k < n → X e k ≡ bound_vector p.high k = members_at S s fs e c.there c.nonbasic p.high (vu ∙ same) in
          not_beyond t x e c.there (inl refl) (e_apart S s fs e down c) false p.low p.is_low Q (span_positive Q p)
          (lex_ext n (λ k. bound_vector p.high k +ℚ neg_ℚ (bound_vector p.low k)) (λ k. X e k +ℚ neg_ℚ (bound_vector p.low k))
          (λ k h. ap (λ y. y +ℚ neg_ℚ (bound_vector p.low k)) (sym (start k h)))
          (e_apart S s fs e down c p.low p.high p.is_low p.is_high))
          (λ k h. ap₂ (λ y w. y +ℚ Q k *ℚ w) (start k h) (at_speed true (c.from_upper q)) ∙ (ap (λ y. bound_vector p.high k +ℚ y *ℚ neg_ℚ one_ℚ) (p.ratio k h) ∙ ring (bound_vector p.high k ∷ bound_vector p.low k ∷ []) (v 0 :+ (v 0 :- v 1) :* minus unit) (v 1) refl))
          less
      go Zero q = of (S.lower e) refl (stands_at S s fs e c.there Zero q)
        where
          of : (l : Option ℚ) → S.lower e ≡ l → StandsAt Zero (S.lower e) (S.upper e) (fs.values e) → ⊥
          of None a h = (let b = p.is_low in cc)
          of (Some l) a h = subst (λ y. StandsAt Zero y (S.upper e) (fs.values e)) a h
      go Absent q = c.present q
      go Basic q = c.nonbasic q

  -- A next state's step is that of a column that bounds it.
  pub next_is_step : (t : ℕ → Place) (x : IsNext S s e down t) → IsStep (far S s fs e down c t x.feasible)
  unfolding far
  next_is_step t x = let h = hit S s fs e down c t x in of h h.from
    where
      n : ℕ
      n = suc S.rows

      span : IsFlip S s e t → (a : Place) → s e ≡ a → IsOtherBound a (t e) → IsSpan (λ k. signed down (members S x.feasible e k +ℚ neg_ℚ (X e k)))
      span a Lower q te =
          let (l, ll, vl) = at_lower S (S.lower e) (S.upper e) (fs.values e) (stands_at S s fs e c.there Lower q) in
          let (u, uu, vu) = at_upper S (S.lower e) (S.upper e) (x.feasible.values e) (stands_at S t x.feasible e c.there Upper te) in
          record {
            low = l;
            high = u;
            is_low = ll;
            is_high = uu;
            ratio = λ k h.
                ap₂ (λ y w. signed down (y +ℚ neg_ℚ w)) (members_at S t x.feasible e c.there (λ r. bound_not_basic Upper tt (sym te ∙ r)) u vu k h) (members_at S s fs e c.there c.nonbasic l vl k h)
                ∙ ap (λ y. signed y (bound_vector u k +ℚ neg_ℚ (bound_vector l k))) (c.from_lower q);
          }
      span a Upper q te =
          let (u, uu, vu) = at_upper S (S.lower e) (S.upper e) (fs.values e) (stands_at S s fs e c.there Upper q) in
          let (l, ll, vl) = at_lower S (S.lower e) (S.upper e) (x.feasible.values e) (stands_at S t x.feasible e c.there Lower te) in
          record {
            low = l;
            high = u;
            is_low = ll;
            is_high = uu;
            ratio = λ k h.
                ap₂ (λ y w. signed down (y +ℚ neg_ℚ w)) (members_at S t x.feasible e c.there (λ r. bound_not_basic Lower tt (sym te ∙ r)) l vl k h) (members_at S s fs e c.there c.nonbasic u vu k h)
                ∙ (ap (λ y. signed y (bound_vector l k +ℚ neg_ℚ (bound_vector u k))) (c.from_upper q) ∙ ring (bound_vector u k ∷ bound_vector l k ∷ []) (minus (v 1 :- v 0)) (v 0 :- v 1) refl);
          }
      span a Zero q te = absurd te
      span a Absent q te = absurd te
      span a Basic q te = absurd te

      of : (h : Hit S s fs e down c t x) → ((h.column ≡ e) × IsFlip S s e t) ⊎ IsExchange S s e h.column t → IsStep (λ k. signed down (members S x.feasible e k +ℚ neg_ℚ (X e k)))
      of h (inl a) = inr (span a.1 (s e) refl a.1.other)
      of h (inr a) = inl (
        h.column,
        h.up,
        h.bound,
        record {
          there = h.there;
          basic = a.was_basic;
          is_bound = h.is_bound;
          moves = slope_negative n (λ k. signed h.up (X h.column k +ℚ neg_ℚ (bound_vector h.bound k))) (far S s fs e down c t x.feasible) (signed h.up (speed h.column)) h.inside (far_positive S s fs e down c t x)
              (λ k m. signed_step S s fs e down c h.up (X h.column k) (bound_vector h.bound k) (far S s fs e down c t x.feasible k) (speed h.column)
              ∙ signed_zero S s fs e down c h.up (X h.column k +ℚ far S s fs e down c t x.feasible k *ℚ speed h.column) (bound_vector h.bound k) (sym (travel S s fs e down c t x h.column h.there k m) ∙ h.reached k m));
          ratio = λ k m.
              by_one _ _ (X h.column k +ℚ far S s fs e down c t x.feasible k *ℚ speed h.column) (bound_vector h.bound k) (sym (travel S s fs e down c t x h.column h.there k m) ∙ h.reached k m)
              (ring (far S s fs e down c t x.feasible k *ℚ speed h.column ∷ bound_vector h.bound k ∷ X h.column k ∷ []) (v 0 :+ v 1) ((v 1 :- v 2) :+ (v 2 :+ v 0)) refl);
        },
      )
