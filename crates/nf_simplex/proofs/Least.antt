-- Where some column blocks, or the entering column has two bounds, there is a least step, and so a next state.
use Rattle.std.proofs.Common.{◌≡◌, ◌≢◌, ℕ, zero, suc, ◌<◌, ◌≤◌, ◌⊎◌, inl, inr, Bool, true, false, cond, eqb, eq-eqb, ne_eqb, [], ◌∷◌, refl, sym, ap, ap₂, ◌∙◌, subst, arith, Option, Some, None}
use Rattle.nf_num.specs.Rational.{ℚ, zero_ℚ, ◌+ℚ◌, ◌*ℚ◌, neg_ℚ, inv_ℚ, ◌<ℚ◌}
use Rattle.nf_num.proofs.Order.{mul-eq-zero}
use Rattle.nf_num.proofs.Linear.{linear_lt, lt}
use Rattle.nf_num.proofs.Linear as linear
use Rattle.nf_simplex.specs.Lex.{IsLexPositive, IsLexLess, bound_vector, IsLexFeasible}
use Rattle.nf_simplex.specs.Numbers.{StandsAt}
use Rattle.nf_simplex.specs.Place.{Place, Lower, Upper, Zero, Absent, Basic, IsOtherBound, IsBound}
use Rattle.nf_simplex.specs.Stage.{Stage}
use Rattle.nf_simplex.specs.Step.{signed, CanEnter, IsNext}
use Rattle.nf_simplex.proofs.Basis.{basic_or_not}
use Rattle.nf_simplex.proofs.Lex.{sign_cases, not_zero, not_both, lex_ext, lex_zero, lex_add, lex_cases}
use Rattle.nf_simplex.proofs.Next.{bound_place, bound_of}
use Rattle.nf_simplex.proofs.Ratio.{speed, X, IsBlock, IsSpan, IsStep, IsLeast, block_of, leave_is_next, flip_is_next}
use Rattle.nf_simplex.proofs.Sum.{below_last, neg-zero, difference_zero}
use Rattle.nf_simplex.proofs.Terms.{ring, v, nought, minus, ◌:+◌, ◌:*◌, ◌:-◌}

pub less_trans_lex : (n : ℕ) (a b c : ℕ → ℚ) → IsLexLess n a b → IsLexLess n b c → IsLexLess n a c
less_trans_lex n a b c p q = lex_ext n (λ k. (b k +ℚ neg_ℚ (a k)) +ℚ (c k +ℚ neg_ℚ (b k))) (λ k. c k +ℚ neg_ℚ (a k)) (λ k h. ring (a k ∷ b k ∷ c k ∷ []) ((v 1 :- v 0) :+ (v 2 :- v 1)) (v 2 :- v 0) refl) (lex_add n (λ k. b k +ℚ neg_ℚ (a k)) (λ k. c k +ℚ neg_ℚ (b k)) p q)

pub less_same : (n : ℕ) (a b c : ℕ → ℚ) → ((k : ℕ) → k < n → a k ≡ b k) → IsLexLess n a c → IsLexLess n b c
less_same n a b c e p = lex_ext n (λ k. c k +ℚ neg_ℚ (a k)) (λ k. c k +ℚ neg_ℚ (b k)) (λ k h. ap (λ z. c k +ℚ neg_ℚ z) (e k h)) p

pub not_self : (n : ℕ) (a b : ℕ → ℚ) → ((k : ℕ) → k < n → a k ≡ b k) → IsLexLess n a b → ⊥
not_self n a b e p = lex_zero n (λ k. b k +ℚ neg_ℚ (a k)) p (λ k h. ap (λ z. b k +ℚ neg_ℚ z) (e k h) ∙ ring (b k ∷ []) (v 0 :- v 0) nought refl)

-- less, equal, or more
pub three_ways : (n : ℕ) (a b : ℕ → ℚ) → IsLexLess n a b ⊎ (((k : ℕ) → k < n → a k ≡ b k) ⊎ IsLexLess n b a)
three_ways n a b = of (lex_cases n (λ k. b k +ℚ neg_ℚ (a k)))
  where
    of : IsLexPositive n (λ k. b k +ℚ neg_ℚ (a k)) ⊎ (((k : ℕ) → k < n → b k +ℚ neg_ℚ (a k) ≡ zero_ℚ) ⊎ IsLexPositive n (λ k. neg_ℚ (b k +ℚ neg_ℚ (a k)))) → IsLexLess n a b ⊎ (((k : ℕ) → k < n → a k ≡ b k) ⊎ IsLexLess n b a)
    of (inl p) = inl p
    of (inr (inl z)) = inr (inl (λ k h. sym (difference_zero (b k) (a k) (z k h))))
    of (inr (inr p)) = inr (inr (lex_ext n (λ k. neg_ℚ (b k +ℚ neg_ℚ (a k))) (λ k. a k +ℚ neg_ℚ (b k)) (λ k h. ring (a k ∷ b k ∷ []) (minus (v 1 :- v 0)) (v 0 :- v 1) refl) p))

module _ (S : Stage) (s : ℕ → Place) (fs : IsLexFeasible S s) (e : ℕ) (down : Bool) (c : CanEnter S s e down) where
  abbrev n : ℕ
  n = suc S.rows

  abbrev Block : ℕ → Bool → ℚ → (ℕ → ℚ) → Type 0
  Block j up b R = IsBlock S s fs e down c j up b R

  abbrev u : ℕ → ℚ
  u j = speed S s fs e down c j

  towards : (j : ℕ) → j < S.columns → s j ≡ Basic → (up : Bool) → zero_ℚ <ℚ neg_ℚ (signed up (u j)) → ((w : Bool) → zero_ℚ <ℚ neg_ℚ (signed w (u j)) → w ≡ up)
      → ((w : Bool) × (b : ℚ) × (R : ℕ → ℚ) × Block j w b R) ⊎ ((w : Bool) (b : ℚ) (R : ℕ → ℚ) → Block j w b R → ⊥)
  towards j h q up m only = of (bound_of S up j) refl
    where
      of : (o : Option ℚ) → bound_of S up j ≡ o → ((w : Bool) × (b : ℚ) × (R : ℕ → ℚ) × Block j w b R) ⊎ ((w : Bool) (b : ℚ) (R : ℕ → ℚ) → Block j w b R → ⊥)
      of (Some b) z = inl (up, b, (λ k. (bound_vector b k +ℚ neg_ℚ (X S s fs e down c j k)) *ℚ inv_ℚ (u j)), block_of S s fs e down c j up b h q z m)
      of None z = inr (λ w b R p. absurd (let a : None ≡ Some b = sym z ∙ (ap (λ t. bound_of S t j) (sym (only w p.moves)) ∙ p.is_bound) in cc))

  twice : (a : ℚ) → zero_ℚ <ℚ a → zero_ℚ <ℚ neg_ℚ (neg_ℚ a)
  twice a m = linear_lt (a ∷ []) (lt m ∷ []) (search linear.codes depth 12) tt

  once : (a : ℚ) → zero_ℚ <ℚ neg_ℚ (neg_ℚ a) → zero_ℚ <ℚ a
  once a m = linear_lt (a ∷ []) (lt m ∷ []) (search linear.codes depth 12) tt

  one_way : (a : ℚ) (up w : Bool) → zero_ℚ <ℚ neg_ℚ (signed up a) → zero_ℚ <ℚ neg_ℚ (signed w a) → w ≡ up
  one_way a true true h k = refl
  one_way a false false h k = refl
  one_way a true false h k = absurd (not_both a (once a h) k)
  one_way a false true h k = absurd (not_both a (once a k) h)

  blocks_or_not : (j : ℕ) → j < S.columns → ((w : Bool) × (b : ℚ) × (R : ℕ → ℚ) × Block j w b R) ⊎ ((w : Bool) (b : ℚ) (R : ℕ → ℚ) → Block j w b R → ⊥)
  blocks_or_not j h = of (basic_or_not (s j)) (sign_cases (u j))
    where
      of : (s j ≡ Basic) ⊎ (s j ≢ Basic) → (zero_ℚ <ℚ u j) ⊎ ((u j ≡ zero_ℚ) ⊎ (zero_ℚ <ℚ neg_ℚ (u j)))
          → ((w : Bool) × (b : ℚ) × (R : ℕ → ℚ) × Block j w b R) ⊎ ((w : Bool) (b : ℚ) (R : ℕ → ℚ) → Block j w b R → ⊥)
      of (inr nb) g = inr (λ w b R p. nb p.basic)
      of (inl q) (inl g) = towards j h q true (twice (u j) g) (λ w m. one_way (u j) true w (twice (u j) g) m)
      of (inl q) (inr (inl z)) = inr (λ w b R p. still w p.moves)
        where
          still : (w : Bool) → zero_ℚ <ℚ neg_ℚ (signed w (u j)) → ⊥
          still false m = not_zero _ m (ap neg_ℚ z ∙ neg-zero)
          still true m = not_zero _ (once (u j) m) z
      of (inl q) (inr (inr g)) = towards j h q false g (λ w m. one_way (u j) false w g m)

  same_block : (j : ℕ) (up w : Bool) (b d : ℚ) (R Q : ℕ → ℚ) → Block j up b R → Block j w d Q → (k : ℕ) → k < n → R k ≡ Q k
  same_block j up w b d R Q p q k h =
      difference_zero (R k) (Q k) (mul-eq-zero (R k +ℚ neg_ℚ (Q k)) (u j)
      (ring (R k ∷ Q k ∷ u j ∷ []) ((v 0 :- v 1) :* v 2) (v 0 :* v 2 :- v 1 :* v 2) refl
      ∙ (ap₂ (λ y z. y +ℚ neg_ℚ z) (p.ratio k h) (q.ratio k h ∙ ap (λ y. bound_vector y k +ℚ neg_ℚ (X S s fs e down c j k)) (sym same))
      ∙ ring (bound_vector b k ∷ X S s fs e down c j k ∷ []) ((v 0 :- v 1) :- (v 0 :- v 1)) nought refl))
      (moving up p.moves))
    where
      same : b ≡ d
      same = let x : Some b ≡ Some d = sym p.is_bound ∙ (ap (λ t. bound_of S t j) (one_way (u j) w up q.moves p.moves) ∙ q.is_bound) in cc

      moving : (t : Bool) → zero_ℚ <ℚ neg_ℚ (signed t (u j)) → u j ≡ zero_ℚ → ⊥
      moving false m z = not_zero _ m (ap neg_ℚ z ∙ neg-zero)
      moving true m z = not_zero _ (once (u j) m) z

  -- no block of the columns below m is less
  abbrev IsLeastBelow : ℕ → (ℕ → ℚ) → Type 0
  IsLeastBelow m R = (i : ℕ) → i < m → (w : Bool) (b : ℚ) (Q : ℕ → ℚ) → Block i w b Q → IsLexLess n Q R → ⊥

  abbrev Search : ℕ → Type 0
  Search m = ((j : ℕ) × (w : Bool) × (b : ℚ) × (R : ℕ → ℚ) × Block j w b R × IsLeastBelow m R) ⊎ ((i : ℕ) → i < m → (w : Bool) (b : ℚ) (Q : ℕ → ℚ) → Block i w b Q → ⊥)

  least_block : (m : ℕ) → m ≤ S.columns → Search m
  least_block zero h = inr (λ i l w b Q p. absurd (omega arith))
  least_block (suc m) h = of (least_block m (omega arith)) (blocks_or_not m (omega arith))
    where
      at_last : {A : Type 0} (i : ℕ) → i < suc m → (i < m → A) → (i ≡ m → A) → A
      at_last {A} i l a b = go (below_last i m l)
        where
          go : (i < m) ⊎ (i ≡ m) → A
          go (inl x) = a x
          go (inr x) = b x

      of : Search m → ((w : Bool) × (b : ℚ) × (R : ℕ → ℚ) × Block m w b R) ⊎ ((w : Bool) (b : ℚ) (R : ℕ → ℚ) → Block m w b R → ⊥) → Search (suc m)
      of (inr none) (inr lack) = inr (λ i l w b Q p. at_last i l (λ a. none i a w b Q p) (λ q. lack w b Q (subst (λ k. Block k w b Q) q p)))
      of (inl (j, w, b, R, p, least)) (inr lack) = inl (j, w, b, R, p, λ i l w' b' Q q less. at_last i l (λ a. least i a w' b' Q q less) (λ x. lack w' b' Q (subst (λ k. Block k w' b' Q) x q)))
      of (inr none) (inl (w, b, R, p)) = inl (m, w, b, R, p, λ i l w' b' Q q less. at_last i l (λ a. none i a w' b' Q q) (λ x. not_self n Q R (same_block m w' w b' b Q R (subst (λ k. Block k w' b' Q) x q) p) less))
      of (inl (j, w, b, R, p, least)) (inl (w2, b2, R2, p2)) = pick (three_ways n R2 R)
        where
          pick : IsLexLess n R2 R ⊎ (((k : ℕ) → k < n → R2 k ≡ R k) ⊎ IsLexLess n R R2) → Search (suc m)
          pick (inl less2) = inl (m, w2, b2, R2, p2, λ i l w' b' Q q less. at_last i l (λ a. least i a w' b' Q q (less_trans_lex n Q R2 R less less2)) (λ x. not_self n Q R2 (same_block m w' w2 b' b2 Q R2 (subst (λ k. Block k w' b' Q) x q) p2) less))
          pick (inr (inl same)) = inl (j, w, b, R, p, λ i l w' b' Q q less. at_last i l (λ a. least i a w' b' Q q less) (λ x. not_self n Q R (λ k h. same_block m w' w2 b' b2 Q R2 (subst (λ k. Block k w' b' Q) x q) p2 k h ∙ same k h) less))
          pick (inr (inr more)) = inl (
            j,
            w,
            b,
            R,
            p,
            λ i l w' b' Q q less. at_last i l (λ a. least i a w' b' Q q less) (λ x.
                not_self n R R (λ k h. refl) (less_trans_lex n R R2 R more (less_same n Q R2 R (λ k h. same_block m w' w2 b' b2 Q R2 (subst (λ k. Block k w' b' Q) x q) p2 k h) less))),
          )

  same_span : (R Q : ℕ → ℚ) → IsSpan S s fs e down c R → IsSpan S s fs e down c Q → (k : ℕ) → k < n → R k ≡ Q k
  same_span R Q p q k h =
      let a : p.low ≡ q.low = (let x : Some p.low ≡ Some q.low = sym p.is_low ∙ q.is_low in cc) in
      let b : p.high ≡ q.high = (let x : Some p.high ≡ Some q.high = sym p.is_high ∙ q.is_high in cc) in
      p.ratio k h ∙ (ap₂ (λ y z. bound_vector y k +ℚ neg_ℚ (bound_vector z k)) b a ∙ sym (q.ratio k h))

  span_or_not : ((R : ℕ → ℚ) × IsSpan S s fs e down c R) ⊎ ((R : ℕ → ℚ) → IsSpan S s fs e down c R → ⊥)
  span_or_not = of (S.lower e) refl (S.upper e) refl
    where
      of : (l : Option ℚ) → S.lower e ≡ l → (h : Option ℚ) → S.upper e ≡ h → ((R : ℕ → ℚ) × IsSpan S s fs e down c R) ⊎ ((R : ℕ → ℚ) → IsSpan S s fs e down c R → ⊥)
      of None a h b = inr (λ R p. absurd (let x : None ≡ Some p.low = sym a ∙ p.is_low in cc))
      of (Some l) a None b = inr (λ R p. absurd (let x : None ≡ Some p.high = sym b ∙ p.is_high in cc))
      of (Some l) a (Some h) b = inl (λ k. bound_vector h k +ℚ neg_ℚ (bound_vector l k), record { low = l; high = h; is_low = a; is_high = b; ratio = λ k m. refl })

  -- ---- the next state of a least step
  choose : {A : Type 0} (i j : ℕ) (x y : A) → i ≡ j → cond (eqb i j) x y ≡ x
  choose i j x y q = ap (λ b. cond b x y) (eq-eqb i j q)

  other_one : {A : Type 0} (i j : ℕ) (x y : A) → i ≢ j → cond (eqb i j) x y ≡ y
  other_one i j x y q = ap (λ b. cond b x y) (ne_eqb i j q)

  place_is_bound : (w : Bool) → IsBound (bound_place w)
  place_is_bound true = tt
  place_is_bound false = tt

  leave : (j : ℕ) (w : Bool) (b : ℚ) (R : ℕ → ℚ) → Block j w b R → IsLeast S s fs e down c R → (t : ℕ → Place) × IsNext S s e down t
  leave j w b R p least = (
    t,
    leave_is_next S s fs e down c t j w b R p least (record {
      there = p.there;
      was_basic = p.basic;
      enters = choose e e _ _ refl;
      leaves = subst IsBound (sym gone) (place_is_bound w);
      rest = λ i h a d. other_one i e _ _ a ∙ other_one i j _ _ d;
    }) gone,
  )
    where
      t : ℕ → Place
      t i = cond (eqb i e) Basic (cond (eqb i j) (bound_place w) (s i))

      gone : t j ≡ bound_place w
      gone = other_one j e _ _ (λ q. c.nonbasic (ap s (sym q) ∙ p.basic)) ∙ choose j j _ _ refl

  other : Place → Place
  other Lower = Upper
  other Upper = Lower
  other Zero = Zero
  other Absent = Absent
  other Basic = Basic

  flip : (R : ℕ → ℚ) → IsSpan S s fs e down c R → IsLeast S s fs e down c R → (t : ℕ → Place) × IsNext S s e down t
  unfolding other
  flip R p least = (
    t,
    flip_is_next S s fs e down c t R p least (record {
      other = of (s e) refl;
      rest = λ i h a. other_one i e _ _ a;
    }),
  )
    where
      t : ℕ → Place
      t i = cond (eqb i e) (other (s e)) (s i)

      of : (a : Place) → s e ≡ a → IsOtherBound (s e) (t e)
      of Lower q = subst (λ y. IsOtherBound y (t e)) (sym q) (choose e e _ _ refl ∙ ap other q)
      of Upper q = subst (λ y. IsOtherBound y (t e)) (sym q) (choose e e _ _ refl ∙ ap other q)
      of Zero q = absurd (nowhere (S.lower e) p.is_low (subst (λ y. StandsAt y (S.lower e) (S.upper e) (fs.values e)) q (fs.are_values.stands e c.there)))
        where
          nowhere : (l : Option ℚ) → l ≡ Some p.low → StandsAt Zero l (S.upper e) (fs.values e) → ⊥
          nowhere None a x = let y : None ≡ Some p.low = a in absurd (cc)
          nowhere (Some l) a x = x
      of Absent q = absurd (c.present q)
      of Basic q = absurd (c.nonbasic q)

  -- Where there is a step, there is a next state.
  pub next_of_step : (R : ℕ → ℚ) → IsStep S s fs e down c R → (t : ℕ → Place) × IsNext S s e down t
  next_of_step R step = of (least_block S.columns (omega arith)) span_or_not step
    where
      of : Search S.columns → ((R : ℕ → ℚ) × IsSpan S s fs e down c R) ⊎ ((R : ℕ → ℚ) → IsSpan S s fs e down c R → ⊥) → IsStep S s fs e down c R → (t : ℕ → Place) × IsNext S s e down t
      of (inr none) (inr lack) (inl (j, w, b, p)) = absurd (none j p.there w b R p)
      of (inr none) (inr lack) (inr p) = absurd (lack R p)
      of (inr none) (inl (T, p)) q = flip T p least
        where
          least : IsLeast S s fs e down c T
          least Q (inl (j, w, b, r)) less = none j r.there w b Q r
          least Q (inr r) less = not_self n Q T (same_span Q T r p) less
      of (inl (j, w, b, T, p, below)) (inr lack) q = leave j w b T p least
        where
          least : IsLeast S s fs e down c T
          least Q (inl (i, w', b', r)) less = below i r.there w' b' Q r less
          least Q (inr r) less = lack Q r
      of (inl (j, w, b, T, p, below)) (inl (V, r)) q = pick (three_ways n V T)
        where
          pick : IsLexLess n V T ⊎ (((k : ℕ) → k < n → V k ≡ T k) ⊎ IsLexLess n T V) → (t : ℕ → Place) × IsNext S s e down t
          pick (inl less) = flip V r least
            where
              least : IsLeast S s fs e down c V
              least Q (inl (i, w', b', x)) less' = below i x.there w' b' Q x (less_trans_lex n Q V T less' less)
              least Q (inr x) less' = not_self n Q V (same_span Q V x r) less'
          pick (inr rest) = leave j w b T p least
            where
              least : IsLeast S s fs e down c T
              least Q (inl (i, w', b', x)) less' = below i x.there w' b' Q x less'
              least Q (inr x) less' = clash rest
                where
                  clash : ((k : ℕ) → k < n → V k ≡ T k) ⊎ IsLexLess n T V → ⊥
                  clash (inl same) = not_self n Q T (λ k h. same_span Q V x r k h ∙ same k h) less'
                  clash (inr more) = not_self n T T (λ k h. refl) (less_trans_lex n T V T more (less_same n Q V T (λ k h. same_span Q V x r k h) less'))
