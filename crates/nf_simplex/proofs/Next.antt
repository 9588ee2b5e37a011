-- A lexicographically feasible state and an entering column have at most one next state.
use Rattle.std.proofs.Common.{◌≡◌, ◌≢◌, ℕ, zero, suc, ◌<◌, ◌⊎◌, inl, inr, Bool, true, false, [], ◌∷◌, refl, sym, ap, ap₂, ◌∙◌, subst, arith, Option, Some, None}
use Rattle.nf_num.specs.Rational.{ℚ, zero_ℚ, ◌+ℚ◌, ◌*ℚ◌, neg_ℚ, ◌<ℚ◌}
use Rattle.nf_num.specs.Sum.{sum_ℚ, delta}
use Rattle.nf_simplex.specs.Lex.{IsLexPositive, IsLexLess, bound_vector, vector, IsAbove, IsUnder, IsLexFeasible}
use Rattle.nf_simplex.specs.Numbers.{StandsAt, Gives}
use Rattle.nf_simplex.specs.Place.{Place, Lower, Upper, Zero, Absent, Basic, IsBound, IsOtherBound}
use Rattle.nf_simplex.specs.Stage.{Stage, order}
use Rattle.nf_simplex.specs.Step.{IsFlip, IsExchange, signed, CanEnter, IsNext}
use Rattle.nf_simplex.proofs.Basis.{stands_same, weights_by_inverse}
use Rattle.nf_simplex.proofs.Exchange.{IsDirection, direction, moved, bound_not_basic}
use Rattle.nf_simplex.proofs.FieldLaws.{add-zero}
use Rattle.nf_simplex.proofs.Lex.{lex_ext, lex_zero, lex_add, lex_not_both, lex_cases, beyond, less_difference}
use Rattle.nf_simplex.proofs.Orders.{order_within}
use Rattle.nf_simplex.proofs.Sum.{neg-zero, equal_or_not, zero_difference, difference_zero}
use Rattle.nf_simplex.proofs.Terms.{ring, v, minus, ◌:+◌, ◌:*◌, ◌:-◌}

abbrev pub bound_place : Bool → Place
bound_place true = Upper
bound_place false = Lower

-- the bound of a column on one side
abbrev pub bound_of : Stage → Bool → ℕ → Option ℚ
bound_of S true j = S.upper j
bound_of S false j = S.lower j

module _ (S : Stage) where
  pub is_above : (n : ℕ) (o : Option ℚ) (u : ℕ → ℚ) (b : ℚ) → o ≡ Some b → IsAbove n o u → IsLexLess n (bound_vector b) u
  is_above n o u b e h = subst (λ q. IsAbove n q u) e h

  pub is_under : (n : ℕ) (o : Option ℚ) (u : ℕ → ℚ) (b : ℚ) → o ≡ Some b → IsUnder n o u → IsLexLess n u (bound_vector b)
  is_under n o u b e h = subst (λ q. IsUnder n q u) e h

  pub at_lower : (l u : Option ℚ) (x : ℚ) → StandsAt Lower l u x → (b : ℚ) × (l ≡ Some b) × (x ≡ b)
  at_lower (Some l) u x h = (l, refl, h)
  at_lower None u x h = absurd h

  pub at_upper : (l u : Option ℚ) (x : ℚ) → StandsAt Upper l u x → (b : ℚ) × (u ≡ Some b) × (x ≡ b)
  at_upper l (Some u) x h = (u, refl, h)
  at_upper l None x h = absurd h

  pub at_zero : (l u : Option ℚ) (x : ℚ) → StandsAt Zero l u x → x ≡ zero_ℚ
  at_zero (Some l) u x h = absurd h
  at_zero None (Some u) x h = absurd h
  at_zero None None x h = h

  pub stands_at : (s : ℕ → Place) (f : IsLexFeasible S s) (j : ℕ) → j < S.columns → (p : Place) → s j ≡ p → StandsAt p (S.lower j) (S.upper j) (f.values j)
  stands_at s f j h p e = subst (λ q. StandsAt q (S.lower j) (S.upper j) (f.values j)) e (f.are_values.stands j h)

  abbrev pub members : {s : ℕ → Place} → IsLexFeasible S s → ℕ → ℕ → ℚ
  members f j k = vector S f.values f.inverse j k

  -- the right side that the k-th members of the vectors have
  abbrev pub right_side : ℕ → ℕ → ℚ
  right_side zero = S.right
  right_side (suc k) = delta (order S k)

  pub members-give : (s : ℕ → Place) (f : IsLexFeasible S s) (k : ℕ) → k < suc S.rows → Gives S (λ j. members f j k) (right_side k)
  members-give s f zero h = f.are_values.equations
  members-give s f (suc k) h = (f.are_inverse (order S k) (order_within S k (omega arith))).gives

  -- a nonbasic column's vector is its number and zeros
  pub members_at : (s : ℕ → Place) (f : IsLexFeasible S s) (j : ℕ) → j < S.columns → s j ≢ Basic → (b : ℚ) → f.values j ≡ b → (k : ℕ) → k < suc S.rows → members f j k ≡ bound_vector b k
  members_at s f j h nb b e zero l = e
  members_at s f j h nb b e (suc k) l = (f.are_inverse (order S k) (order_within S k (omega arith))).of_basics j h nb

  module _ (s : ℕ → Place) (fs : IsLexFeasible S s) (e : ℕ) (down : Bool) (c : CanEnter S s e down) where
    -- what every column does while e moves
    unfoldable pub rate : ℕ → ℚ
    rate j = signed down (delta e j +ℚ neg_ℚ (sum_ℚ S.rows (λ r. S.entry e r *ℚ fs.inverse r j)))

    -- how far e is moved
    unfoldable pub far : (t : ℕ → Place) → IsLexFeasible S t → ℕ → ℚ
    far t ft k = signed down (members ft e k +ℚ neg_ℚ (members fs e k))

    pub stays : (t : ℕ → Place) → IsFlip S s e t ⊎ ((l : ℕ) × IsExchange S s e l t) → (j : ℕ) → j < S.columns → s j ≢ Basic → j ≢ e → t j ≡ s j
    stays t (inl a) j h nb ne = a.rest j h ne
    stays t (inr (l, a)) j h nb ne = a.rest j h ne (λ q. nb (ap s q ∙ a.was_basic))

    members_stay : (t : ℕ → Place) (x : IsNext S s e down t) (j : ℕ) → j < S.columns → s j ≢ Basic → j ≢ e → (k : ℕ) → k < suc S.rows → members x.feasible j k ≡ members fs j k
    members_stay t x j h nb ne k l =
        members_at t x.feasible j h (λ b. nb (sym same ∙ b)) (fs.values j)
        (stands_same (s j) (S.lower j) (S.upper j) (x.feasible.values j) (fs.values j) nb (subst (λ p. StandsAt p (S.lower j) (S.upper j) (x.feasible.values j)) same (x.feasible.are_values.stands j h)) (fs.are_values.stands j h))
        k l
        ∙ sym (members_at s fs j h nb (fs.values j) refl k l)
      where
        same : t j ≡ s j
        same = stays t x.differs j h nb ne

    -- Each member of each vector moves by the same rule.
    pub travel : (t : ℕ → Place) (x : IsNext S s e down t) (j : ℕ) → j < S.columns → (k : ℕ) → k < suc S.rows → members x.feasible j k ≡ members fs j k +ℚ far t x.feasible k *ℚ rate j
    unfolding rate far
    travel t x j h k l =
        moved S s e d dir (λ q. members fs q k) (λ q. members x.feasible q k) fs.basis.independent
        (λ q m nb ne. members_stay t x q m nb ne k l) (λ i m. members-give t x.feasible k l i m ∙ sym (members-give s fs k l i m)) j h
        ∙ ap (λ y. members fs j k +ℚ y) (of down)
      where
        d : ℕ → ℚ
        d q = delta e q +ℚ neg_ℚ (sum_ℚ S.rows (λ r. S.entry e r *ℚ fs.inverse r q))

        dir : IsDirection S s e d
        dir = direction S s e (λ q. sum_ℚ S.rows (λ r. S.entry e r *ℚ fs.inverse r q)) c.there c.nonbasic (weights_by_inverse S s fs.inverse fs.are_inverse (S.entry e))

        of : (b : Bool) → (members x.feasible e k +ℚ neg_ℚ (members fs e k)) *ℚ d j ≡ signed b (members x.feasible e k +ℚ neg_ℚ (members fs e k)) *ℚ signed b (delta e j +ℚ neg_ℚ (sum_ℚ S.rows (λ r. S.entry e r *ℚ fs.inverse r j)))
        of false = refl
        of true = ring ((members x.feasible e k +ℚ neg_ℚ (members fs e k)) ∷ (delta e j +ℚ neg_ℚ (sum_ℚ S.rows (λ r. S.entry e r *ℚ fs.inverse r j))) ∷ []) (v 0 :* v 1) (minus (v 0) :* minus (v 1)) refl

    -- e's bounds, as vectors
    pub bounds_apart : (l u : ℚ) → l <ℚ u → IsLexLess (suc S.rows) (bound_vector l) (bound_vector u)
    bounds_apart l u h = record { first = 0; within = omega arith; positive = less_difference l u h; zeros = λ i m. absurd (omega arith) }

    -- A next state has moved e in its direction.
    pub far_positive : (t : ℕ → Place) (x : IsNext S s e down t) → IsLexPositive (suc S.rows) (far t x.feasible)
    unfolding far
    far_positive t x = go (s e) refl
      where
        n : ℕ
        n = suc S.rows

        upwards : (b : ℚ) → S.lower e ≡ Some b → s e ≡ Lower → IsFlip S s e t ⊎ ((l : ℕ) × IsExchange S s e l t) → IsLexLess n (bound_vector b) (members x.feasible e)
        upwards b lb q (inl a) =
            let te : t e ≡ Upper = subst (λ p. IsOtherBound p (t e)) q a.other in
            let (u, ub, vu) = at_upper (S.lower e) (S.upper e) (x.feasible.values e) (stands_at t x.feasible e c.there Upper te) in
            lex_ext n (λ k. bound_vector u k +ℚ neg_ℚ (bound_vector b k)) (λ k. members x.feasible e k +ℚ neg_ℚ (bound_vector b k))
            (λ k h. ap (λ y. y +ℚ neg_ℚ (bound_vector b k)) (sym (members_at t x.feasible e c.there (λ r. bound_not_basic Upper tt (sym te ∙ r)) u vu k h)))
            (bounds_apart b u (c.bounds_differ b u lb ub))
        upwards b lb q (inr (l, a)) = is_above n (S.lower e) (members x.feasible e) b lb (x.feasible.above e c.there a.enters)

        downwards : (u : ℚ) → S.upper e ≡ Some u → s e ≡ Upper → IsFlip S s e t ⊎ ((l : ℕ) × IsExchange S s e l t) → IsLexLess n (members x.feasible e) (bound_vector u)
        downwards u ub q (inl a) =
            let te : t e ≡ Lower = subst (λ p. IsOtherBound p (t e)) q a.other in
            let (b, lb, vb) = at_lower (S.lower e) (S.upper e) (x.feasible.values e) (stands_at t x.feasible e c.there Lower te) in
            lex_ext n (λ k. bound_vector u k +ℚ neg_ℚ (bound_vector b k)) (λ k. bound_vector u k +ℚ neg_ℚ (members x.feasible e k))
            (λ k h. ap (λ y. bound_vector u k +ℚ neg_ℚ y) (sym (members_at t x.feasible e c.there (λ r. bound_not_basic Lower tt (sym te ∙ r)) b vb k h)))
            (bounds_apart b u (c.bounds_differ b u lb ub))
        downwards u ub q (inr (l, a)) = is_under n (S.upper e) (members x.feasible e) u ub (x.feasible.under e c.there a.enters)

        go : (p : Place) → s e ≡ p → IsLexPositive (suc S.rows) (λ k. signed down (members x.feasible e k +ℚ neg_ℚ (members fs e k)))
        go Lower q =
            let (b, lb, vb) = at_lower (S.lower e) (S.upper e) (fs.values e) (stands_at s fs e c.there Lower q) in
            lex_ext n (λ k. members x.feasible e k +ℚ neg_ℚ (bound_vector b k)) (λ k. signed down (members x.feasible e k +ℚ neg_ℚ (members fs e k)))
            (λ k h. ap₂ (λ y z. signed z (members x.feasible e k +ℚ neg_ℚ y)) (sym (members_at s fs e c.there c.nonbasic b vb k h)) (sym (c.from_lower q)))
            (upwards b lb q x.differs)
        go Upper q =
            let (u, ub, vu) = at_upper (S.lower e) (S.upper e) (fs.values e) (stands_at s fs e c.there Upper q) in
            lex_ext n (λ k. bound_vector u k +ℚ neg_ℚ (members x.feasible e k)) (λ k. signed down (members x.feasible e k +ℚ neg_ℚ (members fs e k)))
            (λ k h. ring (bound_vector u k ∷ members x.feasible e k ∷ []) (v 0 :- v 1) (minus (v 1 :- v 0)) refl
            ∙ ap₂ (λ y z. signed z (members x.feasible e k +ℚ neg_ℚ y)) (sym (members_at s fs e c.there c.nonbasic u vu k h)) (sym (c.from_upper q)))
            (downwards u ub q x.differs)
        go Zero q =
            lex_ext n (λ k. signed down (members x.feasible e k)) (λ k. signed down (members x.feasible e k +ℚ neg_ℚ (members fs e k)))
            (λ k h. ap (λ y. signed down y)
            (sym (add-zero (members x.feasible e k)) ∙ ap (λ y. members x.feasible e k +ℚ y) (sym (neg-zero))
            ∙ ap (λ y. members x.feasible e k +ℚ neg_ℚ y) (nil k ∙ sym (members_at s fs e c.there c.nonbasic zero_ℚ (at_zero (S.lower e) (S.upper e) (fs.values e) (stands_at s fs e c.there Zero q)) k h))))
            (x.from_zero q)
          where
            nil : (k : ℕ) → zero_ℚ ≡ bound_vector zero_ℚ k
            nil zero = refl
            nil (suc k) = refl
        go Absent q = absurd (c.present q)
        go Basic q = absurd (c.nonbasic q)

    -- A column that bounds the step to t: it was inside its bound on one side, and stands at this bound in t.
    pub record Hit (t : ℕ → Place) (x : IsNext S s e down t) : Type 0 where
      pub column : ℕ
      pub there : column < S.columns
      pub from : ((column ≡ e) × IsFlip S s e t) ⊎ IsExchange S s e column t
      pub up : Bool
      pub bound : ℚ
      pub is_bound : bound_of S up column ≡ Some bound
      pub inside : IsLexPositive (suc S.rows) (λ k. signed up (members fs column k +ℚ neg_ℚ (bound_vector bound k)))
      pub stands : t column ≡ bound_place up
      pub reached : (k : ℕ) → k < suc S.rows → members x.feasible column k ≡ bound_vector bound k
      pub apart : (l u : ℚ) → S.lower column ≡ Some l → S.upper column ≡ Some u → IsLexLess (suc S.rows) (bound_vector l) (bound_vector u)

    pub is_inside_lower : (j : ℕ) → j < S.columns → s j ≡ Basic → (b : ℚ) → S.lower j ≡ Some b → IsLexPositive (suc S.rows) (λ k. members fs j k +ℚ neg_ℚ (bound_vector b k))
    is_inside_lower j h q b e = is_above (suc S.rows) (S.lower j) (members fs j) b e (fs.above j h q)

    pub is_inside_upper : (j : ℕ) → j < S.columns → s j ≡ Basic → (b : ℚ) → S.upper j ≡ Some b → IsLexPositive (suc S.rows) (λ k. neg_ℚ (members fs j k +ℚ neg_ℚ (bound_vector b k)))
    is_inside_upper j h q b e =
        lex_ext (suc S.rows) (λ k. bound_vector b k +ℚ neg_ℚ (members fs j k)) (λ k. neg_ℚ (members fs j k +ℚ neg_ℚ (bound_vector b k)))
        (λ k m. ring (members fs j k ∷ bound_vector b k ∷ []) (v 1 :- v 0) (minus (v 0 :- v 1)) refl)
        (is_under (suc S.rows) (S.upper j) (members fs j) b e (fs.under j h q))

    pub basic_apart : (j : ℕ) → j < S.columns → s j ≡ Basic → (l u : ℚ) → S.lower j ≡ Some l → S.upper j ≡ Some u → IsLexLess (suc S.rows) (bound_vector l) (bound_vector u)
    basic_apart j h q l u a b =
        lex_ext (suc S.rows) (λ k. (members fs j k +ℚ neg_ℚ (bound_vector l k)) +ℚ (bound_vector u k +ℚ neg_ℚ (members fs j k))) (λ k. bound_vector u k +ℚ neg_ℚ (bound_vector l k))
        (λ k m. ring (members fs j k ∷ bound_vector l k ∷ bound_vector u k ∷ []) ((v 0 :- v 1) :+ (v 2 :- v 0)) (v 2 :- v 1) refl)
        (lex_add (suc S.rows) (λ k. members fs j k +ℚ neg_ℚ (bound_vector l k)) (λ k. bound_vector u k +ℚ neg_ℚ (members fs j k))
        (is_inside_lower j h q l a) (is_under (suc S.rows) (S.upper j) (members fs j) u b (fs.under j h q)))

    pub e_apart : (l u : ℚ) → S.lower e ≡ Some l → S.upper e ≡ Some u → IsLexLess (suc S.rows) (bound_vector l) (bound_vector u)
    e_apart l u a b = bounds_apart l u (c.bounds_differ l u a b)

    pub hit : (t : ℕ → Place) (x : IsNext S s e down t) → Hit t x
    hit t x = of x.differs
      where
        n : ℕ
        n = suc S.rows

        of_flip : IsFlip S s e t → (p : Place) → s e ≡ p → IsOtherBound p (t e) → Hit t x
        of_flip a Lower q te =
            let (b, lb, vb) = at_lower (S.lower e) (S.upper e) (fs.values e) (stands_at s fs e c.there Lower q) in
            let (u, ub, vu) = at_upper (S.lower e) (S.upper e) (x.feasible.values e) (stands_at t x.feasible e c.there Upper te) in
            record {
              column = e;
              there = c.there;
              from = inl (refl, a);
              up = true;
              bound = u;
              is_bound = ub;
              inside = lex_ext n (λ k. bound_vector u k +ℚ neg_ℚ (bound_vector b k)) (λ k. neg_ℚ (members fs e k +ℚ neg_ℚ (bound_vector u k)))
                  (λ k m. ring (bound_vector u k ∷ bound_vector b k ∷ []) (v 0 :- v 1) (minus (v 1 :- v 0)) refl ∙ ap (λ y. neg_ℚ (y +ℚ neg_ℚ (bound_vector u k))) (sym (members_at s fs e c.there c.nonbasic b vb k m)))
                  (e_apart b u lb ub);
              stands = te;
              reached = members_at t x.feasible e c.there (λ r. bound_not_basic Upper tt (sym te ∙ r)) u vu;
              apart = e_apart;
            }
        of_flip a Upper q te =
            let (u, ub, vu) = at_upper (S.lower e) (S.upper e) (fs.values e) (stands_at s fs e c.there Upper q) in
            let (b, lb, vb) = at_lower (S.lower e) (S.upper e) (x.feasible.values e) (stands_at t x.feasible e c.there Lower te) in
            record {
              column = e;
              there = c.there;
              from = inl (refl, a);
              up = false;
              bound = b;
              is_bound = lb;
              inside = lex_ext n (λ k. bound_vector u k +ℚ neg_ℚ (bound_vector b k)) (λ k. members fs e k +ℚ neg_ℚ (bound_vector b k))
                  (λ k m. ap (λ y. y +ℚ neg_ℚ (bound_vector b k)) (sym (members_at s fs e c.there c.nonbasic u vu k m)))
                  (e_apart b u lb ub);
              stands = te;
              reached = members_at t x.feasible e c.there (λ r. bound_not_basic Lower tt (sym te ∙ r)) b vb;
              apart = e_apart;
            }
        of_flip a Zero q te = absurd te
        of_flip a Absent q te = absurd te
        of_flip a Basic q te = absurd te

        of_exchange : (l : ℕ) → IsExchange S s e l t → (p : Place) → t l ≡ p → IsBound p → Hit t x
        of_exchange l a Lower q b =
            let (z, lz, vz) = at_lower (S.lower l) (S.upper l) (x.feasible.values l) (stands_at t x.feasible l a.there Lower q) in
            record {
              column = l;
              there = a.there;
              from = inr a;
              up = false;
              bound = z;
              is_bound = lz;
              inside = is_inside_lower l a.there a.was_basic z lz;
              stands = q;
              reached = members_at t x.feasible l a.there (λ r. bound_not_basic Lower tt (sym q ∙ r)) z vz;
              apart = basic_apart l a.there a.was_basic;
            }
        of_exchange l a Upper q b =
            let (z, lz, vz) = at_upper (S.lower l) (S.upper l) (x.feasible.values l) (stands_at t x.feasible l a.there Upper q) in
            record {
              column = l;
              there = a.there;
              from = inr a;
              up = true;
              bound = z;
              is_bound = lz;
              inside = is_inside_upper l a.there a.was_basic z lz;
              stands = q;
              reached = members_at t x.feasible l a.there (λ r. bound_not_basic Upper tt (sym q ∙ r)) z vz;
              apart = basic_apart l a.there a.was_basic;
            }
        of_exchange l a Zero q b = absurd b
        of_exchange l a Absent q b = absurd b
        of_exchange l a Basic q b = absurd b

        of : IsFlip S s e t ⊎ ((l : ℕ) × IsExchange S s e l t) → Hit t x
        of (inl a) = of_flip a (s e) refl a.other
        of (inr (l, a)) = of_exchange l a (t l) refl a.leaves

    from_where : (t : ℕ → Place) (p : ℕ) → ((p ≡ e) × IsFlip S s e t) ⊎ IsExchange S s e p t → (p ≡ e) ⊎ (s p ≡ Basic)
    from_where t p (inl q) = inl q.0
    from_where t p (inr a) = inr a.was_basic

    -- where that column stands in any next state
    unfoldable pub InPlay : Place → Type 0
    InPlay p = (p ≡ Basic) ⊎ ((p ≡ Lower) ⊎ (p ≡ Upper))

    bound_in_play : (p : Place) → IsBound p → InPlay p
    unfolding InPlay
    bound_in_play Lower b = inr (inl refl)
    bound_in_play Upper b = inr (inr refl)
    bound_in_play Zero b = absurd b
    bound_in_play Absent b = absurd b
    bound_in_play Basic b = inl refl

    other_in_play : (p q : Place) → IsOtherBound p q → InPlay q
    unfolding InPlay
    other_in_play Lower q b = inr (inr b)
    other_in_play Upper q b = inr (inl b)
    other_in_play Zero q b = absurd b
    other_in_play Absent q b = absurd b
    other_in_play Basic q b = absurd b

    pub in_play : (t : ℕ → Place) → IsFlip S s e t ⊎ ((l : ℕ) × IsExchange S s e l t) → (p : ℕ) → p < S.columns → (p ≡ e) ⊎ (s p ≡ Basic) → InPlay (t p)
    unfolding InPlay
    in_play t (inl a) p h (inl q) = subst (λ z. InPlay (t z)) (sym q) (other_in_play (s e) (t e) a.other)
    in_play t (inr (l, a)) p h (inl q) = inl (ap t q ∙ a.enters)
    in_play t (inl a) p h (inr b) = inl (a.rest p h (λ q. c.nonbasic (ap s (sym q) ∙ b)) ∙ b)
    in_play t (inr (l, a)) p h (inr b) = of (equal_or_not p l)
      where
        of : (p ≡ l) ⊎ (p ≢ l) → InPlay (t p)
        of (inl q) = subst (λ z. InPlay (t z)) (sym q) (bound_in_play (t l) a.leaves)
        of (inr q) = inl (a.rest p h (λ r. c.nonbasic (ap s (sym r) ∙ b)) q ∙ b)

    -- In a next state a column is inside its bound on a side, or stands there.
    pub inside_or_there : (t : ℕ → Place) (x : IsNext S s e down t) (p : ℕ) → p < S.columns → InPlay (t p)
        → ((l u : ℚ) → S.lower p ≡ Some l → S.upper p ≡ Some u → IsLexLess (suc S.rows) (bound_vector l) (bound_vector u))
        → (up : Bool) (b : ℚ) → bound_of S up p ≡ Some b
        → ((t p ≡ bound_place up) × ((k : ℕ) → k < suc S.rows → members x.feasible p k ≡ bound_vector b k)) ⊎ IsLexPositive (suc S.rows) (λ k. signed up (members x.feasible p k +ℚ neg_ℚ (bound_vector b k)))
    unfolding InPlay
    inside_or_there t x p h (inl q) apart false b e = inr (is_above (suc S.rows) (S.lower p) (members x.feasible p) b e (x.feasible.above p h q))
    inside_or_there t x p h (inl q) apart true b e =
        inr (lex_ext (suc S.rows) (λ k. bound_vector b k +ℚ neg_ℚ (members x.feasible p k)) (λ k. neg_ℚ (members x.feasible p k +ℚ neg_ℚ (bound_vector b k)))
        (λ k m. ring (members x.feasible p k ∷ bound_vector b k ∷ []) (v 1 :- v 0) (minus (v 0 :- v 1)) refl)
        (is_under (suc S.rows) (S.upper p) (members x.feasible p) b e (x.feasible.under p h q)))
    inside_or_there t x p h (inr (inl q)) apart false b e =
        let (z, lz, vz) = at_lower (S.lower p) (S.upper p) (x.feasible.values p) (stands_at t x.feasible p h Lower q) in
        let same : z ≡ b = cc in
        inl (q, members_at t x.feasible p h (λ r. bound_not_basic Lower tt (sym q ∙ r)) b (vz ∙ same))
    inside_or_there t x p h (inr (inl q)) apart true b e =
        let (z, lz, vz) = at_lower (S.lower p) (S.upper p) (x.feasible.values p) (stands_at t x.feasible p h Lower q) in
        inr (lex_ext (suc S.rows) (λ k. bound_vector b k +ℚ neg_ℚ (bound_vector z k)) (λ k. neg_ℚ (members x.feasible p k +ℚ neg_ℚ (bound_vector b k)))
        (λ k m. ring (bound_vector b k ∷ bound_vector z k ∷ []) (v 0 :- v 1) (minus (v 1 :- v 0)) refl
        ∙ ap (λ y. neg_ℚ (y +ℚ neg_ℚ (bound_vector b k))) (sym (members_at t x.feasible p h (λ r. bound_not_basic Lower tt (sym q ∙ r)) z vz k m)))
        (apart z b lz e))
    inside_or_there t x p h (inr (inr q)) apart false b e =
        let (z, uz, vz) = at_upper (S.lower p) (S.upper p) (x.feasible.values p) (stands_at t x.feasible p h Upper q) in
        inr (lex_ext (suc S.rows) (λ k. bound_vector z k +ℚ neg_ℚ (bound_vector b k)) (λ k. members x.feasible p k +ℚ neg_ℚ (bound_vector b k))
        (λ k m. ap (λ y. y +ℚ neg_ℚ (bound_vector b k)) (sym (members_at t x.feasible p h (λ r. bound_not_basic Upper tt (sym q ∙ r)) z vz k m)))
        (apart b z e uz))
    inside_or_there t x p h (inr (inr q)) apart true b e =
        let (z, uz, vz) = at_upper (S.lower p) (S.upper p) (x.feasible.values p) (stands_at t x.feasible p h Upper q) in
        let same : z ≡ b = cc in
        inl (q, members_at t x.feasible p h (λ r. bound_not_basic Upper tt (sym q ∙ r)) b (vz ∙ same))

    pub signed_step : (up : Bool) (m b r d : ℚ) → signed up (m +ℚ neg_ℚ b) +ℚ r *ℚ signed up d ≡ signed up ((m +ℚ r *ℚ d) +ℚ neg_ℚ b)
    signed_step false m b r d = ring (m ∷ b ∷ r ∷ d ∷ []) ((v 0 :- v 1) :+ v 2 :* v 3) ((v 0 :+ v 2 :* v 3) :- v 1) refl
    signed_step true m b r d = ring (m ∷ b ∷ r ∷ d ∷ []) (minus (v 0 :- v 1) :+ v 2 :* minus (v 3)) (minus ((v 0 :+ v 2 :* v 3) :- v 1)) refl

    pub signed_zero : (up : Bool) (m b : ℚ) → m ≡ b → signed up (m +ℚ neg_ℚ b) ≡ zero_ℚ
    signed_zero false m b q = zero_difference m b q
    signed_zero true m b q = ap neg_ℚ (zero_difference m b q) ∙ neg-zero

    -- A next state is not farther than another one.
    not_farther : (t1 : ℕ → Place) (x1 : IsNext S s e down t1) (t2 : ℕ → Place) (x2 : IsNext S s e down t2) → IsLexPositive (suc S.rows) (λ k. far t2 x2.feasible k +ℚ neg_ℚ (far t1 x1.feasible k)) → ⊥
    not_farther t1 x1 t2 x2 more =
        let h = hit t1 x1 in
        against h (inside_or_there t2 x2 h.column h.there (in_play t2 x2.differs h.column h.there (from_where t1 h.column h.from)) h.apart h.up h.bound h.is_bound)
      where
        n : ℕ
        n = suc S.rows

        gone : (h : Hit t1 x1) → IsLexPositive n (λ k. neg_ℚ (signed h.up (members x2.feasible h.column k +ℚ neg_ℚ (bound_vector h.bound k))))
        gone h =
            lex_ext n
            (λ k. neg_ℚ (signed h.up (members fs h.column k +ℚ neg_ℚ (bound_vector h.bound k)) +ℚ far t2 x2.feasible k *ℚ signed h.up (rate h.column)))
            (λ k. neg_ℚ (signed h.up (members x2.feasible h.column k +ℚ neg_ℚ (bound_vector h.bound k))))
            (λ k m. ap neg_ℚ (signed_step h.up (members fs h.column k) (bound_vector h.bound k) (far t2 x2.feasible k) (rate h.column)
            ∙ ap (λ y. signed h.up (y +ℚ neg_ℚ (bound_vector h.bound k))) (sym (travel t2 x2 h.column h.there k m))))
            (beyond n (λ k. signed h.up (members fs h.column k +ℚ neg_ℚ (bound_vector h.bound k))) (far t1 x1.feasible) (far t2 x2.feasible) (signed h.up (rate h.column))
            h.inside (far_positive t1 x1)
            (λ k m. signed_step h.up (members fs h.column k) (bound_vector h.bound k) (far t1 x1.feasible k) (rate h.column)
            ∙ signed_zero h.up (members fs h.column k +ℚ far t1 x1.feasible k *ℚ rate h.column) (bound_vector h.bound k) (sym (travel t1 x1 h.column h.there k m) ∙ h.reached k m))
            more)

        against : (h : Hit t1 x1)
            → ((t2 h.column ≡ bound_place h.up) × ((k : ℕ) → k < n → members x2.feasible h.column k ≡ bound_vector h.bound k)) ⊎ IsLexPositive n (λ k. signed h.up (members x2.feasible h.column k +ℚ neg_ℚ (bound_vector h.bound k)))
            → ⊥
        against h (inl q) = lex_zero n _ (gone h) (λ k m. ap neg_ℚ (signed_zero h.up (members x2.feasible h.column k) (bound_vector h.bound k) (q.1 k m)) ∙ neg-zero)
        against h (inr p) = lex_not_both n _ p (gone h)

    -- Two next states at one distance have the bounding column at one place.
    same_place : (t1 : ℕ → Place) (x1 : IsNext S s e down t1) (t2 : ℕ → Place) (x2 : IsNext S s e down t2) → ((k : ℕ) → k < suc S.rows → far t2 x2.feasible k ≡ far t1 x1.feasible k) → t2 (hit t1 x1).column ≡ t1 (hit t1 x1).column
    same_place t1 x1 t2 x2 same =
        let h = hit t1 x1 in
        of h (inside_or_there t2 x2 h.column h.there (in_play t2 x2.differs h.column h.there (from_where t1 h.column h.from)) h.apart h.up h.bound h.is_bound)
      where
        n : ℕ
        n = suc S.rows

        of : (h : Hit t1 x1)
            → ((t2 h.column ≡ bound_place h.up) × ((k : ℕ) → k < n → members x2.feasible h.column k ≡ bound_vector h.bound k)) ⊎ IsLexPositive n (λ k. signed h.up (members x2.feasible h.column k +ℚ neg_ℚ (bound_vector h.bound k)))
            → t2 h.column ≡ t1 h.column
        of h (inl q) = q.0 ∙ sym h.stands
        of h (inr p) = absurd (lex_zero n _ p (λ k m. signed_zero h.up (members x2.feasible h.column k) (bound_vector h.bound k)
            (travel t2 x2 h.column h.there k m ∙ (ap (λ y. members fs h.column k +ℚ y *ℚ rate h.column) (same k m) ∙ (sym (travel t1 x1 h.column h.there k m) ∙ h.reached k m)))))

    -- The column at which two next states agree: where both flip, e itself; else the one that leaves.
    Agree : (ℕ → Place) → (ℕ → Place) → Type 0
    Agree t1 t2 = (j : ℕ) → j < S.columns → t1 j ≡ t2 j

    agree_flips : (t1 t2 : ℕ → Place) → IsFlip S s e t1 → IsFlip S s e t2 → t2 e ≡ t1 e → Agree t1 t2
    unfolding Agree
    agree_flips t1 t2 a b q j h = of (equal_or_not j e)
      where
        of : (j ≡ e) ⊎ (j ≢ e) → t1 j ≡ t2 j
        of (inl r) = ap t1 r ∙ (sym q ∙ ap t2 (sym r))
        of (inr r) = a.rest j h r ∙ sym (b.rest j h r)

    agree_exchanges : (t1 t2 : ℕ → Place) (l : ℕ) → IsExchange S s e l t1 → IsExchange S s e l t2 → t2 l ≡ t1 l → Agree t1 t2
    unfolding Agree
    agree_exchanges t1 t2 l a b q j h = of (equal_or_not j e) (equal_or_not j l)
      where
        of : (j ≡ e) ⊎ (j ≢ e) → (j ≡ l) ⊎ (j ≢ l) → t1 j ≡ t2 j
        of (inl r) z = ap t1 r ∙ (a.enters ∙ (sym b.enters ∙ ap t2 (sym r)))
        of (inr r) (inl z) = ap t1 z ∙ (sym q ∙ ap t2 (sym z))
        of (inr r) (inr z) = a.rest j h r z ∙ sym (b.rest j h r z)

    pub other_not_basic : (p q : Place) → IsOtherBound p q → q ≢ Basic
    other_not_basic Lower q a b = cc
    other_not_basic Upper q a b = cc
    other_not_basic Zero q a b = a
    other_not_basic Absent q a b = a
    other_not_basic Basic q a b = a

    agree : (t1 t2 : ℕ → Place) (p : ℕ) → ((p ≡ e) × IsFlip S s e t1) ⊎ IsExchange S s e p t1 → IsFlip S s e t2 ⊎ ((l : ℕ) × IsExchange S s e l t2) → t2 p ≡ t1 p → Agree t1 t2
    agree t1 t2 p (inl a) (inl b) q = agree_flips t1 t2 a.1 b (ap t2 (sym a.0) ∙ (q ∙ ap t1 a.0))
    agree t1 t2 p (inl a) (inr (l, b)) q = absurd (other_not_basic (s e) (t1 e) a.1.other (ap t1 (sym a.0) ∙ (sym q ∙ (ap t2 a.0 ∙ b.enters))))
    agree t1 t2 p (inr a) (inl b) q = absurd (bound_not_basic (t1 p) a.leaves (sym q ∙ (b.rest p a.there (λ r. c.nonbasic (ap s (sym r) ∙ a.was_basic)) ∙ a.was_basic)))
    agree t1 t2 p (inr a) (inr (l, b)) q = of (equal_or_not p l)
      where
        of : (p ≡ l) ⊎ (p ≢ l) → Agree t1 t2
        of (inl r) = agree_exchanges t1 t2 p a (subst (λ z. IsExchange S s e z t2) (sym r) b) q
        of (inr r) = absurd (bound_not_basic (t1 p) a.leaves (sym q ∙ (b.rest p a.there (λ z. c.nonbasic (ap s (sym z) ∙ a.was_basic)) r ∙ a.was_basic)))

    -- There is at most one next state.
    pub next_unique : (t1 t2 : ℕ → Place) → IsNext S s e down t1 → IsNext S s e down t2 → (j : ℕ) → j < S.columns → t1 j ≡ t2 j
    unfolding Agree
    next_unique t1 t2 x1 x2 = of (lex_cases n (λ k. far t2 x2.feasible k +ℚ neg_ℚ (far t1 x1.feasible k)))
      where
        n : ℕ
        n = suc S.rows

        same : ((k : ℕ) → k < n → far t2 x2.feasible k +ℚ neg_ℚ (far t1 x1.feasible k) ≡ zero_ℚ) → (j : ℕ) → j < S.columns → t1 j ≡ t2 j
        same z = agree t1 t2 (hit t1 x1).column (hit t1 x1).from x2.differs (same_place t1 x1 t2 x2 (λ k m. difference_zero _ _ (z k m)))

        of : IsLexPositive n (λ k. far t2 x2.feasible k +ℚ neg_ℚ (far t1 x1.feasible k)) ⊎ (((k : ℕ) → k < n → far t2 x2.feasible k +ℚ neg_ℚ (far t1 x1.feasible k) ≡ zero_ℚ) ⊎ IsLexPositive n (λ k. neg_ℚ (far t2 x2.feasible k +ℚ neg_ℚ (far t1 x1.feasible k))))
            → (j : ℕ) → j < S.columns → t1 j ≡ t2 j
        of (inl p) = absurd (not_farther t1 x1 t2 x2 p)
        of (inr (inl z)) = same z
        of (inr (inr p)) =
            absurd (not_farther t2 x2 t1 x1 (lex_ext n (λ k. neg_ℚ (far t2 x2.feasible k +ℚ neg_ℚ (far t1 x1.feasible k))) (λ k. far t1 x1.feasible k +ℚ neg_ℚ (far t2 x2.feasible k))
            (λ k m. ring (far t2 x2.feasible k ∷ far t1 x1.feasible k ∷ []) (minus (v 0 :- v 1)) (v 1 :- v 0) refl) p))
