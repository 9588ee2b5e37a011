-- The places that tie, candidate by candidate.
use Rattle.std.proofs.Common.{◌≡◌, ◌≢◌, ℕ, ◌+◌, ◌<◌, ◌⊎◌, inl, inr, List, length, set, Option, Some, None, refl, sym, ap, ◌∙◌, subst, arith}
use Rattle.std.proofs.lemmas.List.{get_or-set_same, get_or-set_other}
use Rattle.std.specs.declared.cmp.Ordering.{Ordering}
use Rattle.std.specs.declared.cmp.Ordering.TheVariants.{Less, Equal, Greater}
use Rattle.nf_num.specs.Rational.{ℚ, ◌<ℚ◌}
use Rattle.nf_frac.specs.Compared.{IsOrder}
use Rattle.nf_num.proofs.Order.{lt_irrefl}
use Rattle.nf_simplex.proofs.FieldLaws.{less_cases, less_trans}
use Rattle.nf_ratio.specs.declared.tie.Found.{Found}
use Rattle.nf_ratio.specs.Ties.{tie, IsAmong, AreLeast, Compares, IsBelow, IsOffered, IsOfferedIf}

pub some_same : (x y : ℚ) → Some x ≡ Some y → x ≡ y
some_same x y e = cc

pub some_none : (x : ℚ) → Some x ≡ None → ⊥
some_none x e = cc

pub there_or_none : (o : Option ℚ) → (o ≡ None) ⊎ ((w : ℚ) × (o ≡ Some w))
there_or_none None = inl refl
there_or_none (Some w) = inr (w, refl)

below_or_last : (j n : ℕ) → j < n + 1 → (j < n) ⊎ (j ≡ n)
below_or_last j n b = grind arith

pub both_ways : (a b : ℚ) → a <ℚ b → b <ℚ a → ⊥
both_ways a b h k = lt_irrefl a (less_trans a b a h k)

-- ---- how a ratio compares
pub below_of : (r : ℚ) (o : Option ℚ) (q : Ordering) → Compares r o q → q ≡ Less → IsBelow r o
below_of r None q h e = tt
below_of r (Some v) q h e = subst (λ z. IsOrder z r v) e h

pub same_of : (r : ℚ) (o : Option ℚ) (q : Ordering) → Compares r o q → q ≡ Equal → o ≡ Some r
same_of r None q h e = absurd (let z : Less ≡ Equal = sym h ∙ e in cc)
same_of r (Some v) q h e = ap Some (sym (subst (λ z. IsOrder z r v) e h))

pub above_of : (r : ℚ) (o : Option ℚ) (q : Ordering) → Compares r o q → q ≡ Greater → (v : ℚ) × (o ≡ Some v) × (v <ℚ r)
above_of r None q h e = absurd (let z : Less ≡ Greater = sym h ∙ e in cc)
above_of r (Some v) q h e = (v, refl, subst (λ z. IsOrder z r v) e h)

-- ---- one candidate more
module _ (place : ℕ → ℕ) (ratio : ℕ → Option ℚ) where
  -- Before any candidate the list is empty.
  pub none_yet : (ts : List ℕ) (f : Found) → f.count ≡ 0 → f.least ≡ None → AreLeast place ratio 0 ts f
  none_yet ts f empty nothing = record {
    few = omega (arith, empty);
    some = λ v e. absurd (some_none v (sym e ∙ nothing));
    none = λ e j h. absurd (omega arith);
    least = λ j u v h a e. absurd (some_none v (sym e ∙ nothing));
    each = λ k h. absurd (omega (arith, empty));
    every = λ j h. absurd (omega arith);
    in_order = λ k l h g. absurd (omega (arith, empty));
  }

  -- The same ratios are as good.
  pub same_ratios : (other : ℕ → Option ℚ) (n : ℕ) (ts : List ℕ) (f : Found) → ((j : ℕ) → j < n → ratio j ≡ other j) → AreLeast place ratio n ts f → AreLeast place other n ts f
  same_ratios other n ts f same a = record {
    few = a.few;
    some = λ v e. (let s = a.some v e in (s.0, s.1, sym (same s.0 s.1) ∙ s.2));
    none = λ e j h. sym (same j h) ∙ a.none e j h;
    least = λ j u v h z e. a.least j u v h (same j h ∙ z) e;
    each = λ k h. (let t = a.each k h in (t.0, t.1, t.2, (λ z. t.3 (same t.0 t.1 ∙ z)), sym (same t.0 t.1) ∙ t.4));
    every = λ j h t z. a.every j h (λ y. t (sym (same j h) ∙ y)) (same j h ∙ z);
    in_order = a.in_order;
  }

  -- Places beyond the candidates stay where the list is written.
  pub stays : (n : ℕ) (ts : List ℕ) (f : Found) (r : ℚ) (q : ℕ) (g : Found) (us : List ℕ) → AreLeast place ratio n ts f → IsOffered f ts q r g us → (j : ℕ) → n < j → tie us j ≡ tie ts j
  stays n ts f r q g us a (inl (below, e, d)) j h = ap (λ l. tie l j) d ∙ get_or-set_other ts 0 j q 0 (λ z. (let y : j ≡ 0 = z in omega (arith, y, h)))
  stays n ts f r q g us a (inr (inl (same, e, d))) j h = ap (λ l. tie l j) d ∙ get_or-set_other ts f.count j q 0 (λ z. (let y : j ≡ f.count = z in let few = a.few in omega (arith, y, h, few)))
  stays n ts f r q g us a (inr (inr (v, same, less, e, d))) j h = ap (λ l. tie l j) d

  module _ (n : ℕ) (ts : List ℕ) (f : Found) (a : AreLeast place ratio n ts f) where
    -- A candidate without a ratio changes nothing.
    pub passed_over : ratio n ≡ None → AreLeast place ratio (n + 1) ts f
    passed_over e = record {
      few = (let h = a.few in omega arith);
      some = λ v z. (let s = a.some v z in (s.0, (let h = s.1 in omega arith), s.2));
      none = λ z j h. of_none z j (below_or_last j n h);
      least = λ j u v h z y. of_least j u v z y (below_or_last j n h);
      each = λ k h. (let t = a.each k h in (t.0, (let g = t.1 in omega arith), t.2, t.3, t.4));
      every = λ j h t z. of_every j t z (below_or_last j n h);
      in_order = a.in_order;
    }
      where
        of_none : f.least ≡ None → (j : ℕ) → (j < n) ⊎ (j ≡ n) → ratio j ≡ None
        of_none z j (inl h) = a.none z j h
        of_none z j (inr h) = ap ratio h ∙ e

        of_least : (j : ℕ) (u v : ℚ) → ratio j ≡ Some u → f.least ≡ Some v → (j < n) ⊎ (j ≡ n) → u <ℚ v → ⊥
        of_least j u v z y (inl h) = a.least j u v h z y
        of_least j u v z y (inr h) = absurd (some_none u (sym z ∙ (ap ratio h ∙ e)))

        of_every : (j : ℕ) → ratio j ≢ None → ratio j ≡ f.least → (j < n) ⊎ (j ≡ n) → IsAmong ts f.count (place j)
        of_every j t z (inl h) = a.every j h t z
        of_every j t z (inr h) = absurd (t (ap ratio h ∙ e))

    module _ (r : ℚ) (is : ratio n ≡ Some r) (rises : (j : ℕ) → j < n → place j < place n) (room : f.count < length ts) where
      -- It begins the list anew,
      anew : IsBelow r f.least → AreLeast place ratio (n + 1) (set ts 0 (place n)) (record { count = 1; least = Some r })
      anew less = record {
        few = omega arith;
        some = λ v z. (n, (omega arith), is ∙ z);
        none = λ z. absurd (some_none r z);
        least = λ j u v h z y. of_least j u v z y (below_or_last j n h);
        each = λ k h. (n, (omega arith), (let e : k ≡ 0 = omega arith in ap (tie (set ts 0 (place n))) e ∙ here), (λ z. some_none r (sym is ∙ z)), is);
        every = λ j h t z. of_every j z (below_or_last j n h);
        in_order = λ k l h g. absurd (omega arith);
      }
        where
          here : tie (set ts 0 (place n)) 0 ≡ place n
          here = get_or-set_same ts 0 (place n) 0 (omega arith)

          -- a ratio before it is greater
          greater : (j : ℕ) (u : ℚ) → j < n → ratio j ≡ Some u → r <ℚ u
          greater j u h z = of f.least refl less
            where
              of : (o : Option ℚ) → f.least ≡ o → IsBelow r o → r <ℚ u
              of None e l = absurd (some_none u (sym z ∙ a.none e j h))
              of (Some v) e l = by (less_cases v u)
                where
                  by : (v <ℚ u) ⊎ ((v ≡ u) ⊎ (u <ℚ v)) → r <ℚ u
                  by (inl x) = less_trans r v u l x
                  by (inr (inl x)) = subst (λ y. r <ℚ y) x l
                  by (inr (inr x)) = absurd (a.least j u v h z e x)

          of_least : (j : ℕ) (u v : ℚ) → ratio j ≡ Some u → Some r ≡ Some v → (j < n) ⊎ (j ≡ n) → u <ℚ v → ⊥
          of_least j u v z y (inl h) l = both_ways u r (subst (λ w. u <ℚ w) (sym (some_same r v y)) l) (greater j u h z)
          of_least j u v z y (inr h) l = lt_irrefl r (subst (λ w. w <ℚ r) (some_same u r (sym z ∙ (ap ratio h ∙ is))) (subst (λ w. u <ℚ w) (sym (some_same r v y)) l))

          of_every : (j : ℕ) → ratio j ≡ Some r → (j < n) ⊎ (j ≡ n) → IsAmong (set ts 0 (place n)) 1 (place j)
          of_every j z (inl h) = absurd (lt_irrefl r (greater j r h z))
          of_every j z (inr h) = (0, (omega arith), here ∙ ap place (sym h))

      -- joins it,
      joins : f.least ≡ Some r → AreLeast place ratio (n + 1) (set ts f.count (place n)) (record { count = f.count + 1; least = f.least })
      joins same = record {
        few = (let h = a.few in omega arith);
        some = λ v z. (let s = a.some v z in (s.0, (let h = s.1 in omega arith), s.2));
        none = λ z. absurd (some_none r (sym same ∙ z));
        least = λ j u v h z y. of_least j u v z y (below_or_last j n h);
        each = λ k h. of_each k (below_or_last k f.count h);
        every = λ j h t z. of_every j t z (below_or_last j n h);
        in_order = λ k l h g. of_order k l h (below_or_last l f.count g);
      }
        where
          us : List ℕ
          us = set ts f.count (place n)

          here : tie (set ts f.count (place n)) f.count ≡ place n
          here = get_or-set_same ts f.count (place n) 0 room

          before : (k : ℕ) → k < f.count → tie (set ts f.count (place n)) k ≡ tie ts k
          before k h = get_or-set_other ts f.count k (place n) 0 (λ e. (let z : k ≡ f.count = e in omega (arith, z, h)))

          of_least : (j : ℕ) (u v : ℚ) → ratio j ≡ Some u → f.least ≡ Some v → (j < n) ⊎ (j ≡ n) → u <ℚ v → ⊥
          of_least j u v z y (inl h) l = a.least j u v h z y l
          of_least j u v z y (inr h) l = lt_irrefl v (subst (λ w. w <ℚ v) (some_same u v (sym z ∙ (ap ratio h ∙ (is ∙ (sym same ∙ y))))) l)

          of_each : (k : ℕ) → (k < f.count) ⊎ (k ≡ f.count) → (j : ℕ) × (j < n + 1) × (tie (set ts f.count (place n)) k ≡ place j) × (ratio j ≢ None) × (ratio j ≡ f.least)
          of_each k (inl h) = let t = a.each k h in (t.0, (let g = t.1 in omega arith), before k h ∙ t.2, t.3, t.4)
          of_each k (inr h) = (n, (omega arith), ap (tie (set ts f.count (place n))) h ∙ here, (λ z. some_none r (sym is ∙ z)), is ∙ sym same)

          of_every : (j : ℕ) → ratio j ≢ None → ratio j ≡ f.least → (j < n) ⊎ (j ≡ n) → IsAmong (set ts f.count (place n)) (f.count + 1) (place j)
          of_every j t z (inl h) = let k = a.every j h t z in (k.0, (let g = k.1 in omega arith), before k.0 k.1 ∙ k.2)
          of_every j t z (inr h) = (f.count, (omega arith), here ∙ ap place (sym h))

          of_order : (k l : ℕ) → k < l → (l < f.count) ⊎ (l ≡ f.count) → tie (set ts f.count (place n)) k < tie (set ts f.count (place n)) l
          of_order k l h (inl g) = let x = before k (omega arith) in let y = before l g in let z = a.in_order k l h g in omega (arith, x, y, z)
          of_order k l h (inr g) =
              let q : k < f.count = omega (arith, h, g) in
              let x = before k q in
              let y : tie (set ts f.count (place n)) l ≡ place n = ap (tie (set ts f.count (place n))) g ∙ here in
              let t = a.each k q in
              let z : tie ts k ≡ place t.0 = t.2 in
              let w : place t.0 < place n = rises t.0 t.1 in
              omega (arith, x, y, z, w)

      -- or is left out.
      left_out : (v : ℚ) → f.least ≡ Some v → v <ℚ r → AreLeast place ratio (n + 1) ts f
      left_out v same less = record {
        few = (let h = a.few in omega arith);
        some = λ w z. (let s = a.some w z in (s.0, (let h = s.1 in omega arith), s.2));
        none = λ z. absurd (some_none v (sym same ∙ z));
        least = λ j u w h z y. of_least j u w z y (below_or_last j n h);
        each = λ k h. (let t = a.each k h in (t.0, (let g = t.1 in omega arith), t.2, t.3, t.4));
        every = λ j h t z. of_every j t z (below_or_last j n h);
        in_order = a.in_order;
      }
        where
          of_least : (j : ℕ) (u w : ℚ) → ratio j ≡ Some u → f.least ≡ Some w → (j < n) ⊎ (j ≡ n) → u <ℚ w → ⊥
          of_least j u w z y (inl h) l = a.least j u w h z y l
          of_least j u w z y (inr h) l = both_ways v r less (subst (λ q. r <ℚ q) (some_same w v (sym y ∙ same)) (subst (λ q. q <ℚ w) (some_same u r (sym z ∙ (ap ratio h ∙ is))) l))

          of_every : (j : ℕ) → ratio j ≢ None → ratio j ≡ f.least → (j < n) ⊎ (j ≡ n) → IsAmong ts f.count (place j)
          of_every j t z (inl h) = a.every j h t z
          of_every j t z (inr h) = absurd (lt_irrefl r (subst (λ q. q <ℚ r) (some_same v r (sym same ∙ (sym z ∙ (ap ratio h ∙ is)))) less))

      pub offered : (g : Found) (us : List ℕ) → IsOffered f ts (place n) r g us → AreLeast place ratio (n + 1) us g
      offered g us (inl (below, e, d)) = subst (λ x. AreLeast place ratio (n + 1) us x) (sym e) (subst (λ x. AreLeast place ratio (n + 1) x (record { count = 1; least = Some r })) (sym d) (anew below))
      offered g us (inr (inl (same, e, d))) = subst (λ x. AreLeast place ratio (n + 1) us x) (sym e) (subst (λ x. AreLeast place ratio (n + 1) x (record { count = f.count + 1; least = Some r })) (sym d) (subst (λ o. AreLeast place ratio (n + 1) (set ts f.count (place n)) (record { count = f.count + 1; least = o })) same (joins same)))
      offered g us (inr (inr (v, same, less, e, d))) = subst (λ x. AreLeast place ratio (n + 1) us x) (sym e) (subst (λ x. AreLeast place ratio (n + 1) x f) (sym d) (left_out v same less))

    -- The same, where it may have no ratio.
    pub offered_if : (o : Option ℚ) → ratio n ≡ o → ((j : ℕ) → j < n → place j < place n) → f.count < length ts → (g : Found) (us : List ℕ) → IsOfferedIf f ts (place n) o g us → AreLeast place ratio (n + 1) us g
    offered_if None is rises room g us (e, d) = subst (λ x. AreLeast place ratio (n + 1) us x) (sym e) (subst (λ x. AreLeast place ratio (n + 1) x f) (sym d) (passed_over is))
    offered_if (Some r) is rises room g us h = offered r is rises room g us h
