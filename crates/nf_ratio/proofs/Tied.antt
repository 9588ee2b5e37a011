-- Places that tie: where the least of the next members are kept, the least vectors are.
use Rattle.std.proofs.Common.{◌≡◌, ◌≢◌, ℕ, zero, suc, ◌<◌, ◌≤◌, ◌⊎◌, inl, inr, List, Option, Some, None, refl, sym, ap, ◌∙◌, subst, arith, [], ◌∷◌}
use Rattle.nf_num.specs.Rational.{ℚ, ◌+ℚ◌, neg_ℚ, ◌<ℚ◌}
use Rattle.nf_simplex.specs.Lex.{IsLexLess}
use Rattle.nf_simplex.proofs.FieldLaws.{less_cases}
use Rattle.nf_simplex.proofs.Lex.{less_difference, lex_ext, lex_zero, lex_not_both}
use Rattle.nf_simplex.proofs.Sum.{zero_difference}
use Rattle.nf_simplex.proofs.Terms.{v, minus, ◌:-◌, ring}
use Rattle.nf_ratio.specs.declared.tie.Found.{Found}
use Rattle.nf_ratio.specs.Ties.{tie, IsAmong, AreLeast}
use Rattle.nf_ratio.proofs.Offers.{there_or_none}

-- ---- membership
equal_or_not : (i k : ℕ) → (i ≡ k) ⊎ (i ≢ k)
equal_or_not i k = grind arith

below_last : (k n : ℕ) → k < suc n → (k < n) ⊎ (k ≡ n)
below_last k n h = grind arith

-- A place is among the first n of a list or not.
pub among_or_not : (ts : List ℕ) (n i : ℕ) → IsAmong ts n i ⊎ (IsAmong ts n i → ⊥)
among_or_not ts zero i = inr (λ a. (let h : a.0 < 0 = a.1 in absurd (omega arith)))
among_or_not ts (suc n) i = of (equal_or_not (tie ts n) i) (among_or_not ts n i)
  where
    of : (tie ts n ≡ i) ⊎ (tie ts n ≢ i) → IsAmong ts n i ⊎ (IsAmong ts n i → ⊥) → IsAmong ts (suc n) i ⊎ (IsAmong ts (suc n) i → ⊥)
    of (inl e) x = inl (n, (omega arith), e)
    of (inr d) (inl (k, h, e)) = inl (k, (omega arith), e)
    of (inr d) (inr x) = inr (λ a. at a.0 a.2 (below_last a.0 n a.1))
      where
        at : (k : ℕ) → tie ts k ≡ i → (k < n) ⊎ (k ≡ n) → ⊥
        at k e (inl h) = x (k, h, e)
        at k e (inr q) = d (ap (tie ts) (sym q) ∙ e)

-- ---- those of the least value
-- L has those of K whose value is the least.
pub record Narrows (K L : ℕ → Type 0) (value : ℕ → ℚ) : Type 0 where
  pub from : (i : ℕ) → L i → K i
  pub least : (i k : ℕ) → L i → K k → value k <ℚ value i → ⊥
  pub every : (i : ℕ) → K i → ((k : ℕ) → K k → value k <ℚ value i → ⊥) → L i
  pub some : (i : ℕ) → K i → (k : ℕ) × L k

not_none : (o : Option ℚ) (w : ℚ) → o ≡ Some w → o ≢ None
not_none o w e d = let z : Some w ≡ None = sym e ∙ d in cc

-- Place i is that of one of n candidates with a ratio.
abbrev pub IsCandidate : (ℕ → ℕ) → (ℕ → Option ℚ) → ℕ → ℕ → Type 0
IsCandidate place ratio n i = (j : ℕ) × (j < n) × (place j ≡ i) × (ratio j ≢ None)

module _ (place : ℕ → ℕ) (ratio : ℕ → Option ℚ) (n : ℕ) (ts : List ℕ) (f : Found) (a : AreLeast place ratio n ts f) (value : ℕ → ℚ) (is : (j : ℕ) (u : ℚ) → j < n → ratio j ≡ Some u → value (place j) ≡ u) where
  least_there : (j : ℕ) → j < n → ratio j ≢ None → (w : ℚ) × (f.least ≡ Some w)
  least_there j h t = of (there_or_none f.least)
    where
      of : (f.least ≡ None) ⊎ ((w : ℚ) × (f.least ≡ Some w)) → (w : ℚ) × (f.least ≡ Some w)
      of (inl e) = absurd (t (a.none e j h))
      of (inr x) = x

  pub narrows : Narrows (IsCandidate place ratio n) (IsAmong ts f.count) value
  narrows = record { from = from; least = least; every = every; some = some }
    where
      from : (i : ℕ) → IsAmong ts f.count i → IsCandidate place ratio n i
      from i (k, h, e) = let t = a.each k h in (t.0, t.1, sym t.2 ∙ e, t.3)

      least : (i k : ℕ) → IsAmong ts f.count i → IsCandidate place ratio n k → value k <ℚ value i → ⊥
      least i k (b, h, e) (j, g, q, t) less =
          let x = a.each b h in
          let w = least_there x.0 x.1 x.3 in
          of w.0 w.1 (x.4 ∙ w.1) (there_or_none (ratio j))
        where
          of : (w : ℚ) → f.least ≡ Some w → ratio (a.each b h).0 ≡ Some w → (ratio j ≡ None) ⊎ ((u : ℚ) × (ratio j ≡ Some u)) → ⊥
          of w y z (inl d) = t d
          of w y z (inr (u, d)) = a.least j u w g d y
              (subst (λ r. r <ℚ w) (ap value (sym q) ∙ is j u g d) (subst (λ r. value k <ℚ r) (ap value (sym e ∙ (a.each b h).2) ∙ is (a.each b h).0 w (a.each b h).1 z) less))

      every : (i : ℕ) → IsCandidate place ratio n i → ((k : ℕ) → IsCandidate place ratio n k → value k <ℚ value i → ⊥) → IsAmong ts f.count i
      every i (j, g, q, t) none = of (there_or_none (ratio j)) (least_there j g t)
        where
          of : (ratio j ≡ None) ⊎ ((u : ℚ) × (ratio j ≡ Some u)) → (w : ℚ) × (f.least ≡ Some w) → IsAmong ts f.count i
          of (inl d) w = absurd (t d)
          of (inr (u, d)) (w, y) = by (less_cases w u) (a.some w y)
            where
              by : (w <ℚ u) ⊎ ((w ≡ u) ⊎ (u <ℚ w)) → (k : ℕ) × (k < n) × (ratio k ≡ Some w) → IsAmong ts f.count i
              by (inl l) (k, h, z) = absurd (none (place k) (k, h, refl, not_none (ratio k) w z) (subst (λ r. r <ℚ value i) (sym (is k w h z)) (subst (λ r. w <ℚ r) (sym (ap value (sym q) ∙ is j u g d)) l)))
              by (inr (inl e)) k = subst (IsAmong ts f.count) q (a.every j g t (d ∙ (ap Some (sym e) ∙ sym y)))
              by (inr (inr l)) k = absurd (a.least j u w g d y l)

      some : (i : ℕ) → IsCandidate place ratio n i → (k : ℕ) × IsAmong ts f.count k
      some i (j, g, q, t) =
          let w = least_there j g t in
          let s = a.some w.0 w.1 in
          (place s.0, a.every s.0 s.1 (not_none (ratio s.0) w.0 s.2) (s.2 ∙ sym w.1))

-- The same with equal sets.
pub narrows_by : (K M L : ℕ → Type 0) (value : ℕ → ℚ) → ((i : ℕ) → K i → M i) → ((i : ℕ) → M i → K i) → Narrows K L value → Narrows M L value
narrows_by K M L value to back x = record {
  from = λ i a. to i (x.from i a);
  least = λ i k a b. x.least i k a (back k b);
  every = λ i a none. x.every i (back i a) (λ k b. none k (to k b));
  some = λ i a. x.some i (back i a);
}

-- ---- vectors
-- Of the places up to m that may have a ratio, where `may` is there, those of K are the least in the first n members of
-- their vectors.
pub record IsTie (m : ℕ) (may : ℕ → Option ℚ) (R : ℕ → ℕ → ℚ) (n : ℕ) (K : ℕ → Type 0) : Type 0 where
  pub below : (i : ℕ) → K i → i < suc m
  pub within : (i : ℕ) → K i → may i ≢ None
  pub equal : (i k : ℕ) → K i → K k → (q : ℕ) → q < n → R i q ≡ R k q
  pub less : (i k : ℕ) → i < suc m → may i ≢ None → (K i → ⊥) → K k → IsLexLess n (R k) (R i)
  pub some : (i : ℕ) → i < suc m → may i ≢ None → (k : ℕ) × K k

last_or_below : (q n : ℕ) → q < suc n → (q < n) ⊎ (q ≡ n)
last_or_below q n h = grind arith

-- Before any member, all tie.
abbrev pub MayTie : ℕ → (ℕ → Option ℚ) → ℕ → Type 0
MayTie m may i = (i < suc m) × (may i ≢ None)

pub tie_first : (m : ℕ) (may : ℕ → Option ℚ) (R : ℕ → ℕ → ℚ) → IsTie m may R 0 (MayTie m may)
tie_first m may R = record {
  below = λ i h. h.0;
  within = λ i h. h.1;
  equal = λ i k h l q z. absurd (omega arith);
  less = λ i k h a b d. absurd (b (h, a));
  some = λ i h n. (i, (h, n));
}

pub longer : (n l : ℕ) (u t : ℕ → ℚ) → n ≤ l → IsLexLess n u t → IsLexLess l u t
longer n l u t h p = record { first = p.first; within = (let a = p.within in omega arith); positive = p.positive; zeros = p.zeros }

module _ (m : ℕ) (may : ℕ → Option ℚ) (R : ℕ → ℕ → ℚ) (n : ℕ) (K : ℕ → Type 0) (t : IsTie m may R n K) where
  -- Those with the least of the next members are kept.
  pub tie_next : (L : ℕ → Type 0) → ((i : ℕ) → i < suc m → may i ≢ None → K i ⊎ (K i → ⊥)) → Narrows K L (λ i. R i n) → IsTie m may R (suc n) L
  tie_next L decided x = record {
    below = λ i a. t.below i (x.from i a);
    within = λ i a. t.within i (x.from i a);
    equal = λ i k a b q z. equal i k a b q (last_or_below q n z);
    less = λ i k h a b d. less i k h a b d (decided i h a);
    some = λ i h a. (let s = t.some i h a in x.some s.0 s.1);
  }
    where
      both : (i k : ℕ) → (R i n <ℚ R k n → ⊥) → (R k n <ℚ R i n → ⊥) → R i n ≡ R k n
      both i k a b = of (less_cases (R i n) (R k n))
        where
          of : (R i n <ℚ R k n) ⊎ ((R i n ≡ R k n) ⊎ (R k n <ℚ R i n)) → R i n ≡ R k n
          of (inl l) = absurd (a l)
          of (inr (inl e)) = e
          of (inr (inr l)) = absurd (b l)

      equal : (i k : ℕ) → L i → L k → (q : ℕ) → (q < n) ⊎ (q ≡ n) → R i q ≡ R k q
      equal i k a b q (inl z) = t.equal i k (x.from i a) (x.from k b) q z
      equal i k a b q (inr z) = subst (λ y. R i y ≡ R k y) (sym z) (both i k (x.least k i b (x.from i a)) (x.least i k a (x.from k b)))

      less : (i k : ℕ) → i < suc m → may i ≢ None → (L i → ⊥) → L k → K i ⊎ (K i → ⊥) → IsLexLess (suc n) (R k) (R i)
      less i k h a b d (inr out) = longer n (suc n) (R k) (R i) (omega arith) (t.less i k h a out (x.from k d))
      less i k h a b d (inl c) = of (less_cases (R k n) (R i n))
        where
          of : (R k n <ℚ R i n) ⊎ ((R k n ≡ R i n) ⊎ (R i n <ℚ R k n)) → IsLexLess (suc n) (R k) (R i)
          of (inl l) = record {
            first = n;
            within = omega arith;
            positive = less_difference (R k n) (R i n) l;
            zeros = λ q z. zero_difference (R i q) (R k q) (t.equal i k c (x.from k d) q z);
          }
          of (inr (inl e)) = absurd (b (x.every i c (λ j u l. x.least k j d u (subst (λ r. R j n <ℚ r) (sym e) l))))
          of (inr (inr l)) = absurd (x.least k i d c l)

  equal_not_less : (l : ℕ) (u w : ℕ → ℚ) → ((q : ℕ) → q < l → u q ≡ w q) → IsLexLess l u w → ⊥
  equal_not_less l u w e p = lex_zero l (λ k. w k +ℚ neg_ℚ (u k)) p (λ k h. zero_difference (w k) (u k) (sym (e k h)))

  not_both : (l : ℕ) (u w : ℕ → ℚ) → IsLexLess l u w → IsLexLess l w u → ⊥
  not_both l u w a b = lex_not_both l (λ k. w k +ℚ neg_ℚ (u k)) a (lex_ext l (λ k. u k +ℚ neg_ℚ (w k)) (λ k. neg_ℚ (w k +ℚ neg_ℚ (u k))) (λ k h. ring (u k ∷ w k ∷ []) (v 0 :- v 1) (minus (v 1 :- v 0)) refl) b)

  module _ (decided : (i : ℕ) → K i ⊎ (K i → ⊥)) where
    -- A place that is kept alone is the least, in all members.
    pub tie_alone : (i : ℕ) → K i → ((k : ℕ) → K k → k ≡ i) → (l : ℕ) → n ≤ l → (k : ℕ) → k < suc m → may k ≢ None → IsLexLess l (R k) (R i) → ⊥
    tie_alone i a alone l le k g there less = of (decided k)
      where
        of : K k ⊎ (K k → ⊥) → ⊥
        of (inr e) = not_both l (R k) (R i) less (longer n l (R i) (R k) le (t.less k i g there e a))
        of (inl e) = equal_not_less l (R k) (R i) (λ q z. ap (λ y. R y q) (alone k e)) less

    -- A place that is kept is the least in fewer members.
    pub tie_least : (i : ℕ) → K i → (l : ℕ) → l ≤ n → (k : ℕ) → k < suc m → may k ≢ None → IsLexLess l (R k) (R i) → ⊥
    tie_least i a l le k g there less = of (decided k)
      where
        of : K k ⊎ (K k → ⊥) → ⊥
        of (inr e) = not_both n (R k) (R i) (longer l n (R k) (R i) le less) (t.less k i g there e a)
        of (inl e) = equal_not_less l (R k) (R i) (λ q z. t.equal k i e a q (omega arith)) less
