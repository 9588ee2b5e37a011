-- The subtree of a node is one block of the preorder: the node, and the vertices after it up to the first that is not deeper.
use Rattle.std.proofs.Common.{◌≡◌, ◌≢◌, ◌⊎◌, inl, inr, ℕ, zero, suc, ◌+◌, ◌-◌, ◌<◌, ◌≤◌, Bool, true, false, List, length, get_or, set, refl, sym, ap, ap₂, ◌∙◌, subst, arith, eq-eqb, ne_eqb}
use Rattle.std.specs.Prelude.{nat_eq, if◌then◌else◌, ◌||◌}
use Rattle.std.proofs.lemmas.List.{get_or-set_same, get_or-set_other}
use native.Mathlib.Decide.{ℕ_discrete}
use Rattle.nf_num.specs.Rational.{ℚ, zero_ℚ, ◌+ℚ◌}
use Rattle.nf_simplex.proofs.FieldLaws.{add-zero}
use Rattle.nf_simplex.proofs.Sum.{equal_or_not}
use Rattle.nf_grove.specs.Order.{IsPreorder, IsThread}
use Rattle.nf_frac.specs.declared.passed.Passed.{Passed}
use Rattle.nf_frac.specs.declared.passed.Op.TheVariants.{Add}
use Rattle.nf_frac.specs.Range.{Passes}
use Rattle.nf_model.specs.Program.{LinearProgram, at}
use Rattle.nf_links.specs.Map.{LinkMap}
use Rattle.nf_simplex.specs.Standing.{Standing}
use Rattle.nf_sums.proofs.Laws.{passes_from}
use Rattle.nf_basis.specs.declared.col.Col.{Col}
use Rattle.nf_tree.specs.Links.{IsTreeOf}
use Rattle.nf_tree.specs.Duals.{IsRaisedBelow, IsSubtree, PassesRaised}

-- v is one of the `count` vertices of an order from place k on.
unfoldable pub among : (order : ℕ → ℕ) (k count v : ℕ) → Bool
among order k zero v = false
among order k (suc count) v = nat_eq (order (k + count)) v || among order k count v

either : (a b : Bool) → b ≡ true → a || b ≡ true
either true b e = refl
either false b e = e

among_here : (order : ℕ → ℕ) (k count v r : ℕ) → k ≤ r → r < k + count → order r ≡ v → among order k count v ≡ true
unfolding among
among_here order k zero v r a b e = absurd (omega arith)
among_here order k (suc count) v r a b e = elim (ℕ_discrete r (k + count)) [
  | yes q ↦ ap (λ c. c || among order k count v) (eq-eqb (order (k + count)) v (ap order (sym q) ∙ e))
  | no d ↦ either (nat_eq (order (k + count)) v) (among order k count v) (among_here order k count v r a (omega arith) e)
]

among_not : (order : ℕ → ℕ) (k count v : ℕ) → ((r : ℕ) → k ≤ r → r < k + count → order r ≢ v) → among order k count v ≡ false
unfolding among
among_not order k zero v off = refl
among_not order k (suc count) v off = ap₂ (λ a b. a || b) (ne_eqb (order (k + count)) v (off (k + count) (omega arith) (omega arith))) (among_not order k count v (λ r a b. off r a (omega arith)))

module _ (n : ℕ) (pred depth order : ℕ → ℕ) (pre : IsPreorder n pred depth order) where
  no_other : (q r : ℕ) → q ≤ n → r ≤ n → q ≢ r → order q ≢ order r
  no_other q r a b ne e = of (elim (ℕ_discrete q r) [ yes z ↦ absurd (ne z) | no d ↦ apart q r ne ])
    where
      apart : (q r : ℕ) → q ≢ r → (q < r) ⊎ (r < q)
      apart q r ne = grind arith

      of : (q < r) ⊎ (r < q) → ⊥
      of (inl h) = pre.ordered.distinct q r h b e
      of (inr h) = pre.ordered.distinct r q h a (sym e)

  off_block : (k count r : ℕ) → k + count ≤ suc n → r ≤ n → (r < k) ⊎ (k + count ≤ r) → among order k count (order r) ≡ false
  off_block k count r h b out = among_not order k count (order r) (λ q x y. no_other q r (omega arith) b (apart out q x y))
    where
      apart : (r < k) ⊎ (k + count ≤ r) → (q : ℕ) → k ≤ q → q < k + count → q ≢ r
      apart (inl z) q x y e = absurd (omega arith)
      apart (inr z) q x y e = absurd (omega arith)

  module _ (deep : (i : ℕ) → i < n → depth (suc i) ≡ suc (depth (pred (suc i)))) (k count : ℕ) (some : 0 < k) (most : k ≤ n) (one : 0 < count) (within : k + count ≤ suc n)
      (deeper : (r : ℕ) → k < r → r < k + count → depth (order k) < depth (order r)) (ends : k + count ≤ n → depth (order (k + count)) ≤ depth (order k)) where
    in_block : (r : ℕ) → k ≤ r → r < k + count → among order k count (order r) ≡ true
    in_block r a b = among_here order k count (order r) r a b refl

    split : (r : ℕ) → ((k ≤ r) × (r < k + count)) ⊎ ((r < k) ⊎ (k + count ≤ r))
    split r = grind arith

    at_least : (q : ℕ) → k ≤ q → q < k + count → depth (order k) ≤ depth (order q)
    at_least q a b = elim (ℕ_discrete k q) [ yes e ↦ (let z : depth (order k) ≡ depth (order q) = ap (λ i. depth (order i)) e in omega arith) | no d ↦ (let z = deeper q (omega arith) b in omega arith) ]

    later : (r q : ℕ) → r ≤ n → 0 < r → order r ≢ order k → q < r → order q ≡ pred (order r) → depth (order r) ≡ suc (depth (order q)) → among order k count (order r) ≡ among order k count (order q)
    later r q l h ne lq e less = of (split r) (split q)
      where
        after_k : k ≤ r → k < r
        after_k a = elim (ℕ_discrete r k) [ yes z ↦ absurd (ne (ap order z)) | no d ↦ (omega arith) ]

        of : ((k ≤ r) × (r < k + count)) ⊎ ((r < k) ⊎ (k + count ≤ r)) → ((k ≤ q) × (q < k + count)) ⊎ ((q < k) ⊎ (k + count ≤ q)) → among order k count (order r) ≡ among order k count (order q)
        of (inl (a, b)) (inl (c, d)) = in_block r a b ∙ sym (in_block q c d)
        of (inr a) (inr c) = off_block k count r within l a ∙ sym (off_block k count q within (omega arith) c)
        of (inl (a, b)) (inr (inl c)) =
            let z = pre.block q r k l h e c (after_k a) in
            let y = deeper r (after_k a) b in
            absurd (omega arith)
        of (inl (a, b)) (inr (inr c)) = absurd (omega arith)
        of (inr (inl a)) (inl (c, d)) = absurd (omega arith)
        of (inr (inr a)) (inl (c, d)) = absurd (elim (ℕ_discrete (k + count) r) [ yes z ↦ ended z | no z ↦ passed z ])
          where
            low : depth (order (k + count)) ≤ depth (order k)
            low = ends (omega arith)

            high : depth (order k) ≤ depth (order q)
            high = at_least q c d

            ended : k + count ≡ r → ⊥
            ended z = let y : depth (order (k + count)) ≡ depth (order r) = ap (λ i. depth (order i)) z in let x = low in let w = high in omega arith

            passed : k + count ≢ r → ⊥
            passed z = let y = pre.block q r (k + count) l h e d (omega arith) in let x = low in let w = high in omega arith

    pub subtree : IsSubtree n pred (order k) (among order k count)
    subtree = record {
      own = in_block k (omega arith) (omega arith);
      above = (let (q, l, e) = pre.ordered.before k some most in subst (λ v. among order k count v ≡ false) e (off_block k count q within (omega arith) (inl l)));
      root = subst (λ v. among order k count v ≡ false) pre.ordered.first (off_block k count 0 within (omega arith) (inl some));
      below = λ v a b ne. (let (r, l, e) = pre.ordered.every v b in at_place v a b ne r l e);
    }
      where
        node_is : (v : ℕ) → 0 < v → v ≡ suc (v - 1)
        node_is v a = omega arith

        at_place : (v : ℕ) → 0 < v → v ≤ n → v ≢ order k → (r : ℕ) → r ≤ n → order r ≡ v → among order k count v ≡ among order k count (pred v)
        at_place v a b ne r l e =
            let (q, lq, eq) = pre.ordered.before r (not_first r e) l in
            subst (λ w. among order k count w ≡ among order k count (pred w)) e
            (later r q l (not_first r e) (λ z. ne (sym e ∙ z)) lq eq (ap depth (e ∙ node_is v a) ∙ (deep (v - 1) (omega arith) ∙ ap (λ w. suc (depth w)) (ap pred (sym (node_is v a)) ∙ (ap pred (sym e) ∙ sym eq))))
            ∙ ap (among order k count) eq)
          where
            not_first : (r : ℕ) → order r ≡ v → 0 < r
            not_first zero z = let f = pre.ordered.first in absurd (omega arith)
            not_first (suc i) z = omega arith

-- The number x was added to those of the `count` vertices from place k on, and all but the first are deeper than that.
pub record IsRaised (n : ℕ) (order depth : ℕ → ℕ) (k count : ℕ) (x : ℚ) (f g : List ℚ) : Type 0 where
  pub within : k + count ≤ suc n
  pub deeper : (r : ℕ) → k < r → r < k + count → depth (order k) < depth (order r)
  pub raised : (i : ℕ) → i < n → at g i ≡ at f i +ℚ (if among order k count (suc i) then x else zero_ℚ)

-- u comes after them: it is the next vertex, or the root if they were the last.
pub record IsAfter (n : ℕ) (order : ℕ → ℕ) (k count u : ℕ) : Type 0 where
  pub next : k + count ≤ n → u ≡ order (k + count)
  pub last : n < k + count → u ≡ 0

module _ (n : ℕ) (pred depth order : ℕ → ℕ) (pre : IsPreorder n pred depth order) (k : ℕ) (x : ℚ) (f : List ℚ) where
  pub raised_none : k ≤ n → IsRaised n order depth k 0 x f f
  unfolding among
  raised_none h = record { within = omega arith; deeper = λ r a b. absurd (omega arith); raised = λ i l. sym (add-zero (at f i)) }

  -- A number that comes next is as it was,
  pub still : (count : ℕ) (g : List ℚ) → IsRaised n order depth k count x f g → (i : ℕ) → i < n → k + count ≤ n → order (k + count) ≡ suc i → at g i ≡ at f i
  still count g r i h l e =
      r.raised i h
      ∙ (ap (λ b. at f i +ℚ (if b then x else zero_ℚ)) (ap (among order k count) (sym e) ∙ off_block n pred depth order pre k count (k + count) r.within l (inr (omega arith)))
      ∙ add-zero (at f i))

  -- and then it is raised.
  pub raised_more : (count : ℕ) (g : List ℚ) → length g ≡ n → IsRaised n order depth k count x f g → (i : ℕ) → i < n → k + count ≤ n → order (k + count) ≡ suc i → (0 < count → depth (order k) < depth (order (k + count)))
      → IsRaised n order depth k (suc count) x f (set g i (at g i +ℚ x))
  unfolding among
  raised_more count g long r i h l e below = record {
    within = omega arith;
    deeper = λ q a b. deeper q a b (elim (ℕ_discrete q (k + count)) [ yes z ↦ inl z | no d ↦ inr d ]);
    raised = λ j m. raised j m (equal_or_not j i);
  }
    where
      deeper : (q : ℕ) → k < q → q < k + suc count → (q ≡ k + count) ⊎ (q ≢ k + count) → depth (order k) < depth (order q)
      deeper q a b (inl z) = subst (λ w. depth (order k) < depth (order w)) (sym z) (below (omega arith))
      deeper q a b (inr d) = r.deeper q a (omega arith)

      raised : (j : ℕ) → j < n → (j ≡ i) ⊎ (j ≢ i) → at (set g i (at g i +ℚ x)) j ≡ at f j +ℚ (if nat_eq (order (k + count)) (suc j) || among order k count (suc j) then x else zero_ℚ)
      raised j m (inl z) =
          ap (at (set g i (at g i +ℚ x))) z
          ∙ (get_or-set_same g i (at g i +ℚ x) zero_ℚ (omega arith)
          ∙ (ap (λ y. y +ℚ x) (still count g r i h l e)
          ∙ (ap (λ y. at f y +ℚ x) (sym z)
          ∙ ap (λ b. at f j +ℚ (if b || among order k count (suc j) then x else zero_ℚ)) (sym (eq-eqb (order (k + count)) (suc j) (e ∙ ap suc (sym z)))))))
      raised j m (inr d) =
          get_or-set_other g i j (at g i +ℚ x) zero_ℚ d
          ∙ (r.raised j m ∙ ap (λ b. at f j +ℚ (if b || among order k count (suc j) then x else zero_ℚ)) (sym (ne_eqb (order (k + count)) (suc j) (λ z. d (let y : suc i ≡ suc j = sym e ∙ z in omega arith)))))

  pub after_more : (thread : ℕ → ℕ) → IsThread n thread order → (count u v : ℕ) → k + count ≤ n → u ≡ order (k + count) → v ≡ thread u → IsAfter n order k (suc count) v
  after_more thread t count u v l e q = record {
    next = λ h. q ∙ (ap thread e ∙ (t.next (k + count) (omega arith) ∙ ap order (omega arith)));
    last = λ h. q ∙ (ap thread (e ∙ ap order (let z : k + count ≡ n = omega arith in z)) ∙ t.last);
  }

-- ---- the tree of a state
module _ (p : LinearProgram) (s : Standing) (slots : List Col) (order : List ℕ) (m : LinkMap) (tree : IsTreeOf p s slots order m) (top : ℕ) (some : 0 < top) (most : top ≤ p.nodes) (x : ℚ) (f : List ℚ) where
  abbrev at_place : ℕ → ℕ
  at_place k = get_or order k 0

  abbrev depth : ℕ → ℕ
  depth t = get_or m.depth t 0

  abbrev RaisedSoFar : ℕ → List ℚ → Type 0
  RaisedSoFar count g = (a : ℕ) → 0 < a → a ≤ p.nodes → at_place a ≡ top → IsRaised p.nodes (λ k. get_or order k 0) (λ t. get_or m.depth t 0) a count x f g

  abbrev ComesAfter : ℕ → ℕ → Type 0
  ComesAfter count u = (a : ℕ) → 0 < a → a ≤ p.nodes → at_place a ≡ top → IsAfter p.nodes (λ k. get_or order k 0) a count u

  -- The place of the node.
  place_of_top : (a : ℕ) × (0 < a) × (a ≤ p.nodes) × (at_place a ≡ top)
  place_of_top = let (a, l, e) = tree.preorder.ordered.every top most in (a, not_first a e, l, e)
    where
      not_first : (a : ℕ) → at_place a ≡ top → 0 < a
      not_first zero e = let z = tree.preorder.ordered.first in absurd (omega arith)
      not_first (suc i) e = omega arith

  node_is : (v : ℕ) → 0 < v → v ≡ suc (v - 1)
  node_is v h = omega arith

  -- The first one,
  pub first_raised : length f ≡ p.nodes → RaisedSoFar 1 (set f (top - 1) (at f (top - 1) +ℚ x))
  first_raised long a z l e =
      raised_more p.nodes (λ v. get_or m.pred v 0) (λ t. get_or m.depth t 0) (λ k. get_or order k 0) tree.preorder a x f 0 f long (raised_none p.nodes (λ v. get_or m.pred v 0) (λ t. get_or m.depth t 0) (λ k. get_or order k 0) tree.preorder a x f l) (top - 1) (omega arith) (omega arith)
      (ap at_place (omega arith) ∙ (e ∙ node_is top some)) (λ b. absurd (omega arith))

  pub first_after : (v : ℕ) → v ≡ get_or m.thread top 0 → ComesAfter 1 v
  first_after v e a z l q =
      after_more p.nodes (λ v. get_or m.pred v 0) (λ t. get_or m.depth t 0) (λ k. get_or order k 0) tree.preorder a x f (λ v. get_or m.thread v 0) tree.thread 0 top v (omega arith) (sym q ∙ ap at_place (omega arith)) e

  pub next_within : (count u : ℕ) → ComesAfter count u → u ≤ p.nodes
  next_within count u after =
      let (a, z, l, e) = place_of_top in
      let b = after a z l e in
      of a b (split a)
    where
      split : (a : ℕ) → (a + count ≤ p.nodes) ⊎ (p.nodes < a + count)
      split a = grind arith

      of : (a : ℕ) → IsAfter p.nodes (λ k. get_or order k 0) a count u → (a + count ≤ p.nodes) ⊎ (p.nodes < a + count) → u ≤ p.nodes
      of a b (inl h) = let w = tree.preorder.ordered.within (a + count) h in let q = b.next h in omega arith
      of a b (inr h) = let q = b.last h in omega arith

  -- and one more, which is deeper than the node.
  module _ (count u : ℕ) (g : List ℚ) (long : length g ≡ p.nodes) (raised : RaisedSoFar count g) (after : ComesAfter count u) (below : depth top < depth u) where
    pub some_next : 0 < u
    some_next = of u refl
      where
        of : (v : ℕ) → u ≡ v → 0 < u
        of zero e = let r = tree.rooted.root in let q : depth u ≡ depth 0 = ap depth e in absurd (omega arith)
        of (suc v) e = omega arith

    goes_on : (a : ℕ) → 0 < a → a ≤ p.nodes → at_place a ≡ top → a + count ≤ p.nodes
    goes_on a z l e = of (split a)
      where
        split : (a : ℕ) → (a + count ≤ p.nodes) ⊎ (p.nodes < a + count)
        split a = grind arith

        of : (a + count ≤ p.nodes) ⊎ (p.nodes < a + count) → a + count ≤ p.nodes
        of (inl h) = h
        of (inr h) = let q = (after a z l e).last h in let y = some_next in absurd (omega arith)

    next_at : (a : ℕ) (z : 0 < a) (l : a ≤ p.nodes) (e : at_place a ≡ top) → at_place (a + count) ≡ suc (u - 1)
    next_at a z l e = sym ((after a z l e).next (goes_on a z l e)) ∙ node_is u some_next

    u_within : u - 1 < p.nodes
    u_within = let w = next_within count u after in let z = some_next in omega arith

    pub next_raised : RaisedSoFar (count + 1) (set g (u - 1) (at g (u - 1) +ℚ x))
    next_raised a z l e =
        subst (λ n. IsRaised p.nodes (λ k. get_or order k 0) (λ t. get_or m.depth t 0) a n x f (set g (u - 1) (at g (u - 1) +ℚ x))) (let q : suc count ≡ count + 1 = omega arith in q)
        (raised_more p.nodes (λ v. get_or m.pred v 0) (λ t. get_or m.depth t 0) (λ k. get_or order k 0) tree.preorder a x f count g long (raised a z l e) (u - 1) u_within (goes_on a z l e) (next_at a z l e)
        (λ b. subst (λ v. depth v < depth (at_place (a + count))) (sym e) (subst (λ v. depth top < depth v) ((after a z l e).next (goes_on a z l e)) below)))

    pub next_after : (v : ℕ) → v ≡ get_or m.thread u 0 → ComesAfter (count + 1) v
    next_after v q a z l e =
        subst (λ n. IsAfter p.nodes (λ k. get_or order k 0) a n v) (let w : suc count ≡ count + 1 = omega arith in w)
        (after_more p.nodes (λ v. get_or m.pred v 0) (λ t. get_or m.depth t 0) (λ k. get_or order k 0) tree.preorder a x f (λ v. get_or m.thread v 0) tree.thread count u v (goes_on a z l e) ((after a z l e).next (goes_on a z l e)) q)

    -- The number that is raised is as it was.
    pub next_still : at g (u - 1) ≡ at f (u - 1)
    next_still =
        let (a, z, l, e) = place_of_top in
        still p.nodes (λ v. get_or m.pred v 0) (λ t. get_or m.depth t 0) (λ k. get_or order k 0) tree.preorder a x f count g (raised a z l e) (u - 1) u_within (goes_on a z l e) (next_at a z l e)

    pub next_passed : (c : Passed) → c ≡ record { op = Add; left = at g (u - 1); right = x } → Passes Add (at g (u - 1)) x → PassesRaised p.nodes f x c
    next_passed c is passes = record {
      node = u - 1;
      within = u_within;
      is = is ∙ ap (λ y. record { op = Add; left = y; right = x }) next_still;
      passes = passes_from Add (at g (u - 1)) x c is passes;
    }

  pub first_passed : (c : Passed) → c ≡ record { op = Add; left = at f (top - 1); right = x } → Passes Add (at f (top - 1)) x → PassesRaised p.nodes f x c
  first_passed c is passes = record { node = top - 1; within = omega arith; is = is; passes = passes_from Add (at f (top - 1)) x c is passes }

  -- At the first that is not deeper, or after the last one, the whole subtree was raised.
  pub all_raised : (count u : ℕ) (g : List ℚ) → 0 < count → RaisedSoFar count g → ComesAfter count u → (depth u ≤ depth top) ⊎ (p.nodes ≤ count) → IsRaisedBelow p.nodes (λ v. get_or m.pred v 0) top x f g
  all_raised count u g one raised after done =
      let (a, z, l, e) = place_of_top in
      of a z l e (raised a z l e) (after a z l e)
    where
      of : (a : ℕ) → 0 < a → a ≤ p.nodes → at_place a ≡ top → IsRaised p.nodes (λ k. get_or order k 0) (λ t. get_or m.depth t 0) a count x f g → IsAfter p.nodes (λ k. get_or order k 0) a count u → IsRaisedBelow p.nodes (λ v. get_or m.pred v 0) top x f g
      of a z l e r b = record {
        inside = among (λ k. get_or order k 0) a count;
        subtree = subst (λ t. IsSubtree p.nodes (λ v. get_or m.pred v 0) t (among (λ k. get_or order k 0) a count)) e
            (subtree p.nodes (λ v. get_or m.pred v 0) (λ t. get_or m.depth t 0) (λ k. get_or order k 0) tree.preorder tree.rooted.deeper a count z l one r.within r.deeper (λ h. ends h done));
        raised = r.raised;
      }
        where
          ends : a + count ≤ p.nodes → (depth u ≤ depth top) ⊎ (p.nodes ≤ count) → depth (at_place (a + count)) ≤ depth (at_place a)
          ends h (inl d) = subst (λ v. depth v ≤ depth (at_place a)) (b.next h) (subst (λ v. depth u ≤ depth v) (sym e) d)
          ends h (inr d) = absurd (omega arith)
