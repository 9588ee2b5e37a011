-- Rests, gathered from the nodes to their predecessors: what is gathered at a node is a sum of some rests, and so is what
-- is gathered at another, of others.
use Rattle.std.proofs.Common.{◌≡◌, ◌≢◌, ◌⊎◌, inl, inr, ℕ, zero, suc, ◌-◌, ◌<◌, ◌≤◌, Bool, true, false, cond, IsTrue, List, length, set, get_or, [], ◌∷◌, refl, sym, ap, ap₂, ◌∙◌, subst, arith, eq-eqb, ne_eqb, nat_eq}
use Rattle.std.specs.Prelude.{if◌then◌else◌}
use Rattle.std.proofs.lemmas.List.{get_or-set_same, get_or-set_other}
use Rattle.nf_num.specs.Rational.{ℚ, zero_ℚ, ◌+ℚ◌, ◌*ℚ◌, neg_ℚ}
use Rattle.nf_num.specs.Sum.{sum_ℚ, delta}
use Rattle.nf_frac.specs.declared.passed.Passed.{Passed}
use Rattle.nf_frac.specs.declared.passed.Op.TheVariants.{Add}
use Rattle.nf_model.specs.Program.{LinearProgram, at}
use Rattle.nf_model.specs.Problem.{IsProblem}
use Rattle.nf_sums.specs.Terms.{PassesIn, AreSums, Is, value_of, chosen_sum}
use Rattle.nf_sums.specs.Rows.{path_terms}
use Rattle.nf_sums.proofs.Laws.{known}
use Rattle.nf_links.specs.Map.{LinkMap}
use Rattle.nf_simplex.specs.Place.{Basic}
use Rattle.nf_simplex.specs.Layout.{layout_of}
use Rattle.nf_simplex.specs.Columns.{all_columns}
use Rattle.nf_simplex.specs.StageOf.{StageOne}
use Rattle.nf_simplex.specs.Standing.{Standing, stage_of}
use Rattle.nf_simplex.proofs.Slots.{AreSlots}
use Rattle.nf_simplex.proofs.FieldLaws.{add_assoc, add_comm}
use Rattle.nf_simplex.proofs.Terms.{v, nought, unit, ◌:+◌, ◌:*◌, ◌:-◌, ring, zero-add, one-mul, zero-mul}
use Rattle.nf_simplex.proofs.Sum.{sum_ext, sum_add, sum_neg, sum_unit, unit_same, unit_other, equal_or_not}
use Rattle.nf_basis.specs.declared.col.Col.{Col}
use Rattle.nf_basis.specs.Numbers.{slot_number}
use Rattle.nf_tree.specs.Network.{IsNetwork, AreFlows, turn}
use Rattle.nf_tree.specs.Vertices.{tail_at, head_at}
use Rattle.nf_tree.specs.Links.{GiveBetween, IsTreeOf, pred_in}
use Rattle.nf_tree.specs.Rests.{GiveAt, IsHandedOn, IsOnPath, PassesOnPaths, PassesUp, IsGathered, gathered_at, rest_paths}
use Rattle.nf_tree.specs.Rests.IsOnPath.{start, on}
use Rattle.nf_tree.proofs.Accumulate.{IsAdded, none_summed, summed_more, flows_of_summed}
use Rattle.nf_tree.proofs.Keys.{square, key_entry}
use Rattle.nf_tree.proofs.RootedTrees.{unit_shift}
use Rattle.nf_tree.proofs.Depths.{not_root}
use Rattle.nf_tree.proofs.Vertices.{is_network}

one_less : (i : ℕ) → suc i - 1 ≡ i
one_less i = omega arith

pub delta_turned : (a b : ℕ) → delta a b ≡ delta b a
delta_turned a b = of (equal_or_not a b)
  where
    of : (a ≡ b) ⊎ (a ≢ b) → delta a b ≡ delta b a
    of (inl e) = ap (λ z. delta a z) (sym e) ∙ ap (λ z. delta z a) e
    of (inr e) = unit_other a b e ∙ sym (unit_other b a (λ q. e (sym q)))

sum_first : (n : ℕ) (f : ℕ → ℚ) → sum_ℚ (suc n) f ≡ f 0 +ℚ sum_ℚ n (λ i. f (suc i))
unfolding sum_ℚ
sum_first zero f = add_comm zero_ℚ (f 0)
sum_first (suc n) f = ap (λ z. z +ℚ f (suc n)) (sum_first n f) ∙ add_assoc (f 0) (sum_ℚ n (λ i. f (suc i))) (f (suc n))

-- ---- who holds a rest
-- What node u holds goes to node w.
unfoldable moved : (ℕ → ℕ) → ℕ → ℕ → ℕ → ℕ
moved owner u w r = cond (nat_eq (owner r) u) w (owner r)

moved_is : (owner : ℕ → ℕ) (u w r : ℕ) → ((owner r ≡ u) × (moved owner u w r ≡ w)) ⊎ ((owner r ≢ u) × (moved owner u w r ≡ owner r))
unfolding moved
moved_is owner u w r = of (equal_or_not (owner r) u)
  where
    of : (owner r ≡ u) ⊎ (owner r ≢ u) → ((owner r ≡ u) × (moved owner u w r ≡ w)) ⊎ ((owner r ≢ u) × (moved owner u w r ≡ owner r))
    of (inl e) = inl (e, ap (λ b. cond b w (owner r)) (eq-eqb (owner r) u e))
    of (inr e) = inr (e, ap (λ b. cond b w (owner r)) (ne_eqb (owner r) u e))

module _ (owner : ℕ → ℕ) (u w : ℕ) (ne : w ≢ u) where
  moved_here : (r : ℕ) → delta (owner r) w +ℚ delta (owner r) u ≡ delta (moved owner u w r) w
  moved_here r = of (moved_is owner u w r)
    where
      of : ((owner r ≡ u) × (moved owner u w r ≡ w)) ⊎ ((owner r ≢ u) × (moved owner u w r ≡ owner r)) → delta (owner r) w +ℚ delta (owner r) u ≡ delta (moved owner u w r) w
      of (inl (e, q)) =
          ap₂ (λ x y. x +ℚ y) (unit_other (owner r) w (λ z. ne (sym z ∙ e))) (ap (λ z. delta z u) e ∙ unit_same u)
          ∙ (ring [] (nought :+ unit) unit refl ∙ sym (ap (λ z. delta z w) q ∙ unit_same w))
      of (inr (d, q)) =
          ap (λ y. delta (owner r) w +ℚ y) (unit_other (owner r) u d)
          ∙ (ring (delta (owner r) w ∷ []) (v 0 :+ nought) (v 0) refl ∙ sym (ap (λ z. delta z w) q))

  moved_off : (i r : ℕ) → i ≢ w → i ≢ u → delta (owner r) i ≡ delta (moved owner u w r) i
  moved_off i r a b = of (moved_is owner u w r)
    where
      of : ((owner r ≡ u) × (moved owner u w r ≡ w)) ⊎ ((owner r ≢ u) × (moved owner u w r ≡ owner r)) → delta (owner r) i ≡ delta (moved owner u w r) i
      of (inl (e, q)) = unit_other (owner r) i (λ z. b (sym z ∙ e)) ∙ sym (ap (λ z. delta z i) q ∙ unit_other w i (λ z. a (sym z)))
      of (inr (d, q)) = sym (ap (λ z. delta z i) q)

  module _ (n : ℕ) (b : ℕ → ℚ) where
    held_here : (x y : ℚ) → x ≡ sum_ℚ n (λ r. delta (owner r) w *ℚ b r) → y ≡ sum_ℚ n (λ r. delta (owner r) u *ℚ b r) → x +ℚ y ≡ sum_ℚ n (λ r. delta (moved owner u w r) w *ℚ b r)
    held_here x y ex ey =
        ap₂ (λ s t. s +ℚ t) ex ey
        ∙ (sym (sum_add n (λ r. delta (owner r) w *ℚ b r) (λ r. delta (owner r) u *ℚ b r))
        ∙ sum_ext n (λ r. delta (owner r) w *ℚ b r +ℚ delta (owner r) u *ℚ b r) (λ r. delta (moved owner u w r) w *ℚ b r)
        (λ r h. ring (delta (owner r) w ∷ delta (owner r) u ∷ b r ∷ []) (v 0 :* v 2 :+ v 1 :* v 2) ((v 0 :+ v 1) :* v 2) refl ∙ ap (λ z. z *ℚ b r) (moved_here r)))

    held_off : (i : ℕ) → i ≢ w → i ≢ u → sum_ℚ n (λ r. delta (owner r) i *ℚ b r) ≡ sum_ℚ n (λ r. delta (moved owner u w r) i *ℚ b r)
    held_off i a d = sum_ext n (λ r. delta (owner r) i *ℚ b r) (λ r. delta (moved owner u w r) i *ℚ b r) (λ r h. ap (λ z. z *ℚ b r) (moved_off i r a d))

-- ---- sums of the rests that two nodes hold
-- The terms of a path sum that a node holds.
owned : (ℕ → ℕ) → ℕ → ℕ → Bool
owned owner w zero = false
owned owner w (suc r) = nat_eq (owner r) w

owned_term : (owner : ℕ → ℕ) (w r : ℕ) (x : ℚ) → (if nat_eq (owner r) w then x else zero_ℚ) ≡ delta (owner r) w *ℚ x
owned_term owner w r x = of (equal_or_not (owner r) w)
  where
    of : (owner r ≡ w) ⊎ (owner r ≢ w) → (if nat_eq (owner r) w then x else zero_ℚ) ≡ delta (owner r) w *ℚ x
    of (inl e) = ap (λ t. if t then x else zero_ℚ) (eq-eqb (owner r) w e) ∙ sym (ap (λ z. z *ℚ x) (ap (λ z. delta z w) e ∙ unit_same w) ∙ one-mul x)
    of (inr e) = ap (λ t. if t then x else zero_ℚ) (ne_eqb (owner r) w e) ∙ sym (ap (λ z. z *ℚ x) (unit_other (owner r) w e) ∙ zero-mul x)

owned_sum : (n : ℕ) (owner : ℕ → ℕ) (w : ℕ) (b : ℕ → ℚ) → sum_ℚ n (λ r. delta (owner r) w *ℚ b r) ≡ chosen_sum (path_terms n b (λ _. false) false) (owned owner w)
unfolding owned
owned_sum n owner w b =
    sum_ext n (λ r. delta (owner r) w *ℚ b r) (λ r. if owned owner w (suc r) then b r else zero_ℚ) (λ r h. sym (owned_term owner w r (b r)))
    ∙ (sym (zero-add _) ∙ sym (sum_first n (λ k. if owned owner w k then value_of ((path_terms n b (λ _. false) false).term k) else zero_ℚ)))

owned_apart : (owner : ℕ → ℕ) (w u : ℕ) → w ≢ u → (k : ℕ) → IsTrue (owned owner w k) → IsTrue (owned owner u k) → ⊥
unfolding owned
owned_apart owner w u ne zero a b = absurd (let z : false ≡ true = a in cc)
owned_apart owner w u ne (suc r) a b = ne (sym (is w a) ∙ is u b)
  where
    is : (z : ℕ) → IsTrue (nat_eq (owner r) z) → owner r ≡ z
    is z t = of (equal_or_not (owner r) z)
      where
        of : (owner r ≡ z) ⊎ (owner r ≢ z) → owner r ≡ z
        of (inl e) = e
        of (inr e) = absurd (let q : false ≡ true = subst IsTrue (ne_eqb (owner r) z e) t in cc)

owned_sums : (n : ℕ) (owner : ℕ → ℕ) (w u : ℕ) (b : ℕ → ℚ) (x y : ℚ) → w ≢ u → x ≡ sum_ℚ n (λ r. delta (owner r) w *ℚ b r) → y ≡ sum_ℚ n (λ r. delta (owner r) u *ℚ b r)
    → AreSums (path_terms n b (λ _. false) false) x y
owned_sums n owner w u b x y ne ex ey = record {
  some = owned owner w;
  others = owned owner u;
  apart = owned_apart owner w u ne;
  turned = false;
  left_is = ex ∙ owned_sum n owner w b;
  right_is = ey ∙ owned_sum n owner u b;
}

-- ---- the nodes from the end of the order
module _ (p : LinearProgram) (s : Standing) (slots : List Col) (order : List ℕ) (m : LinkMap) (tree : IsTreeOf p s slots order m) where
  abbrev n : ℕ
  n = p.nodes

  abbrev node : ℕ → ℕ
  node k = gathered_at order p.nodes k

  pub node_at : (k : ℕ) → k < n → get_or order (n - k) 0 ≡ suc (node k)
  node_at k h = let z = not_root p s slots order m tree (n - k) (omega arith) (omega arith) in omega arith

  node_within : (k : ℕ) → k < n → node k < n
  node_within k h =
      let e = node_at k h in
      let w = tree.preorder.ordered.within (n - k) (omega arith) in
      omega arith

  node_distinct : (r k : ℕ) → r < k → k < n → node r ≢ node k
  node_distinct r k h l e =
      let a = node_at r (omega arith) in
      let b = node_at k l in
      tree.preorder.ordered.distinct (n - k) (n - r) (omega arith) (omega arith) (omega arith)

  node_once : (r k : ℕ) → r < n → k < n → node r ≡ node k → r ≡ k
  node_once r k h l e = of (order_of r k)
    where
      order_of : (a b : ℕ) → (a < b) ⊎ ((a ≡ b) ⊎ (b < a))
      order_of a b = grind arith

      of : (r < k) ⊎ ((r ≡ k) ⊎ (k < r)) → r ≡ k
      of (inl a) = absurd (node_distinct r k a l e)
      of (inr (inl a)) = a
      of (inr (inr a)) = absurd (node_distinct k r a h (sym e))

  -- A predecessor comes later.
  pred_later : (r k : ℕ) → r ≤ k → k < n → pred_in m (node k) ≢ suc (node r)
  pred_later r k h l e =
      let (i, b, q) = tree.preorder.ordered.before (n - k) (omega arith) (omega arith) in
      tree.preorder.ordered.distinct i (n - r) (omega arith) (omega arith)
      (q ∙ (ap (λ z. get_or m.pred z 0) (node_at k l) ∙ (e ∙ sym (node_at r (omega arith)))))

  node_slots : AreSlots n n (λ j. Basic) node
  node_slots = record { within = node_within; basic = λ k h. refl; distinct = node_once; onto = λ j h e. onto j h }
    where
      onto : (j : ℕ) → j < n → (k : ℕ) × (k < n) × (node k ≡ j)
      onto j h = of (tree.preorder.ordered.every (suc j) (omega arith))
        where
          of : (k : ℕ) × (k ≤ n) × (get_or order k 0 ≡ suc j) → (k : ℕ) × (k < n) × (node k ≡ j)
          of (zero, l, q) = let f = tree.preorder.ordered.first in absurd (omega arith)
          of (suc k, l, q) = (n - suc k, omega arith, (let e : n - (n - suc k) ≡ suc k = omega arith in ap (λ z. get_or order z 0 - 1) e ∙ (ap (λ z. z - 1) q ∙ one_less j)))

  -- Nothing is gathered yet.
  pub begun : (b : ℕ → ℚ) → IsGathered p order m b b 0
  begun b = record {
    summed = none_summed n (pred_in m) node b;
    owner = λ r. r;
    holds = λ i h off. sym (sum_ext n (λ r. delta r i *ℚ b r) (λ r. delta i r *ℚ b r) (λ r l. ap (λ z. z *ℚ b r) (delta_turned r i)) ∙ sum_unit n b i h);
    above = λ r l. start;
  }

  module _ (k : ℕ) (h : k < n) (b : ℕ → ℚ) (f g : List ℚ) (long : length f ≡ n) (a : IsGathered p order m b (at f) k) where
    abbrev from : ℕ
    from = get_or m.pred (get_or order (n - k) 0) 0

    from_is : from ≡ pred_in m (node k)
    from_is = ap (λ z. get_or m.pred z 0) (node_at k h)

    kept_at_root : IsHandedOn m (get_or order (n - k) 0) f g → pred_in m (node k) ≡ 0 → g ≡ f
    kept_at_root o z = o.root (from_is ∙ z)

    put_at_pred : IsHandedOn m (get_or order (n - k) 0) f g → (w : ℕ) → pred_in m (node k) ≡ suc w → g ≡ set f w (at f w +ℚ at f (node k))
    put_at_pred o w e =
        o.inner (λ z. (let q : 0 ≡ suc w = sym z ∙ (from_is ∙ e) in absurd (omega arith)))
        ∙ ap (λ z. set f z (at f z +ℚ at f (node k))) (ap (λ z. z - 1) (from_is ∙ e) ∙ one_less w)

    added : IsHandedOn m (get_or order (n - k) 0) f g → IsAdded n (pred_in m) node (at f) k (at g)
    added o = record { here = here; off = off }
      where
        here : (i : ℕ) → i < n → pred_in m (node k) ≡ suc i → at g i ≡ at f i +ℚ at f (node k)
        here i l e = ap (λ xs. at xs i) (put_at_pred o i e) ∙ get_or-set_same f i (at f i +ℚ at f (node k)) zero_ℚ (omega arith)

        off : (i : ℕ) → i < n → pred_in m (node k) ≢ suc i → at g i ≡ at f i
        off i l ne = of (pred_in m (node k)) refl
          where
            of : (z : ℕ) → pred_in m (node k) ≡ z → at g i ≡ at f i
            of zero e = ap (λ xs. at xs i) (kept_at_root o e)
            of (suc w) e = ap (λ xs. at xs i) (put_at_pred o w e) ∙ get_or-set_other f w i (at f w +ℚ at f (node k)) zero_ℚ (λ q. ne (e ∙ ap suc (sym q)))

    holds_node : at f (node k) ≡ sum_ℚ n (λ r. delta (a.owner r) (node k) *ℚ b r)
    holds_node = a.holds (node k) (node_within k h) (λ r l. node_distinct r k l h)

    holds_pred : (w : ℕ) → pred_in m (node k) ≡ suc w → at f w ≡ sum_ℚ n (λ r. delta (a.owner r) w *ℚ b r)
    holds_pred w e = let l = tree.rooted.within (node k) (node_within k h) in a.holds w (omega arith) (λ r l. λ q. pred_later r k (omega arith) h (e ∙ ap suc (sym q)))

    not_itself : (w : ℕ) → pred_in m (node k) ≡ suc w → w ≢ node k
    not_itself w e q = pred_later k k (omega arith) h (e ∙ ap suc q)

    pub gathered_more : IsHandedOn m (get_or order (n - k) 0) f g → IsGathered p order m b (at g) (suc k)
    gathered_more o = of (pred_in m (node k)) refl
      where
        plus : IsAdded n (pred_in m) node (at f) k (at g)
        plus = added o

        more : (i : ℕ) → i < n → at g i ≡ b i +ℚ sum_ℚ (suc k) (λ r. delta (pred_in m (node r)) (suc i) *ℚ at g (node r))
        more = summed_more n (pred_in m) node b (at f) (at g) k h node_within pred_later a.summed plus

        of : (z : ℕ) → pred_in m (node k) ≡ z → IsGathered p order m b (at g) (suc k)
        of zero e = record {
          summed = more;
          owner = a.owner;
          holds = λ i l off. plus.off i l (λ q. (let d : 0 ≡ suc i = sym e ∙ q in absurd (omega arith))) ∙ a.holds i l (λ r x. off r (omega arith));
          above = a.above;
        }
        of (suc w) e = record { summed = more; owner = moved a.owner (node k) w; holds = λ i l off. holds i l off (equal_or_not i w); above = λ r l. up r l (moved_is a.owner (node k) w r) }
          where
            up : (r : ℕ) → r < n → ((a.owner r ≡ node k) × (moved a.owner (node k) w r ≡ w)) ⊎ ((a.owner r ≢ node k) × (moved a.owner (node k) w r ≡ a.owner r)) → IsOnPath m r (moved a.owner (node k) w r)
            up r l (inl (q, z)) = subst (IsOnPath m r) (sym z) (on (node k) w (subst (IsOnPath m r) q (a.above r l)) e)
            up r l (inr (q, z)) = subst (IsOnPath m r) (sym z) (a.above r l)

            holds : (i : ℕ) → i < n → ((r : ℕ) → r < suc k → node r ≢ i) → (i ≡ w) ⊎ (i ≢ w) → at g i ≡ sum_ℚ n (λ r. delta (moved a.owner (node k) w r) i *ℚ b r)
            holds i l off (inl q) =
                plus.here i l (e ∙ ap suc (sym q))
                ∙ (ap (λ z. at f z +ℚ at f (node k)) q
                ∙ (held_here a.owner (node k) w (not_itself w e) n b (at f w) (at f (node k)) (holds_pred w e) holds_node ∙ ap (λ z. sum_ℚ n (λ r. delta (moved a.owner (node k) w r) z *ℚ b r)) (sym q)))
            holds i l off (inr d) =
                plus.off i l (λ q. d (let z : suc w ≡ suc i = sym e ∙ q in omega arith))
                ∙ (a.holds i l (λ r x. off r (omega arith)) ∙ held_off a.owner (node k) w (not_itself w e) n b i d (λ z. off k (omega arith) (sym z)))

    -- Where it passes, it adds what a node holds to what its predecessor holds.
    pub gathering_passes : (c : Passed) → PassesUp m (get_or order (n - k) 0) f c → PassesOnPaths n m b c
    gathering_passes c t = of (pred_in m (node k)) refl
      where
        of : (z : ℕ) → pred_in m (node k) ≡ z → PassesOnPaths n m b c
        of zero e = absurd (t.behind (from_is ∙ e))
        of (suc w) e = record {
          owner = a.owner;
          node = w;
          from = node k;
          within = (let l = tree.rooted.within (node k) (node_within k h) in omega arith);
          apart = not_itself w e;
          on_path = up;
          is = t.is ∙ ap₂ (λ x y. record { op = Add; left = x; right = y }) (ap (at f) (ap (λ z. z - 1) (from_is ∙ e) ∙ one_less w) ∙ holds_pred w e) holds_node;
          passes = t.passes;
        }
          where
            up : (r : ℕ) → r < n → (a.owner r ≡ w) ⊎ (a.owner r ≡ node k) → IsOnPath m r w
            up r l (inl q) = subst (IsOnPath m r) q (a.above r l)
            up r l (inr q) = on (node k) w (subst (IsOnPath m r) q (a.above r l)) e

    pub gathering_passes_at : (j : ℕ) → j ≡ n → (c : Passed) → PassesUp m (get_or order (j - k) 0) f c → PassesOnPaths n m b c
    gathering_passes_at j e c t = gathering_passes c (subst (λ i. PassesUp m (get_or order (i - k) 0) f c) e t)

-- It adds two sums of rests that have none in common.
pub paths_pass : (n : ℕ) (m : LinkMap) (b : ℕ → ℚ) (c : Passed) → PassesOnPaths n m b c → PassesIn (Is (rest_paths n b)) c
paths_pass n m b c t =
    known (Is (rest_paths n b)) Add (sum_ℚ n (λ r. delta (t.owner r) t.node *ℚ b r)) (sum_ℚ n (λ r. delta (t.owner r) t.from *ℚ b r)) c t.is t.passes (rest_paths n b) refl
    (owned_sums n t.owner t.node t.from b _ _ t.apart refl refl)

-- All are: turned, they are the weights of the columns that give the rests.
module _ (p : LinearProgram) (s : Standing) (slots : List Col) (order : List ℕ) (m : LinkMap) (tree : IsTreeOf p s slots order m)
    (net : IsNetwork (stage_of p s) p.nodes (tail_at p s) (head_at p s)) (inside : (i : ℕ) → i < p.nodes → slot_number p slots i < all_columns (layout_of p)) where
  abbrev σ : ℕ → ℚ
  σ i = turn (tail_at p s) (slot_number p slots) i

  entry_is : (i r : ℕ) → i < p.nodes → r < p.nodes → (stage_of p s).entry (slot_number p slots i) r ≡ σ i *ℚ (delta (suc i) (suc r) +ℚ neg_ℚ (delta (pred_in m i) (suc r)))
  entry_is i r h l = key_entry p.nodes (tail_at p s) (head_at p s) (pred_in m) (λ t. get_or m.depth t 0) (slot_number p slots) tree.rooted (stage_of p s) net i r h (inside i h) l

  pub gathered_solve : (b : ℕ → ℚ) (f out : List ℚ) → IsGathered p order m b (at f) p.nodes → ((i : ℕ) → i < p.nodes → at out i ≡ σ i *ℚ at f i) → GiveAt p s slots b out
  gathered_solve b f out a turned r l =
      sum_ext n (λ i. at out i *ℚ (stage_of p s).entry (slot_number p slots i) r) (λ i. delta r i *ℚ at f i +ℚ neg_ℚ (delta (pred_in m i) (suc r) *ℚ at f i)) one
      ∙ (sum_add n (λ i. delta r i *ℚ at f i) (λ i. neg_ℚ (delta (pred_in m i) (suc r) *ℚ at f i))
      ∙ (ap₂ (λ x y. x +ℚ y) (sum_unit n (at f) r l ∙ flows r l) (sum_neg n (λ i. delta (pred_in m i) (suc r) *ℚ at f i))
      ∙ ring (b r ∷ sum_ℚ n (λ i. delta (pred_in m i) (suc r) *ℚ at f i) ∷ []) ((v 0 :+ v 1) :- v 1) (v 0) refl))
    where
      n : ℕ
      n = p.nodes

      flows : AreFlows n (pred_in m) b (at f)
      flows = flows_of_summed n (pred_in m) (λ k. gathered_at order n k) b (at f) (node_slots p s slots order m tree) a.summed

      one : (i : ℕ) → i < n → at out i *ℚ (stage_of p s).entry (slot_number p slots i) r ≡ delta r i *ℚ at f i +ℚ neg_ℚ (delta (pred_in m i) (suc r) *ℚ at f i)
      one i h =
          ap₂ (λ x y. x *ℚ y) (turned i h) (entry_is i r h l)
          ∙ (ring (σ i ∷ at f i ∷ delta (suc i) (suc r) ∷ delta (pred_in m i) (suc r) ∷ []) ((v 0 :* v 1) :* (v 0 :* (v 2 :- v 3))) ((v 0 :* v 0) :* (v 2 :* v 1 :- v 3 :* v 1)) refl
          ∙ (ap (λ x. x *ℚ (delta (suc i) (suc r) *ℚ at f i +ℚ neg_ℚ (delta (pred_in m i) (suc r) *ℚ at f i))) (square (tail_at p s) (slot_number p slots) i)
          ∙ (one-mul _ ∙ ap (λ x. x *ℚ at f i +ℚ neg_ℚ (delta (pred_in m i) (suc r) *ℚ at f i)) (unit_shift i r ∙ delta_turned i r))))

-- What a column has at the nodes, by its ends.
pub gives_column : (p : LinearProgram) (s : Standing) (slots : List Col) → IsProblem p → s.stage ≡ StageOne → (j : ℕ) → j < all_columns (layout_of p) → (out : List ℚ)
    → GiveBetween p s slots (tail_at p s j) (head_at p s j) out → GiveAt p s slots ((stage_of p s).entry j) out
gives_column p s slots ok one j h out g r l = g r l ∙ sym ((is_network p s ok one).node_entry j r h l)
