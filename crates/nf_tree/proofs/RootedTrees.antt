-- Weights and duals of a spanning tree.
use Rattle.std.proofs.Common.{◌≡◌, ◌≢◌, ℕ, zero, suc, ◌<◌, ◌≤◌, ◌⊎◌, inl, inr, [], ◌∷◌, refl, sym, ap, ap₂, ◌∙◌, subst, arith}
use Rattle.nf_num.specs.Rational.{ℚ, zero_ℚ, one_ℚ, ◌+ℚ◌, ◌*ℚ◌, neg_ℚ, ◌<ℚ◌}
use Rattle.nf_num.specs.Sum.{sum_ℚ, delta}
use Rattle.nf_simplex.specs.Place.{Place, Basic}
use Rattle.nf_simplex.specs.Stage.{Stage}
use Rattle.nf_simplex.specs.Numbers.{IsIndependent, AreWeights, IsInverseColumn, AreEntries, AreDuals, reduced}
use Rattle.nf_simplex.proofs.FieldLaws.{mul_comm, add-zero, mul-one, less_irrefl, one-positive}
use Rattle.nf_simplex.proofs.Terms.{v, nought, unit, minus, ◌:+◌, ◌:*◌, ◌:-◌, ring, mul-zero, zero-mul, one-mul, zero-add, add-mul}
use Rattle.nf_simplex.proofs.Sum.{sum_ext, sum_zero, sum_add, sum_neg, unit_same, unit_other, sum_unit, equal_or_not, zero_difference, difference_zero}
use Rattle.nf_simplex.proofs.Basis.{sum_through, basic_or_not}
use Rattle.nf_simplex.proofs.Slots.{AreSlots, spread, weights_of_slots}
use Rattle.nf_tree.proofs.Keys as keys
use Rattle.nf_tree.specs.Network.{IsRooted, IsNetwork, turn, AreFlows, ArePotentials, IsTernary}

pub one-not-zero : one_ℚ ≢ zero_ℚ
one-not-zero e = less_irrefl zero_ℚ (subst (λ x. zero_ℚ <ℚ x) e one-positive)

-- the vertex before a vertex
abbrev before : (ℕ → ℕ) → ℕ → ℕ
before pred zero = zero
before pred (suc i) = pred i

pub unit_shift : (t i : ℕ) → delta (suc t) (suc i) ≡ delta t i
unit_shift t i = of (equal_or_not t i)
  where
    of : (t ≡ i) ⊎ (t ≢ i) → delta (suc t) (suc i) ≡ delta t i
    of (inl e) = ap (λ z. delta (suc t) (suc z)) (sym e) ∙ (unit_same (suc t) ∙ (sym (unit_same t) ∙ ap (λ z. delta t z) e))
    of (inr e) = unit_other (suc t) (suc i) (λ q. e (omega arith)) ∙ sym (unit_other t i e)

pub sum_vertex : (n : ℕ) (p : ℕ → ℚ) (t : ℕ) → p 0 ≡ zero_ℚ → t ≤ n → sum_ℚ n (λ i. delta t (suc i) *ℚ p (suc i)) ≡ p t
sum_vertex n p zero z h = sum_zero n (λ i. delta 0 (suc i) *ℚ p (suc i)) (λ i l. ap (λ x. x *ℚ p (suc i)) (unit_other 0 (suc i) (λ e. absurd (omega arith))) ∙ zero-mul _) ∙ sym z
sum_vertex n p (suc t) z h =
    sum_ext n (λ i. delta (suc t) (suc i) *ℚ p (suc i)) (λ i. delta t i *ℚ p (suc i)) (λ i l. ap (λ x. x *ℚ p (suc i)) (unit_shift t i))
    ∙ sum_unit n (λ i. p (suc i)) t (omega arith)

-- The numbers of vertices, taken through a column: tail less head.
pub through_column : (S : Stage) (nodes : ℕ) (tail head : ℕ → ℕ) → IsNetwork S nodes tail head → (p : ℕ → ℚ) → p 0 ≡ zero_ℚ → (j : ℕ) → j < S.columns
    → sum_ℚ nodes (λ i. p (suc i) *ℚ S.entry j i) ≡ p (tail j) +ℚ neg_ℚ (p (head j))
through_column S nodes tail head net p z j h =
    sum_ext nodes (λ i. p (suc i) *ℚ S.entry j i) (λ i. delta (tail j) (suc i) *ℚ p (suc i) +ℚ neg_ℚ (delta (head j) (suc i) *ℚ p (suc i)))
    (λ i l. ap (λ x. p (suc i) *ℚ x) (net.node_entry j i h l) ∙ ring (p (suc i) ∷ delta (tail j) (suc i) ∷ delta (head j) (suc i) ∷ []) (v 0 :* (v 1 :- v 2)) (v 1 :* v 0 :- v 2 :* v 0) refl)
    ∙ (sum_add nodes (λ i. delta (tail j) (suc i) *ℚ p (suc i)) (λ i. neg_ℚ (delta (head j) (suc i) *ℚ p (suc i)))
    ∙ ap₂ (λ x y. x +ℚ y) (sum_vertex nodes p (tail j) z (net.tail_within j h))
    (sum_neg nodes (λ i. delta (head j) (suc i) *ℚ p (suc i)) ∙ ap neg_ℚ (sum_vertex nodes p (head j) z (net.head_within j h))))

module _ (S : Stage) (s : ℕ → Place) (tail head pred depth arc : ℕ → ℕ)
    (net : IsNetwork S S.rows tail head) (slots : AreSlots S.rows S.columns s arc) (tree : IsRooted S.rows tail head pred depth arc) where
  abbrev pub σ : ℕ → ℚ
  σ i = turn tail arc i

  apart : (i : ℕ) → i < S.rows → pred i ≢ suc i
  apart = keys.apart S.rows tail head pred depth arc tree

  pub square : (i : ℕ) → i < S.rows → σ i *ℚ σ i ≡ one_ℚ
  square i h = keys.square tail arc i

  pub turn_ternary : (i : ℕ) → (σ i ≡ one_ℚ) ⊎ (σ i ≡ neg_ℚ one_ℚ)
  turn_ternary = keys.turn_ternary tail arc

  -- what a key column takes from its node to the predecessor
  pub key_ends : (p : ℕ → ℚ) (i : ℕ) → i < S.rows → p (tail (arc i)) +ℚ neg_ℚ (p (head (arc i))) ≡ σ i *ℚ (p (suc i) +ℚ neg_ℚ (p (pred i)))
  key_ends = keys.key_ends S.rows tail head pred depth arc tree

  key_entry : (i r : ℕ) → i < S.rows → r < S.rows → S.entry (arc i) r ≡ σ i *ℚ (delta (suc i) (suc r) +ℚ neg_ℚ (delta (pred i) (suc r)))
  key_entry i r h l = net.node_entry (arc i) r (slots.within i h) l ∙ key_ends (λ x. delta x (suc r)) i h

  -- Potentials are the duals of the key columns.
  pub potentials_are_duals : (c p : ℕ → ℚ) → ArePotentials S.rows tail pred arc c p → AreDuals S s c (λ i. p (suc i))
  unfolding reduced
  potentials_are_duals c p q j h b =
      let (i, l, e) = slots.onto j h b in
      subst (λ x. c x +ℚ neg_ℚ (sum_ℚ S.rows (λ r. p (suc r) *ℚ S.entry x r)) ≡ zero_ℚ) e
      (zero_difference (c (arc i)) _
      (sym (through_column S S.rows tail head net p q.at_root (arc i) (slots.within i l)
      ∙ (key_ends p i l
      ∙ (ap (λ x. σ i *ℚ (x +ℚ neg_ℚ (p (pred i)))) (q.along i l)
      ∙ (ring (σ i ∷ p (pred i) ∷ c (arc i) ∷ []) (v 0 :* ((v 1 :+ v 0 :* v 2) :- v 1)) ((v 0 :* v 0) :* v 2) refl
      ∙ (ap (λ x. x *ℚ c (arc i)) (square i l) ∙ one-mul _)))))))

  -- Flows give the weights of the key columns.
  pub flows_give : (b f : ℕ → ℚ) → AreFlows S.rows pred b f → AreWeights S s b (spread S.rows arc (λ i. turn tail arc i *ℚ f i))
  flows_give b f q = weights_of_slots S s arc slots b (λ i. σ i *ℚ f i) record {
    gives = λ r l.
        sum_ext S.rows (λ i. (σ i *ℚ f i) *ℚ S.entry (arc i) r) (λ i. delta r i *ℚ f i +ℚ neg_ℚ (delta (pred i) (suc r) *ℚ f i))
        (λ i h. ap (λ x. (σ i *ℚ f i) *ℚ x) (key_entry i r h l)
        ∙ (ring (σ i ∷ f i ∷ delta (suc i) (suc r) ∷ delta (pred i) (suc r) ∷ []) ((v 0 :* v 1) :* (v 0 :* (v 2 :- v 3))) ((v 0 :* v 0) :* (v 2 :* v 1 :- v 3 :* v 1)) refl
        ∙ (ap (λ x. x *ℚ (delta (suc i) (suc r) *ℚ f i +ℚ neg_ℚ (delta (pred i) (suc r) *ℚ f i))) (square i h)
        ∙ (one-mul _ ∙ ap (λ x. x *ℚ f i +ℚ neg_ℚ (delta (pred i) (suc r) *ℚ f i)) (unit_shift i r ∙ flip i r)))))
        ∙ (sum_add S.rows (λ i. delta r i *ℚ f i) (λ i. neg_ℚ (delta (pred i) (suc r) *ℚ f i))
        ∙ (ap₂ (λ x y. x +ℚ y) (sum_unit S.rows f r l ∙ q r l) (sum_neg S.rows (λ i. delta (pred i) (suc r) *ℚ f i))
        ∙ ring (b r ∷ sum_ℚ S.rows (λ i. delta (pred i) (suc r) *ℚ f i) ∷ []) ((v 0 :+ v 1) :- v 1) (v 0) refl));
  }
    where
      flip : (i r : ℕ) → delta i r ≡ delta r i
      flip i r = of (equal_or_not i r)
        where
          of : (i ≡ r) ⊎ (i ≢ r) → delta i r ≡ delta r i
          of (inl e) = ap (λ z. delta i z) (sym e) ∙ ap (λ z. delta z i) e
          of (inr e) = unit_other i r e ∙ sym (unit_other r i (λ q. e (sym q)))

  -- Potentials for all costs.
  unfoldable pub potential : (ℕ → ℚ) → ℕ → ℕ → ℚ
  potential c zero t = zero_ℚ
  potential c (suc d) zero = zero_ℚ
  potential c (suc d) (suc i) = potential c d (pred i) +ℚ σ i *ℚ c (arc i)

  pub potentials : (c : ℕ → ℚ) → ArePotentials S.rows tail pred arc c (λ t. potential c (depth t) t)
  unfolding potential
  potentials c = record {
    at_root = ap (λ d. potential c d 0) tree.root;
    along = λ i h. ap (λ d. potential c d (suc i)) (tree.deeper i h);
  }

  -- The key columns are independent.
  pub tree_independent : IsIndependent S s
  unfolding reduced
  tree_independent w of_basics null j h =
      sym (sum_unit S.columns w j h)
      ∙ (sum_ext S.columns (λ k. delta j k *ℚ w k) (λ k. w k *ℚ sum_ℚ S.rows (λ i. S.entry k i *ℚ y i)) (λ k l. here k l)
      ∙ (sum_through S.columns S.rows w y S.entry
      ∙ sum_zero S.rows (λ i. sum_ℚ S.columns (λ k. w k *ℚ S.entry k i) *ℚ y i) (λ i l. ap (λ x. x *ℚ y i) (null i l) ∙ zero-mul _)))
    where
      y : ℕ → ℚ
      y i = potential (delta j) (depth (suc i)) (suc i)

      here : (k : ℕ) → k < S.columns → delta j k *ℚ w k ≡ w k *ℚ sum_ℚ S.rows (λ i. S.entry k i *ℚ y i)
      here k l = of (basic k)
        where
          basic : (k : ℕ) → (s k ≡ Basic) ⊎ (s k ≢ Basic)
          basic k = basic_or_not (s k)

          of : (s k ≡ Basic) ⊎ (s k ≢ Basic) → delta j k *ℚ w k ≡ w k *ℚ sum_ℚ S.rows (λ i. S.entry k i *ℚ y i)
          of (inr nb) = rw (of_basics k l nb) (mul-zero _ ∙ sym (zero-mul _))
          of (inl b) =
              mul_comm _ _
              ∙ ap (λ x. w k *ℚ x)
              (difference_zero (delta j k) _ (potentials_are_duals (delta j) (λ t. potential (delta j) (depth t) t) (potentials (delta j)) k l b)
              ∙ sum_ext S.rows (λ i. y i *ℚ S.entry k i) (λ i. S.entry k i *ℚ y i) (λ i m. mul_comm _ _))

  -- How often node i + 1 stands on the path from vertex t, of depth d, to the root.
  unfoldable pub path : ℕ → ℕ → ℕ → ℚ
  path zero t i = zero_ℚ
  path (suc d) zero i = zero_ℚ
  path (suc d) (suc m) i = delta m i +ℚ path d (pred m) i

  step : ℕ → ℕ → ℚ
  step i q = delta (suc i) (suc q) +ℚ neg_ℚ (delta (pred i) (suc q))

  root_alone : (t : ℕ) → t ≤ S.rows → depth t ≡ 0 → t ≡ 0
  root_alone zero h e = refl
  root_alone (suc i) h e = let d = tree.deeper i (omega arith) in absurd (omega arith)

  -- The path from t is the flow of one unit at t.
  path_flow : (d t : ℕ) → t ≤ S.rows → depth t ≡ d → (q : ℕ) → q < S.rows → sum_ℚ S.rows (λ i. path d t i *ℚ step i q) ≡ delta t (suc q)
  unfolding path step
  path_flow zero t h e q l =
      sum_zero S.rows (λ i. zero_ℚ *ℚ step i q) (λ i k. zero-mul _) ∙ sym (ap (λ z. delta z (suc q)) (root_alone t h e) ∙ unit_other 0 (suc q) (λ z. absurd (omega arith)))
  path_flow (suc d) zero h e q l = let z = tree.root in absurd (omega arith)
  path_flow (suc d) (suc m) h e q l =
      sum_ext S.rows (λ i. (delta m i +ℚ path d (pred m) i) *ℚ step i q) (λ i. delta m i *ℚ step i q +ℚ path d (pred m) i *ℚ step i q) (λ i k. add-mul _ _ _)
      ∙ (sum_add S.rows (λ i. delta m i *ℚ step i q) (λ i. path d (pred m) i *ℚ step i q)
      ∙ (ap₂ (λ x y. x +ℚ y) (sum_unit S.rows (λ i. step i q) m (omega arith))
      (path_flow d (pred m) (tree.within m (omega arith)) (let z = tree.deeper m (omega arith) in omega arith) q l)
      ∙ ring (delta (suc m) (suc q) ∷ delta (pred m) (suc q) ∷ []) ((v 0 :- v 1) :+ v 1) (v 0) refl))

  -- The weights of the key columns that take one unit from a vertex to the root.
  pub path_gives : (t : ℕ) → t ≤ S.rows → AreWeights S s (λ q. delta t (suc q)) (spread S.rows arc (λ i. turn tail arc i *ℚ path (depth t) t i))
  unfolding step
  path_gives t h = weights_of_slots S s arc slots (λ q. delta t (suc q)) (λ i. σ i *ℚ path (depth t) t i) record {
    gives = λ r l.
        sum_ext S.rows (λ i. (σ i *ℚ path (depth t) t i) *ℚ S.entry (arc i) r) (λ i. path (depth t) t i *ℚ step i r)
        (λ i k. ap (λ x. (σ i *ℚ path (depth t) t i) *ℚ x) (key_entry i r k l)
        ∙ (ring (σ i ∷ path (depth t) t i ∷ step i r ∷ []) ((v 0 :* v 1) :* (v 0 :* v 2)) ((v 0 :* v 0) :* (v 1 :* v 2)) refl
        ∙ (ap (λ x. x *ℚ (path (depth t) t i *ℚ step i r)) (square i k) ∙ one-mul _)))
        ∙ path_flow (depth t) t h refl r l;
  }

  -- Inverse columns are paths to the root,
  pub inverse_is_path : (r : ℕ) → r < S.rows → IsInverseColumn S s r (spread S.rows arc (λ i. turn tail arc i *ℚ path (depth (suc r)) (suc r) i))
  inverse_is_path r h = of (path_gives (suc r) (omega arith))
    where
      of : AreWeights S s (λ q. delta (suc r) (suc q)) (spread S.rows arc (λ i. σ i *ℚ path (depth (suc r)) (suc r) i)) → IsInverseColumn S s r (spread S.rows arc (λ i. σ i *ℚ path (depth (suc r)) (suc r) i))
      of p = record { of_basics = p.of_basics; gives = λ i l. p.gives i l ∙ unit_shift r i }

  -- and the entries of a column its cycle: from the tail to the root less from the head to the root.
  unfoldable pub cycle : ℕ → ℕ → ℚ
  cycle j i = turn tail arc i *ℚ (path (depth (tail j)) (tail j) i +ℚ neg_ℚ (path (depth (head j)) (head j) i))

  pub entries_are_cycle : (j : ℕ) → j < S.columns → AreEntries S s j (spread S.rows arc (cycle j))
  unfolding cycle step
  entries_are_cycle j h = weights_of_slots S s arc slots (S.entry j) (cycle j) record {
    gives = λ r l.
        sum_ext S.rows (λ i. cycle j i *ℚ S.entry (arc i) r) (λ i. path (depth (tail j)) (tail j) i *ℚ step i r +ℚ neg_ℚ (path (depth (head j)) (head j) i *ℚ step i r))
        (λ i k. ap (λ x. cycle j i *ℚ x) (key_entry i r k l)
        ∙ (ring (σ i ∷ path (depth (tail j)) (tail j) i ∷ path (depth (head j)) (head j) i ∷ step i r ∷ []) ((v 0 :* (v 1 :- v 2)) :* (v 0 :* v 3)) ((v 0 :* v 0) :* (v 1 :* v 3 :- v 2 :* v 3)) refl
        ∙ (ap (λ x. x *ℚ (path (depth (tail j)) (tail j) i *ℚ step i r +ℚ neg_ℚ (path (depth (head j)) (head j) i *ℚ step i r))) (square i k) ∙ one-mul _)))
        ∙ (sum_add S.rows (λ i. path (depth (tail j)) (tail j) i *ℚ step i r) (λ i. neg_ℚ (path (depth (head j)) (head j) i *ℚ step i r))
        ∙ (ap₂ (λ x y. x +ℚ y) (path_flow (depth (tail j)) (tail j) (net.tail_within j h) refl r l)
        (sum_neg S.rows (λ i. path (depth (head j)) (head j) i *ℚ step i r) ∙ ap neg_ℚ (path_flow (depth (head j)) (head j) (net.head_within j h) refl r l))
        ∙ sym (net.node_entry j r h l)));
  }

  -- A node stands on a path at most once.
  path_below : (d t : ℕ) → t ≤ S.rows → depth t ≡ d → (i : ℕ) → d < depth (suc i) → path d t i ≡ zero_ℚ
  unfolding path
  path_below zero t h e i l = refl
  path_below (suc d) zero h e i l = refl
  path_below (suc d) (suc m) h e i l =
      ap₂ (λ x y. x +ℚ y) (unit_other m i (λ z. let k : depth (suc m) ≡ depth (suc i) = ap (λ y. depth (suc y)) z in absurd (omega arith)))
      (path_below d (pred m) (tree.within m (omega arith)) (let z = tree.deeper m (omega arith) in omega arith) i (omega arith))
      ∙ add-zero zero_ℚ

  pub path_once : (d t : ℕ) → t ≤ S.rows → depth t ≡ d → (i : ℕ) → (path d t i ≡ zero_ℚ) ⊎ (path d t i ≡ one_ℚ)
  unfolding path
  path_once zero t h e i = inl refl
  path_once (suc d) zero h e i = inl refl
  path_once (suc d) (suc m) h e i = of (equal_or_not m i) (path_once d (pred m) (tree.within m (omega arith)) (let z = tree.deeper m (omega arith) in omega arith) i)
    where
      of : (m ≡ i) ⊎ (m ≢ i) → (path d (pred m) i ≡ zero_ℚ) ⊎ (path d (pred m) i ≡ one_ℚ) → (delta m i +ℚ path d (pred m) i ≡ zero_ℚ) ⊎ (delta m i +ℚ path d (pred m) i ≡ one_ℚ)
      of (inl q) p =
          inr (ap₂ (λ x y. x +ℚ y) (ap (λ z. delta m z) (sym q) ∙ unit_same m)
          (path_below d (pred m) (tree.within m (omega arith)) (let z = tree.deeper m (omega arith) in omega arith) i (let z : depth (suc m) ≡ depth (suc i) = ap (λ y. depth (suc y)) q in omega arith))
          ∙ add-zero one_ℚ)
      of (inr q) (inl p) = inl (ap₂ (λ x y. x +ℚ y) (unit_other m i q) p ∙ add-zero zero_ℚ)
      of (inr q) (inr p) = inr (ap₂ (λ x y. x +ℚ y) (unit_other m i q) p ∙ zero-add one_ℚ)

  -- A path from a node begins with it,
  pub path_start : (d i : ℕ) → i < S.rows → depth (suc i) ≡ d → path d (suc i) i ≡ one_ℚ
  unfolding path
  path_start zero i h e = absurd (let z = tree.deeper i h in omega arith)
  path_start (suc d) i h e =
      ap₂ (λ x y. x +ℚ y) (unit_same i) (path_below d (pred i) (tree.within i h) (let z = tree.deeper i h in omega arith) i (omega arith))
      ∙ add-zero one_ℚ

  -- and where it has a node, it has the one before it.
  pub path_on : (d t : ℕ) → t ≤ S.rows → depth t ≡ d → (i j : ℕ) → i < S.rows → pred i ≡ suc j → path d t i ≡ one_ℚ → path d t j ≡ one_ℚ
  unfolding path
  path_on zero t h e i j l q p = absurd (one-not-zero (sym p))
  path_on (suc d) zero h e i j l q p = absurd (one-not-zero (sym p))
  path_on (suc d) (suc m) h e i j l q p = of (equal_or_not m i) (path_on d (pred m) (tree.within m (omega arith)) less i j l q)
    where
      less : depth (pred m) ≡ d
      less = let z = tree.deeper m (omega arith) in omega arith

      inside : j < S.rows
      inside = let z = tree.within i l in omega arith

      more : path d (pred m) j ≡ one_ℚ → delta m j +ℚ path d (pred m) j ≡ one_ℚ
      more o = ap₂ (λ x y. x +ℚ y) (unit_other m j off) o ∙ zero-add one_ℚ
        where
          off : m ≢ j
          off z = one-not-zero (sym o ∙ path_below d (pred m) (tree.within m (omega arith)) less j (let k : depth (suc m) ≡ depth (suc j) = ap (λ y. depth (suc y)) z in omega arith))

      of : (m ≡ i) ⊎ (m ≢ i) → (path d (pred m) i ≡ one_ℚ → path d (pred m) j ≡ one_ℚ) → delta m j +ℚ path d (pred m) j ≡ one_ℚ
      of (inl z) ih = more (subst (λ t. path d t j ≡ one_ℚ) (sym (ap pred z ∙ q)) (path_start d j inside (ap depth (sym (ap pred z ∙ q)) ∙ less)))
      of (inr z) ih = more (ih (sym (ap (λ x. x +ℚ path d (pred m) i) (unit_other m i z) ∙ zero-add _) ∙ p))

  -- All weights are 0, 1 or -1.
  pub path_ternary : (t : ℕ) → t ≤ S.rows → (i : ℕ) → IsTernary (turn tail arc i *ℚ path (depth t) t i)
  path_ternary t h i = of (turn_ternary i) (path_once (depth t) t h refl i)
    where
      of : (σ i ≡ one_ℚ) ⊎ (σ i ≡ neg_ℚ one_ℚ) → (path (depth t) t i ≡ zero_ℚ) ⊎ (path (depth t) t i ≡ one_ℚ) → IsTernary (σ i *ℚ path (depth t) t i)
      of x (inl p) = inl (ap (λ y. σ i *ℚ y) p ∙ mul-zero _)
      of (inl e) (inr p) = inr (inl (ap₂ (λ x y. x *ℚ y) e p ∙ mul-one one_ℚ))
      of (inr e) (inr p) = inr (inr (ap₂ (λ x y. x *ℚ y) e p ∙ mul-one (neg_ℚ one_ℚ)))

  pub cycle_ternary : (j : ℕ) → j < S.columns → (i : ℕ) → IsTernary (cycle j i)
  unfolding cycle
  cycle_ternary j h i = of (turn_ternary i) (path_once (depth (tail j)) (tail j) (net.tail_within j h) refl i) (path_once (depth (head j)) (head j) (net.head_within j h) refl i)
    where
      a : ℚ
      a = path (depth (tail j)) (tail j) i

      b : ℚ
      b = path (depth (head j)) (head j) i

      at : (x y z : ℚ) → σ i ≡ x → a ≡ y → b ≡ z → σ i *ℚ (a +ℚ neg_ℚ b) ≡ x *ℚ (y +ℚ neg_ℚ z)
      at x y z e f g = ap₂ (λ p q. p *ℚ q) e (ap₂ (λ p q. p +ℚ neg_ℚ q) f g)

      of : (σ i ≡ one_ℚ) ⊎ (σ i ≡ neg_ℚ one_ℚ) → (a ≡ zero_ℚ) ⊎ (a ≡ one_ℚ) → (b ≡ zero_ℚ) ⊎ (b ≡ one_ℚ) → IsTernary (σ i *ℚ (a +ℚ neg_ℚ b))
      of (inl e) (inl f) (inl g) = inl (at one_ℚ zero_ℚ zero_ℚ e f g ∙ ring [] (unit :* (nought :- nought)) nought refl)
      of (inl e) (inl f) (inr g) = inr (inr (at one_ℚ zero_ℚ one_ℚ e f g ∙ ring [] (unit :* (nought :- unit)) (minus unit) refl))
      of (inl e) (inr f) (inl g) = inr (inl (at one_ℚ one_ℚ zero_ℚ e f g ∙ ring [] (unit :* (unit :- nought)) unit refl))
      of (inl e) (inr f) (inr g) = inl (at one_ℚ one_ℚ one_ℚ e f g ∙ ring [] (unit :* (unit :- unit)) nought refl)
      of (inr e) (inl f) (inl g) = inl (at (neg_ℚ one_ℚ) zero_ℚ zero_ℚ e f g ∙ ring [] (minus unit :* (nought :- nought)) nought refl)
      of (inr e) (inl f) (inr g) = inr (inl (at (neg_ℚ one_ℚ) zero_ℚ one_ℚ e f g ∙ ring [] (minus unit :* (nought :- unit)) unit refl))
      of (inr e) (inr f) (inl g) = inr (inr (at (neg_ℚ one_ℚ) one_ℚ zero_ℚ e f g ∙ ring [] (minus unit :* (unit :- nought)) (minus unit) refl))
      of (inr e) (inr f) (inr g) = inl (at (neg_ℚ one_ℚ) one_ℚ one_ℚ e f g ∙ ring [] (minus unit :* (unit :- unit)) nought refl)

  -- The potentials for the cost 1 at one key column alone: its weights on the paths to the root, so 0, 1 or -1.
  pub potential_of_unit : (l : ℕ) → l < S.rows → (d t : ℕ) → t ≤ S.rows → depth t ≡ d → potential (delta (arc l)) d t ≡ turn tail arc l *ℚ path d t l
  unfolding potential path
  potential_of_unit l h zero t k e = sym (mul-zero _)
  potential_of_unit l h (suc d) zero k e = sym (mul-zero _)
  potential_of_unit l h (suc d) (suc m) k e =
      ap₂ (λ x y. x +ℚ y) (potential_of_unit l h d (pred m) (tree.within m (omega arith)) (let z = tree.deeper m (omega arith) in omega arith)) (here (equal_or_not m l))
      ∙ ring (σ l ∷ path d (pred m) l ∷ delta m l ∷ []) (v 0 :* v 1 :+ v 0 :* v 2) (v 0 :* (v 2 :+ v 1)) refl
    where
      here : (m ≡ l) ⊎ (m ≢ l) → σ m *ℚ delta (arc l) (arc m) ≡ σ l *ℚ delta m l
      here (inl q) = ap (λ z. σ z *ℚ delta (arc l) (arc z)) q ∙ (ap (λ z. σ l *ℚ z) (unit_same (arc l) ∙ sym (unit_same l)) ∙ ap (λ z. σ l *ℚ delta z l) (sym q))
      here (inr q) =
          ap (λ z. σ m *ℚ z) (unit_other (arc l) (arc m) (λ w. q (slots.distinct m l (omega arith) h (sym w))))
          ∙ (mul-zero _ ∙ (sym (mul-zero _) ∙ ap (λ z. σ l *ℚ z) (sym (unit_other m l q))))
