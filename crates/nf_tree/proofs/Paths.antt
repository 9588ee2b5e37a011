-- One step up a path in a tree.
use Rattle.std.proofs.Common.{◌≡◌, ◌≢◌, ◌⊎◌, inl, inr, ℕ, zero, suc, ◌<◌, ◌≤◌, List, length, set, get_or, [], ◌∷◌, refl, sym, ap, ap₂, ◌∙◌, subst, arith}
use Rattle.std.proofs.lemmas.List.{length-set, get_or-set_same, get_or-set_other}
use Rattle.nf_num.specs.Rational.{ℚ, zero_ℚ, ◌+ℚ◌, ◌*ℚ◌, neg_ℚ}
use Rattle.nf_num.specs.Sum.{sum_ℚ, delta}
use Rattle.nf_model.specs.Program.{LinearProgram, at}
use Rattle.nf_links.specs.Map.{LinkMap}
use Rattle.nf_simplex.specs.Layout.{layout_of}
use Rattle.nf_simplex.specs.Columns.{all_columns}
use Rattle.nf_simplex.specs.Standing.{Standing, stage_of}
use Rattle.nf_simplex.proofs.Terms.{v, nought, unit, minus, ◌:+◌, ◌:*◌, ◌:-◌, ring, zero-mul}
use Rattle.nf_simplex.proofs.Sum.{sum_ext, sum_zero, sum_add, sum_unit, unit_same, unit_other, equal_or_not}
use Rattle.nf_basis.specs.declared.col.Col.{Col}
use Rattle.nf_basis.specs.Numbers.{slot_number}
use Rattle.nf_tree.specs.Network.{IsNetwork, turn}
use Rattle.nf_tree.specs.Vertices.{tail_at, head_at}
use Rattle.nf_tree.specs.Links.{IsTreeOf, IsMidway, GiveBetween, pred_in}
use Rattle.nf_tree.proofs.Keys.{square, key_entry, root_alone}
use Rattle.nf_tree.proofs.Connected.{zero_or_not}

zero_or_not_set : (xs : List ℚ) (k : ℕ) (x : ℚ) (w : ℕ) → at (set xs k x) w ≢ zero_ℚ → (w ≡ k) ⊎ ((w ≢ k) × (at xs w ≢ zero_ℚ))
zero_or_not_set xs k x w ne = of (equal_or_not w k)
  where
    of : (w ≡ k) ⊎ (w ≢ k) → (w ≡ k) ⊎ ((w ≢ k) × (at xs w ≢ zero_ℚ))
    of (inl e) = inl e
    of (inr d) = inr (d, λ z. ne (get_or-set_other xs k w x zero_ℚ d ∙ z))

-- A list in which one number that was 0 is x.
pub sum_put : (n : ℕ) (xs : List ℚ) (a : ℕ → ℚ) (k : ℕ) (x : ℚ) → length xs ≡ n → k < n → at xs k ≡ zero_ℚ → sum_ℚ n (λ i. at (set xs k x) i *ℚ a i) ≡ sum_ℚ n (λ i. at xs i *ℚ a i) +ℚ x *ℚ a k
sum_put n xs a k x long h z =
    sum_ext n (λ i. at (set xs k x) i *ℚ a i) (λ i. at xs i *ℚ a i +ℚ delta k i *ℚ (x *ℚ a i)) (λ i l. one i (equal_or_not k i))
    ∙ (sum_add n (λ i. at xs i *ℚ a i) (λ i. delta k i *ℚ (x *ℚ a i)) ∙ ap (λ y. sum_ℚ n (λ i. at xs i *ℚ a i) +ℚ y) (sum_unit n (λ i. x *ℚ a i) k h))
  where
    one : (i : ℕ) → (k ≡ i) ⊎ (k ≢ i) → at (set xs k x) i *ℚ a i ≡ at xs i *ℚ a i +ℚ delta k i *ℚ (x *ℚ a i)
    one i (inl e) =
        ap (λ j. at (set xs k x) j *ℚ a j) (sym e)
        ∙ (ap (λ y. y *ℚ a k) (get_or-set_same xs k x zero_ℚ (omega arith))
        ∙ (ring (x ∷ a k ∷ []) (v 0 :* v 1) (nought :* v 1 :+ unit :* (v 0 :* v 1)) refl
        ∙ (ap₂ (λ y z. y *ℚ a k +ℚ z *ℚ (x *ℚ a k)) (sym z) (sym (unit_same k)) ∙ ap (λ j. at xs j *ℚ a j +ℚ delta k j *ℚ (x *ℚ a j)) e)))
    one i (inr d) =
        ap (λ y. y *ℚ a i) (get_or-set_other xs k i x zero_ℚ (λ e. d (sym e)))
        ∙ (ring (at xs i ∷ a i ∷ x ∷ []) (v 0 :* v 1) (v 0 :* v 1 :+ nought :* (v 2 :* v 1)) refl
        ∙ ap (λ y. at xs i *ℚ a i +ℚ y *ℚ (x *ℚ a i)) (sym (unit_other k i d)))

module _ (p : LinearProgram) (s : Standing) (slots : List Col) (order : List ℕ) (m : LinkMap) (net : IsNetwork (stage_of p s) p.nodes (tail_at p s) (head_at p s))
    (tree : IsTreeOf p s slots order m) (inside : (i : ℕ) → i < p.nodes → slot_number p slots i < all_columns (layout_of p)) (a b : ℕ) where
  abbrev n : ℕ
  n = p.nodes

  abbrev depth : ℕ → ℕ
  depth t = get_or m.depth t 0

  abbrev σ : ℕ → ℚ
  σ i = turn (tail_at p s) (slot_number p slots) i

  abbrev entry : ℕ → ℕ → ℚ
  entry i r = (stage_of p s).entry (slot_number p slots i) r

  entry_is : (i r : ℕ) → i < n → r < n → entry i r ≡ σ i *ℚ (delta (suc i) (suc r) +ℚ neg_ℚ (delta (get_or m.pred (suc i) 0) (suc r)))
  entry_is i r h l = key_entry n (tail_at p s) (head_at p s) (pred_in m) depth (slot_number p slots) tree.rooted (stage_of p s) net i r h (inside i h) l

  -- The start: nothing has a weight.
  pub begins : (out : List ℚ) → length out ≡ n → ((k : ℕ) → at out k ≡ zero_ℚ) → a ≤ n → b ≤ n → IsMidway p s slots m a b a b out
  begins out long zeros ha hb = record {
    long = long;
    from_within = ha;
    to_within = hb;
    gives = λ r l.
        sum_zero n (λ i. at out i *ℚ entry i r) (λ i k. ap (λ x. x *ℚ entry i r) (zeros i) ∙ zero-mul _)
        ∙ ring (delta a (suc r) ∷ delta b (suc r) ∷ []) nought ((v 0 :- v 1) :- (v 0 :- v 1)) refl;
    below_from = λ w h ne. absurd (ne (zeros w));
    below_to = λ w h ne. absurd (ne (zeros w));
    beside = λ w h ne. absurd (ne (zeros w));
  }

  -- The end: both have come to one vertex.
  pub arrives : (u v : ℕ) (out : List ℚ) → IsMidway p s slots m a b u v out → u ≡ v → GiveBetween p s slots a b out
  arrives u w out mid e r l =
      mid.gives r l ∙ (ap (λ z. (delta a (suc r) +ℚ neg_ℚ (delta b (suc r))) +ℚ neg_ℚ (delta z (suc r) +ℚ neg_ℚ (delta w (suc r)))) e
      ∙ ring (delta a (suc r) ∷ delta b (suc r) ∷ delta w (suc r) ∷ []) ((v 0 :- v 1) :- (v 2 :- v 2)) (v 0 :- v 1) refl)

  module _ (u w : ℕ) (out : List ℚ) (mid : IsMidway p s slots m a b u w out) (apart : u ≢ w) where
    -- The deeper of two different vertices is no root.
    pub from_node : depth w ≤ depth u → 0 < u
    from_node h = of u refl
      where
        of : (z : ℕ) → u ≡ z → 0 < u
        of (suc i) e = omega arith
        of zero e =
            let d : depth u ≡ depth 0 = ap depth e in
            let r = tree.rooted.root in
            let k = root_alone n (tail_at p s) (head_at p s) (pred_in m) depth (slot_number p slots) tree.rooted w (λ q. apart (e ∙ sym q)) (let x = mid.to_within in omega arith) in
            absurd (omega arith)

    pub to_node : depth u < depth w → 0 < w
    to_node h = of w refl
      where
        of : (z : ℕ) → w ≡ z → 0 < w
        of (suc i) e = omega arith
        of zero e = let d : depth w ≡ depth 0 = ap depth e in let r = tree.rooted.root in absurd (omega arith)

    -- Up from u, the deeper one or as deep.
    pub goes_up : depth w ≤ depth u → (i : ℕ) → u ≡ suc i → IsMidway p s slots m a b (get_or m.pred u 0) w (set out i (σ i))
    goes_up low i e = record {
      long = length-set out i (σ i) ∙ mid.long;
      from_within = subst (λ z. get_or m.pred z 0 ≤ n) (sym e) (tree.rooted.within i here);
      to_within = mid.to_within;
      gives = λ r l.
          sum_put n out (λ q. entry q r) i (σ i) mid.long here free
          ∙ (ap₂ (λ x y. x +ℚ σ i *ℚ y) (mid.gives r l) (entry_is i r here l)
          ∙ (ap (λ z. ((delta a (suc r) +ℚ neg_ℚ (delta b (suc r))) +ℚ neg_ℚ (delta z (suc r) +ℚ neg_ℚ (delta w (suc r)))) +ℚ σ i *ℚ (σ i *ℚ (delta (suc i) (suc r) +ℚ neg_ℚ (delta (get_or m.pred (suc i) 0) (suc r))))) e
          ∙ (ring (delta a (suc r) ∷ delta b (suc r) ∷ delta (suc i) (suc r) ∷ delta w (suc r) ∷ delta (get_or m.pred (suc i) 0) (suc r) ∷ σ i ∷ [])
          (((v 0 :- v 1) :- (v 2 :- v 3)) :+ v 5 :* (v 5 :* (v 2 :- v 4))) (((v 0 :- v 1) :- (v 2 :- v 3)) :+ (v 5 :* v 5) :* (v 2 :- v 4)) refl
          ∙ (ap (λ z. ((delta a (suc r) +ℚ neg_ℚ (delta b (suc r))) +ℚ neg_ℚ (delta (suc i) (suc r) +ℚ neg_ℚ (delta w (suc r)))) +ℚ z *ℚ (delta (suc i) (suc r) +ℚ neg_ℚ (delta (get_or m.pred (suc i) 0) (suc r)))) (square (tail_at p s) (slot_number p slots) i)
          ∙ (ring (delta a (suc r) ∷ delta b (suc r) ∷ delta (suc i) (suc r) ∷ delta w (suc r) ∷ delta (get_or m.pred (suc i) 0) (suc r) ∷ [])
          (((v 0 :- v 1) :- (v 2 :- v 3)) :+ unit :* (v 2 :- v 4)) ((v 0 :- v 1) :- (v 4 :- v 3)) refl
          ∙ ap (λ z. (delta a (suc r) +ℚ neg_ℚ (delta b (suc r))) +ℚ neg_ℚ (delta (get_or m.pred z 0) (suc r) +ℚ neg_ℚ (delta w (suc r)))) (sym e))))));
      below_from = λ q h ne. (let d = deeper in of_from q h (zero_or_not_set out i (σ i) q ne) d);
      below_to = λ q h ne. of_to q h (zero_or_not_set out i (σ i) q ne);
      beside = λ q h ne. of_beside q h (zero_or_not_set out i (σ i) q ne);
    }
      where
        here : i < n
        here = let x = mid.from_within in omega arith

        deeper : depth (suc i) ≡ suc (depth (get_or m.pred u 0))
        deeper = tree.rooted.deeper i here ∙ ap (λ z. suc (depth (get_or m.pred z 0))) (sym e)

        at_u : depth u ≡ depth (suc i)
        at_u = ap depth e

        zero_or : (x : ℕ) → (at out i ≡ zero_ℚ) ⊎ (at out i ≢ zero_ℚ) → at out i ≡ zero_ℚ
        zero_or x (inl z) = z
        zero_or x (inr ne) = let k = mid.below_from i here ne in let q = at_u in absurd (omega arith)

        free : at out i ≡ zero_ℚ
        free = zero_or 0 (zero_or_not (at out i))

        of_from : (q : ℕ) → q < n → (q ≡ i) ⊎ ((q ≢ i) × (at out q ≢ zero_ℚ)) → depth (suc i) ≡ suc (depth (get_or m.pred u 0)) → depth (get_or m.pred u 0) < depth (suc q)
        of_from q h (inl f) d = let k : depth (suc q) ≡ depth (suc i) = ap (λ z. depth (suc z)) f in omega arith
        of_from q h (inr (f, ne)) d = let k = mid.below_from q h ne in let x = at_u in omega arith

        of_to : (q : ℕ) → q < n → (q ≡ i) ⊎ ((q ≢ i) × (at out q ≢ zero_ℚ)) → depth w ≤ depth (suc q)
        of_to q h (inl f) = let k : depth (suc q) ≡ depth (suc i) = ap (λ z. depth (suc z)) f in let x = at_u in omega arith
        of_to q h (inr (f, ne)) = mid.below_to q h ne

        of_beside : (q : ℕ) → q < n → (q ≡ i) ⊎ ((q ≢ i) × (at out q ≢ zero_ℚ)) → suc q ≢ w
        of_beside q h (inl f) x = apart (e ∙ (ap suc (sym f) ∙ x))
        of_beside q h (inr (f, ne)) x = mid.beside q h ne x

    -- Up from w, the deeper one.
    pub goes_down : depth u < depth w → (i : ℕ) → w ≡ suc i → IsMidway p s slots m a b u (get_or m.pred w 0) (set out i (neg_ℚ (σ i)))
    goes_down low i e = record {
      long = length-set out i (neg_ℚ (σ i)) ∙ mid.long;
      from_within = mid.from_within;
      to_within = subst (λ z. get_or m.pred z 0 ≤ n) (sym e) (tree.rooted.within i here);
      gives = λ r l.
          sum_put n out (λ q. entry q r) i (neg_ℚ (σ i)) mid.long here free
          ∙ (ap₂ (λ x y. x +ℚ neg_ℚ (σ i) *ℚ y) (mid.gives r l) (entry_is i r here l)
          ∙ (ap (λ z. ((delta a (suc r) +ℚ neg_ℚ (delta b (suc r))) +ℚ neg_ℚ (delta u (suc r) +ℚ neg_ℚ (delta z (suc r)))) +ℚ neg_ℚ (σ i) *ℚ (σ i *ℚ (delta (suc i) (suc r) +ℚ neg_ℚ (delta (get_or m.pred (suc i) 0) (suc r))))) e
          ∙ (ring (delta a (suc r) ∷ delta b (suc r) ∷ delta (suc i) (suc r) ∷ delta u (suc r) ∷ delta (get_or m.pred (suc i) 0) (suc r) ∷ σ i ∷ [])
          (((v 0 :- v 1) :- (v 3 :- v 2)) :+ minus (v 5) :* (v 5 :* (v 2 :- v 4))) (((v 0 :- v 1) :- (v 3 :- v 2)) :- (v 5 :* v 5) :* (v 2 :- v 4)) refl
          ∙ (ap (λ z. ((delta a (suc r) +ℚ neg_ℚ (delta b (suc r))) +ℚ neg_ℚ (delta u (suc r) +ℚ neg_ℚ (delta (suc i) (suc r)))) +ℚ neg_ℚ (z *ℚ (delta (suc i) (suc r) +ℚ neg_ℚ (delta (get_or m.pred (suc i) 0) (suc r))))) (square (tail_at p s) (slot_number p slots) i)
          ∙ (ring (delta a (suc r) ∷ delta b (suc r) ∷ delta (suc i) (suc r) ∷ delta u (suc r) ∷ delta (get_or m.pred (suc i) 0) (suc r) ∷ [])
          (((v 0 :- v 1) :- (v 3 :- v 2)) :- unit :* (v 2 :- v 4)) ((v 0 :- v 1) :- (v 3 :- v 4)) refl
          ∙ ap (λ z. (delta a (suc r) +ℚ neg_ℚ (delta b (suc r))) +ℚ neg_ℚ (delta u (suc r) +ℚ neg_ℚ (delta (get_or m.pred z 0) (suc r)))) (sym e))))));
      below_from = λ q h ne. of_from q h (zero_or_not_set out i (neg_ℚ (σ i)) q ne);
      below_to = λ q h ne. of_to q h (zero_or_not_set out i (neg_ℚ (σ i)) q ne);
      beside = λ q h ne. of_beside q h (zero_or_not_set out i (neg_ℚ (σ i)) q ne);
    }
      where
        here : i < n
        here = let x = mid.to_within in omega arith

        deeper : depth (suc i) ≡ suc (depth (get_or m.pred w 0))
        deeper = tree.rooted.deeper i here ∙ ap (λ z. suc (depth (get_or m.pred z 0))) (sym e)

        at_w : depth w ≡ depth (suc i)
        at_w = ap depth e

        zero_or : (at out i ≡ zero_ℚ) ⊎ (at out i ≢ zero_ℚ) → at out i ≡ zero_ℚ
        zero_or (inl z) = z
        zero_or (inr ne) = absurd (mid.beside i here ne (sym e))

        free : at out i ≡ zero_ℚ
        free = zero_or (zero_or_not (at out i))

        of_from : (q : ℕ) → q < n → (q ≡ i) ⊎ ((q ≢ i) × (at out q ≢ zero_ℚ)) → depth u < depth (suc q)
        of_from q h (inl f) = let k : depth (suc q) ≡ depth (suc i) = ap (λ z. depth (suc z)) f in let x = at_w in omega arith
        of_from q h (inr (f, ne)) = mid.below_from q h ne

        of_to : (q : ℕ) → q < n → (q ≡ i) ⊎ ((q ≢ i) × (at out q ≢ zero_ℚ)) → depth (get_or m.pred w 0) ≤ depth (suc q)
        of_to q h (inl f) = let k : depth (suc q) ≡ depth (suc i) = ap (λ z. depth (suc z)) f in let d = deeper in omega arith
        of_to q h (inr (f, ne)) = let k = mid.below_to q h ne in let d = deeper in let x = at_w in omega arith

        of_beside : (q : ℕ) → q < n → (q ≡ i) ⊎ ((q ≢ i) × (at out q ≢ zero_ℚ)) → suc q ≢ get_or m.pred w 0
        of_beside q h (inl f) x = let k : depth (suc q) ≡ depth (suc i) = ap (λ z. depth (suc z)) f in let d = deeper in let y : depth (suc q) ≡ depth (get_or m.pred w 0) = ap depth x in absurd (omega arith)
        of_beside q h (inr (f, ne)) x = let k = mid.below_to q h ne in let d = deeper in let z = at_w in let y : depth (suc q) ≡ depth (get_or m.pred w 0) = ap depth x in absurd (omega arith)
