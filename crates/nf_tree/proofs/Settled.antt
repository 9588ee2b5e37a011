-- A tree that has no values yet: what takes up the rests at bounds are its values, and the sums that are made for it arise.
use Rattle.std.proofs.Common.{◌≡◌, ◌≢◌, ◌⊎◌, inl, inr, ℕ, suc, ◌<◌, Bool, true, false, IsTrue, List, length, get_or, [], ◌∷◌, refl, sym, ap, ◌∙◌, subst, arith, eq-eqb, ne_eqb, nat_eq}
use Rattle.std.specs.Prelude.{if◌then◌else◌}
use Rattle.nf_num.specs.Rational.{ℚ, zero_ℚ, one_ℚ, ◌*ℚ◌, neg_ℚ}
use Rattle.nf_num.specs.Sum.{sum_ℚ, delta}
use Rattle.nf_frac.specs.declared.passed.Passed.{Passed}
use Rattle.nf_frac.specs.declared.passed.Op.TheVariants.{Add}
use Rattle.nf_model.specs.Program.{LinearProgram, at}
use Rattle.nf_model.specs.Problem.{IsProblem}
use Rattle.nf_sums.specs.Terms.{PassesIn, AreSums, Terms, chosen_sum}
use Rattle.nf_sums.specs.Rows.{inverse_terms}
use Rattle.nf_sums.proofs.Laws.{known}
use Rattle.nf_links.specs.Map.{LinkMap}
use Rattle.nf_simplex.specs.Layout.{layout_of}
use Rattle.nf_simplex.specs.Columns.{all_columns}
use Rattle.nf_simplex.specs.StageOf.{StageOne}
use Rattle.nf_simplex.specs.Standing.{Standing, place_at, stage_of, rows_of, IsStateOf, IsBasisOf, IsInverseColumnOf}
use Rattle.nf_simplex.proofs.FieldLaws.{mul_comm, mul-one}
use Rattle.nf_simplex.proofs.Terms.{v, unit, minus, ◌:*◌, ring, mul-zero, zero-mul, one-mul}
use Rattle.nf_simplex.proofs.Sum.{sum_ext, scale_sum, sum_unit, unit_same, unit_other, equal_or_not}
use Rattle.nf_simplex.proofs.Basis.{sum_through}
use Rattle.nf_simplex.proofs.Slots.{spread, spread_at}
use Rattle.nf_basis.specs.declared.col.Col.{Col}
use Rattle.nf_basis.specs.Numbers.{slot_number, ListBasics}
use Rattle.nf_basis.specs.Arising.{LoadTerms, StateTerms, rest_at}
use Rattle.nf_basis.specs.Arising.StateTerms.{by_rows}
use Rattle.nf_basis.specs.Arising.IsRowFactor.{rest as rest_factor}
use Rattle.nf_basis.specs.Dense.{HasBasics, IsInverseOf, bound_at}
use Rattle.nf_basis.specs.Products.{AreProducts}
use Rattle.nf_basis.specs.AtBounds.{BoundTerms}
use Rattle.nf_basis.proofs.Inverse.{slots_are}
use Rattle.nf_basis.proofs.Restored.{in_load, numbers, rests_arise, parts_end}
use Rattle.nf_inverse.specs.Weights.{weight}
use Rattle.nf_tree.specs.Network.{turn}
use Rattle.nf_tree.specs.Vertices.{tail_at, head_at}
use Rattle.nf_tree.specs.Links.{IsTreeOf, pred_in}
use Rattle.nf_tree.specs.Rests.{GiveAt, IsOnPath, PassesOnPaths}
use Rattle.nf_tree.specs.Rests.IsOnPath.{start, on}
use Rattle.nf_tree.proofs.Gathered.{delta_turned}
use Rattle.nf_tree.proofs.Keys.{turn_ternary}
use Rattle.nf_tree.proofs.RootedTrees.{path, path_start, path_on, inverse_is_path}
use Rattle.nf_tree.proofs.Slotted.{rows_are, some_inverse, net, rooted}

module _ (p : LinearProgram) (s : Standing) (slots : List Col) (ok : IsProblem p) (one : s.stage ≡ StageOne) (st : IsStateOf p s) (basis : IsBasisOf p s) (listed : ListBasics p s slots) where
  abbrev inverse : (w : List (List ℚ)) × IsInverseOf p s slots w
  inverse = some_inverse p s slots ok basis listed

  -- ---- values
  -- What gives numbers at the nodes are their products with the inverse.
  products : (b : ℕ → ℚ) (xs : List ℚ) → GiveAt p s slots b xs → AreProducts inverse.0 b xs
  products b xs g k h =
      sym (sum_unit (rows_of p s) (at xs) k (subst (λ n. k < n) inverse.1.size h))
      ∙ (sum_ext (rows_of p s) (λ i. delta k i *ℚ at xs i) (λ i. at xs i *ℚ sum_ℚ (rows_of p s) (λ r. (stage_of p s).entry (slot_number p slots i) r *ℚ weight inverse.0 k r))
      (λ i l. mul_comm (delta k i) (at xs i) ∙ ap (λ x. at xs i *ℚ x) (delta_turned k i ∙ sym (inverse.1.left i k l (subst (λ n. k < n) inverse.1.size h))))
      ∙ (sum_through (rows_of p s) (rows_of p s) (at xs) (λ r. weight inverse.0 k r) (λ i r. (stage_of p s).entry (slot_number p slots i) r)
      ∙ (sum_ext (rows_of p s) (λ r. sum_ℚ (rows_of p s) (λ i. at xs i *ℚ (stage_of p s).entry (slot_number p slots i) r) *ℚ weight inverse.0 k r) (λ r. weight inverse.0 k r *ℚ b r)
      (λ r l. ap (λ x. x *ℚ weight inverse.0 k r) (gives r l) ∙ mul_comm (b r) (weight inverse.0 k r))
      ∙ ap (λ n. sum_ℚ n (λ r. weight inverse.0 k r *ℚ b r)) (sym inverse.1.size))))
    where
      gives : (r : ℕ) → r < rows_of p s → sum_ℚ (rows_of p s) (λ i. at xs i *ℚ (stage_of p s).entry (slot_number p slots i) r) ≡ b r
      gives = subst (λ n. (r : ℕ) → r < n → sum_ℚ n (λ i. at xs i *ℚ (stage_of p s).entry (slot_number p slots i) r) ≡ b r) (sym (rows_are p s one)) g

  module _ (rests : List ℚ) (are_rests : (i : ℕ) → i < rows_of p s → at rests i ≡ rest_at p (bound_at p s) i) where
    -- What gives the rests at bounds are the values of the basic columns.
    pub slots_settled : (xs : List ℚ) → length xs ≡ p.nodes → GiveAt p s slots (at rests) xs → HasBasics p s slots xs
    slots_settled xs long g = (parts_end p s ok slots inverse.0 basis listed inverse.1 st rests are_rests xs (long ∙ sym (rows_are p s one)) (products (at rests) xs g)).basics

  -- ---- causes
  pub bounds_arise : (c : Passed) → PassesIn (BoundTerms p s) c → PassesIn (LoadTerms p s) c
  bounds_arise c x = rests_arise p s ok slots inverse.0 basis listed inverse.1 st c x

  module _ (order : List ℕ) (m : LinkMap) (tree : IsTreeOf p s slots order m) where
    abbrev depth : ℕ → ℕ
    depth t = get_or m.depth t 0

    abbrev σ : ℕ → ℚ
    σ i = turn (tail_at p s) (slot_number p slots) i

    -- How often the node of row i is on the path from that of row r to the root.
    abbrev times : ℕ → ℕ → ℚ
    times r i = path (stage_of p s) (place_at s) (tail_at p s) (head_at p s) (pred_in m) (λ t. get_or m.depth t 0) (slot_number p slots) (net p s slots ok one listed order m tree) (slots_are p s slots ok listed) (rooted p s slots ok one listed order m tree) (get_or m.depth (suc r) 0) (suc r) i

    on_within : (r i : ℕ) → r < rows_of p s → IsOnPath m r i → i < rows_of p s
    on_within r i h start = h
    on_within r _ h (on i j w e) = let x = (rooted p s slots ok one listed order m tree).within i (on_within r i h w) in omega arith

    on_once : (r i : ℕ) → r < rows_of p s → IsOnPath m r i → times r i ≡ one_ℚ
    on_once r i h start = path_start (stage_of p s) (place_at s) (tail_at p s) (head_at p s) (pred_in m) (λ t. get_or m.depth t 0) (slot_number p slots) (net p s slots ok one listed order m tree) (slots_are p s slots ok listed) (rooted p s slots ok one listed order m tree) (get_or m.depth (suc r) 0) r h refl
    on_once r _ h (on i j w e) =
        path_on (stage_of p s) (place_at s) (tail_at p s) (head_at p s) (pred_in m) (λ t. get_or m.depth t 0) (slot_number p slots) (net p s slots ok one listed order m tree) (slots_are p s slots ok listed) (rooted p s slots ok one listed order m tree)
        (get_or m.depth (suc r) 0) (suc r) (omega arith) refl i j (on_within r i h w) e (on_once r i h w)

    -- The weights of an inverse column.
    abbrev W : ℕ → ℕ → ℚ
    W r = spread (rows_of p s) (slot_number p slots) (λ i. turn (tail_at p s) (slot_number p slots) i *ℚ times r i)

    are_weights : (r : ℕ) → r < rows_of p s → IsInverseColumnOf p s r (W r)
    are_weights r h = inverse_is_path (stage_of p s) (place_at s) (tail_at p s) (head_at p s) (pred_in m) (λ t. get_or m.depth t 0) (slot_number p slots) (net p s slots ok one listed order m tree) (slots_are p s slots ok listed) (rooted p s slots ok one listed order m tree) r h

    module _ (b : ℕ → ℚ) (c : Passed) (t : PassesOnPaths (rows_of p s) m b c) where
      held : ℕ → ℚ
      held z = sum_ℚ (rows_of p s) (λ r. delta (t.owner r) z *ℚ b r)

      abbrev terms : Terms
      terms = inverse_terms (rows_of p s) (λ r. W r (slot_number p slots t.node)) b

      abbrev owned : ℕ → ℕ → Bool
      owned z r = nat_eq (t.owner r) z

      weight_is : (r : ℕ) → r < rows_of p s → (t.owner r ≡ t.node) ⊎ (t.owner r ≡ t.from) → W r (slot_number p slots t.node) ≡ σ t.node
      weight_is r h o =
          spread_at (rows_of p s) (all_columns (layout_of p)) (place_at s) (slot_number p slots) (slots_are p s slots ok listed) (λ i. turn (tail_at p s) (slot_number p slots) i *ℚ times r i) t.node t.within
          ∙ (ap (λ x. σ t.node *ℚ x) (on_once r t.node h (t.on_path r h o)) ∙ mul-one (σ t.node))

      term_is : (z : ℕ) → ((r : ℕ) → t.owner r ≡ z → (t.owner r ≡ t.node) ⊎ (t.owner r ≡ t.from)) → (r : ℕ) → r < rows_of p s
          → (if nat_eq (t.owner r) z then (W r (slot_number p slots t.node) *ℚ b r) else zero_ℚ) ≡ σ t.node *ℚ (delta (t.owner r) z *ℚ b r)
      term_is z either r h = of (equal_or_not (t.owner r) z)
        where
          of : (t.owner r ≡ z) ⊎ (t.owner r ≢ z) → (if nat_eq (t.owner r) z then (W r (slot_number p slots t.node) *ℚ b r) else zero_ℚ) ≡ σ t.node *ℚ (delta (t.owner r) z *ℚ b r)
          of (inl e) =
              ap (λ q. if q then (W r (slot_number p slots t.node) *ℚ b r) else zero_ℚ) (eq-eqb (t.owner r) z e)
              ∙ (ap (λ x. x *ℚ b r) (weight_is r h (either r e))
              ∙ sym (ap (λ x. σ t.node *ℚ (x *ℚ b r)) (ap (λ y. delta y z) e ∙ unit_same z) ∙ ap (λ x. σ t.node *ℚ x) (one-mul (b r))))
          of (inr d) =
              ap (λ q. if q then (W r (slot_number p slots t.node) *ℚ b r) else zero_ℚ) (ne_eqb (t.owner r) z d)
              ∙ sym (ap (λ x. σ t.node *ℚ (x *ℚ b r)) (unit_other (t.owner r) z d) ∙ (ap (λ x. σ t.node *ℚ x) (zero-mul (b r)) ∙ mul-zero (σ t.node)))

      chosen_is : (z : ℕ) → ((r : ℕ) → t.owner r ≡ z → (t.owner r ≡ t.node) ⊎ (t.owner r ≡ t.from)) → chosen_sum terms (owned z) ≡ σ t.node *ℚ held z
      unfolding held
      chosen_is z either =
          sum_ext (rows_of p s) (λ r. if nat_eq (t.owner r) z then (W r (slot_number p slots t.node) *ℚ b r) else zero_ℚ) (λ r. σ t.node *ℚ (delta (t.owner r) z *ℚ b r)) (term_is z either)
          ∙ scale_sum (rows_of p s) (λ r. delta (t.owner r) z *ℚ b r) (σ t.node)

      owner_is : (r z : ℕ) → IsTrue (nat_eq (t.owner r) z) → t.owner r ≡ z
      owner_is r z a = of (equal_or_not (t.owner r) z)
        where
          of : (t.owner r ≡ z) ⊎ (t.owner r ≢ z) → t.owner r ≡ z
          of (inl e) = e
          of (inr e) = absurd (let q : false ≡ true = subst IsTrue (ne_eqb (t.owner r) z e) a in cc)

      split : (k : ℕ) → IsTrue (owned t.node k) → IsTrue (owned t.from k) → ⊥
      split k x y = t.apart (sym (owner_is k t.node x) ∙ owner_is k t.from y)

      sums : (σ t.node ≡ one_ℚ) ⊎ (σ t.node ≡ neg_ℚ one_ℚ) → AreSums terms (held t.node) (held t.from)
      sums (inl e) = record {
        some = owned t.node;
        others = owned t.from;
        apart = split;
        turned = false;
        left_is = sym (chosen_is t.node (λ r q. inl q) ∙ (ap (λ x. x *ℚ held t.node) e ∙ one-mul (held t.node)));
        right_is = sym (chosen_is t.from (λ r q. inr q) ∙ (ap (λ x. x *ℚ held t.from) e ∙ one-mul (held t.from)));
      }
      sums (inr e) = record {
        some = owned t.node;
        others = owned t.from;
        apart = split;
        turned = true;
        left_is = sym (ap neg_ℚ (chosen_is t.node (λ r q. inl q) ∙ ap (λ x. x *ℚ held t.node) e) ∙ twice (held t.node));
        right_is = sym (ap neg_ℚ (chosen_is t.from (λ r q. inr q) ∙ ap (λ x. x *ℚ held t.from) e) ∙ twice (held t.from));
      }
        where
          twice : (x : ℚ) → neg_ℚ (neg_ℚ one_ℚ *ℚ x) ≡ x
          twice x = ring (x ∷ []) (minus (minus unit :* v 0)) (v 0) refl

      -- Where the gathering passes, the operation is one of the values: the weights of the slot of the node there are all 1,
      -- or all -1.
      paths_arise : ((r : ℕ) → r < rows_of p s → b r ≡ rest_at p (bound_at p s) r) → PassesIn (LoadTerms p s) c
      unfolding held
      paths_arise are =
          in_load p s ok slots inverse.0 basis listed inverse.1 st c
          (known (StateTerms p s) Add (sum_ℚ (rows_of p s) (λ r. delta (t.owner r) t.node *ℚ b r)) (sum_ℚ (rows_of p s) (λ r. delta (t.owner r) t.from *ℚ b r)) c t.is t.passes terms
          (by_rows (slot_number p slots t.node) W b ((slots_are p s slots ok listed).within t.node t.within) are_weights (λ r l. rest_factor (b r) (bound_at p s) (numbers p s ok slots inverse.0 basis listed inverse.1 st) (are r l)))
          (sums (turn_ternary (tail_at p s) (slot_number p slots) t.node)))

    pub gathering_arises : (b : ℕ → ℚ) → ((r : ℕ) → r < rows_of p s → b r ≡ rest_at p (bound_at p s) r) → (c : Passed) → PassesOnPaths p.nodes m b c → PassesIn (LoadTerms p s) c
    gathering_arises b are c t = paths_arise b c (subst (λ n. PassesOnPaths n m b c) (sym (rows_are p s one)) t) are
