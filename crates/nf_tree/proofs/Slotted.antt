-- Weights and duals by slot, in stage one.
use Rattle.std.proofs.Common.{◌≡◌, ◌≢◌, ◌⊎◌, inl, inr, ℕ, suc, ◌-◌, ◌<◌, true, false, List, length, get_or, map, [], ◌∷◌, refl, sym, ap, ap₂, ◌∙◌, subst, arith, if◌then◌else◌, nat_eq}
use Rattle.std.specs.List.{range_with_len}
use Rattle.std.proofs.lemmas.List.FromFn.{length-map-range_with_len, get_or-map-range_with_len}
use Rattle.nf_num.specs.Rational.{ℚ, ◌+ℚ◌, ◌*ℚ◌, ◌-ℚ◌, neg_ℚ, inv_ℚ}
use Rattle.nf_num.specs.Sum.{sum_ℚ, delta}
use Rattle.nf_model.specs.Program.{LinearProgram, at}
use Rattle.nf_model.specs.Problem.{IsProblem}
use Rattle.nf_model.specs.Lists.{list_of}
use Rattle.nf_model.proofs.Lists.{at-list_of}
use Rattle.nf_inverse.specs.Weights.{weight}
use Rattle.nf_inverse.specs.Exchanged.{IsExchanged}
use Rattle.nf_simplex.specs.Layout.{layout_of}
use Rattle.nf_simplex.specs.Columns.{all_columns}
use Rattle.nf_simplex.specs.StageOf.{StageOne, rows_in}
use Rattle.nf_simplex.specs.Place as model
use Rattle.nf_simplex.specs.Place.{count_basic}
use Rattle.nf_simplex.specs.Columns as columns
use Rattle.nf_simplex.specs.Changes.{with_place}
use Rattle.nf_simplex.specs.Standing.{Standing, column_in, Phase, costs_of, place_at, stage_of, rows_of, IsBasisOf, AreDualsOf}
use Rattle.nf_simplex.proofs.Terms.{v, nought, ◌:-◌, ring}
use Rattle.nf_simplex.proofs.Sum.{sum_ext, unit_other}
use Rattle.nf_simplex.specs.Numbers.{IsInverseColumn}
use Rattle.std.proofs.lemmas.Bool.Decides.{nat_tests}
use Rattle.nf_simplex.proofs.Same.{reduced_same}
use Rattle.nf_simplex.proofs.Slots.{IsMatrixInverse, spread, spread_at, weights_of_slots, matrix_of_inverse}
use Rattle.nf_simplex.proofs.Dimension.{inverse_of_basis}
use Rattle.nf_basis.specs.declared.col.Col.{Col}
use Rattle.nf_basis.specs.Kept.{IsPresent, number}
use Rattle.nf_basis.specs.Numbers.{slot_number, ListBasics, AreWeightsBySlot}
use Rattle.nf_basis.specs.Dense.{IsInverseOf}
use Rattle.nf_basis.proofs.Inverse.{slots_are}
use Rattle.nf_links.specs.Map.{LinkMap}
use Rattle.nf_tree.specs.Network.{IsNetwork, IsRooted, ArePotentials, turn}
use Rattle.nf_tree.specs.Vertices.{tail_of, head_of, tail_at, head_at}
use Rattle.nf_tree.specs.Links.{AreEndsOf, ArePricesOf, GiveBetween, IsTreeOf, pred_in}
use Rattle.nf_tree.proofs.RootedTrees.{unit_shift, potential, potentials, potentials_are_duals, tree_independent}
use Rattle.nf_tree.proofs.Vertices.{is_network}
use Rattle.nf_simplex.proofs.Numbered.{number_within}
use Rattle.nf_basis.specs.Names.{col_of}

pub rows_are : (p : LinearProgram) (s : Standing) → s.stage ≡ StageOne → rows_of p s ≡ p.nodes
rows_are p s e = ap (λ n. rows_in (layout_of p) n) e

-- ---- lists of lists
pub lists : ℕ → (ℕ → ℕ → ℚ) → List (List ℚ)
lists n f = map (λ k. list_of n (f k)) (range_with_len 0 n)

pub length-lists : (n : ℕ) (f : ℕ → ℕ → ℚ) → length (lists n f) ≡ n
unfolding lists
length-lists n f = length-map-range_with_len (λ k. list_of n (f k)) 0 n

pub weight-lists : (n : ℕ) (f : ℕ → ℕ → ℚ) (k i : ℕ) → k < n → i < n → weight (lists n f) k i ≡ f k i
unfolding lists
weight-lists n f k i h l = ap (λ xs. at xs i) (get_or-map-range_with_len (λ k. list_of n (f k)) 0 n k k [] h (omega arith)) ∙ at-list_of n (f k) i l

-- A basis in slots has an inverse.
pub some_inverse : (p : LinearProgram) (s : Standing) (slots : List Col) → IsProblem p → IsBasisOf p s → ListBasics p s slots → (w : List (List ℚ)) × IsInverseOf p s slots w
some_inverse p s slots ok basis listed = (lists (rows_of p s) f, record { size = length-lists (rows_of p s) f; right = right; left = left })
  where
    inv : (W : ℕ → ℕ → ℚ) × ((r : ℕ) → r < rows_of p s → IsInverseColumn (stage_of p s) (place_at s) r (W r))
    inv = inverse_of_basis (stage_of p s) (place_at s) basis

    f : ℕ → ℕ → ℚ
    f k r = inv.0 r (slot_number p slots k)

    matrix : IsMatrixInverse (stage_of p s) (place_at s) (slot_number p slots) (slots_are p s slots ok listed) f
    matrix = matrix_of_inverse (stage_of p s) (place_at s) (slot_number p slots) (slots_are p s slots ok listed) inv.0 basis.independent inv.1

    right : (r i : ℕ) → r < rows_of p s → i < rows_of p s → sum_ℚ (rows_of p s) (λ k. weight (lists (rows_of p s) f) k r *ℚ (stage_of p s).entry (slot_number p slots k) i) ≡ delta r i
    right r i h l = sum_ext (rows_of p s) _ _ (λ k m. ap (λ z. z *ℚ (stage_of p s).entry (slot_number p slots k) i) (weight-lists (rows_of p s) f k r m h)) ∙ matrix.right r i h l

    left : (l k : ℕ) → l < rows_of p s → k < rows_of p s → sum_ℚ (rows_of p s) (λ r. (stage_of p s).entry (slot_number p slots l) r *ℚ weight (lists (rows_of p s) f) k r) ≡ delta l k
    left l k h m = sum_ext (rows_of p s) _ _ (λ r q. ap (λ z. (stage_of p s).entry (slot_number p slots l) r *ℚ z) (weight-lists (rows_of p s) f k r m q)) ∙ matrix.left l k h m

-- The inverse after an exchange.
pub some_exchange : (n : ℕ) (w : List (List ℚ)) (entry : ℕ → ℚ) (leaving : ℕ) → length w ≡ n → leaving < n → (w' : List (List ℚ)) × (length w' ≡ length w) × IsExchanged w w' entry leaving
some_exchange n w entry l size within = (
  lists n f,
  length-lists n f ∙ sym size,
  record {
    leaving_slot = λ i h. at_l i (subst (λ m. i < m) size h);
    other_slots = λ k i h m ne. weight-lists n f k i (subst (λ z. k < z) size h) (subst (λ z. i < z) size m)
        ∙ (of k i (decide k) ne ∙ ap (λ z. weight w k i -ℚ entry k *ℚ z) (sym (at_l i (subst (λ z. i < z) size m))));
  },
)
  where
    row : ℕ → ℚ
    row i = weight w l i *ℚ inv_ℚ (entry l)

    f : ℕ → ℕ → ℚ
    f k i = if nat_eq k l then row i else (weight w k i -ℚ entry k *ℚ row i)

    decide : (k : ℕ) → ((k ≡ l) × (nat_eq k l ≡ true)) ⊎ ((k ≢ l) × (nat_eq k l ≡ false))
    decide k = grind (arith, nat_tests)

    at_l : (i : ℕ) → i < n → weight (lists n f) l i ≡ row i
    at_l i h = weight-lists n f l i within h ∙ here (decide l)
      where
        here : ((l ≡ l) × (nat_eq l l ≡ true)) ⊎ ((l ≢ l) × (nat_eq l l ≡ false)) → f l i ≡ row i
        here (inl (e, q)) = ap (λ b. if b then row i else (weight w l i -ℚ entry l *ℚ row i)) q
        here (inr (ne, q)) = absurd (ne refl)

    of : (k i : ℕ) → ((k ≡ l) × (nat_eq k l ≡ true)) ⊎ ((k ≢ l) × (nat_eq k l ≡ false)) → k ≢ l → f k i ≡ weight w k i -ℚ entry k *ℚ row i
    of k i (inl (e, q)) ne = absurd (ne e)
    of k i (inr (m, q)) ne = ap (λ b. if b then row i else (weight w k i -ℚ entry k *ℚ row i)) q

module _ (p : LinearProgram) (s : Standing) (slots : List Col) (ok : IsProblem p) (one : s.stage ≡ StageOne) (listed : ListBasics p s slots) where
  -- ---- weights
  pub weights_slotted : (a : ℕ → ℚ) (out : List ℚ) → ((r : ℕ) → r < p.nodes → sum_ℚ p.nodes (λ i. at out i *ℚ (stage_of p s).entry (slot_number p slots i) r) ≡ a r) → AreWeightsBySlot p s slots a out
  weights_slotted a out h = record {
    weights = spread (rows_of p s) (slot_number p slots) (at out);
    are_weights = weights_of_slots (stage_of p s) (place_at s) (slot_number p slots) (slots_are p s slots ok listed) a (at out)
        (record { gives = subst (λ n. (r : ℕ) → r < n → sum_ℚ n (λ i. at out i *ℚ (stage_of p s).entry (slot_number p slots i) r) ≡ a r) (sym (rows_are p s one)) h });
    by_slot = λ k l. sym (spread_at (rows_of p s) (all_columns (layout_of p)) (place_at s) (slot_number p slots) (slots_are p s slots ok listed) (at out) k l);
  }

  -- The path from the tail of a column to its head gives its entries,
  pub entries_by_path : (c : Col) → IsPresent p s c → (out : List ℚ) (a b : ℕ) → a ≡ tail_at p s (number p c) → b ≡ head_at p s (number p c) → GiveBetween p s slots a b out → AreWeightsBySlot p s slots ((stage_of p s).entry (number p c)) out
  entries_by_path c here out a b ea eb g =
      weights_slotted ((stage_of p s).entry (number p c)) out
      (λ r l. g r l ∙ (ap₂ (λ x y. delta x (suc r) +ℚ neg_ℚ (delta y (suc r))) ea eb
      ∙ sym ((is_network p s ok one).node_entry (number p c) r (number_within (layout_of p) s.stage (col_of c) ok.arcs_within here.1) l)))

  -- and the path from a node to the root the inverse column of its row.
  pub inverse_by_path : (row : ℕ) → 0 < row → (out : List ℚ) → GiveBetween p s slots row 0 out → AreWeightsBySlot p s slots (delta (row - 1)) out
  inverse_by_path row some out g =
      weights_slotted (delta (row - 1)) out
      (λ r l. g r l ∙ (ap₂ (λ x y. x +ℚ neg_ℚ y) (ap (λ z. delta z (suc r)) (is row some) ∙ unit_shift (row - 1) r) (unit_other 0 (suc r) (λ e. absurd (omega arith)))
      ∙ ring (delta (row - 1) r ∷ []) (v 0 :- nought) (v 0) refl))
    where
      is : (k : ℕ) → 0 < k → k ≡ suc (k - 1)
      is k h = omega arith

  -- ---- duals
  module _ (order : List ℕ) (m : LinkMap) (tree : IsTreeOf p s slots order m) where
    pub net : IsNetwork (stage_of p s) (rows_of p s) (tail_at p s) (head_at p s)
    net = subst (λ n. IsNetwork (stage_of p s) n (tail_at p s) (head_at p s)) (sym (rows_are p s one)) (is_network p s ok one)

    pub rooted : IsRooted (rows_of p s) (tail_at p s) (head_at p s) (pred_in m) (λ t. get_or m.depth t 0) (slot_number p slots)
    rooted = subst (λ n. IsRooted n (tail_at p s) (head_at p s) (pred_in m) (λ t. get_or m.depth t 0) (slot_number p slots)) (sym (rows_are p s one)) tree.rooted

    -- As many basic columns as rows, with a tree, are a basis.
    pub basis_of_links : count_basic (all_columns (layout_of p)) (place_at s) ≡ rows_of p s → IsBasisOf p s
    basis_of_links as_many = record {
      as_many = as_many;
      independent = tree_independent (stage_of p s) (place_at s) (tail_at p s) (head_at p s) (pred_in m) (λ t. get_or m.depth t 0) (slot_number p slots) net (slots_are p s slots ok listed) rooted;
    }

    -- The potentials for the costs of a phase.
    pub pot : Phase → ℕ → ℚ
    pot phase t = potential (stage_of p s) (place_at s) (tail_at p s) (head_at p s) (pred_in m) (λ t. get_or m.depth t 0) (slot_number p slots) net (slots_are p s slots ok listed) rooted (costs_of p phase) (get_or m.depth t 0) t

    are_pots : (phase : Phase) → ArePotentials (rows_of p s) (tail_at p s) (pred_in m) (slot_number p slots) (costs_of p phase) (pot phase)
    unfolding pot
    are_pots phase = potentials (stage_of p s) (place_at s) (tail_at p s) (head_at p s) (pred_in m) (λ t. get_or m.depth t 0) (slot_number p slots) net (slots_are p s slots ok listed) rooted (costs_of p phase)

    pub are_prices : (phase : Phase) (costs : ℕ → ℚ) → ((i : ℕ) → i < p.nodes → costs i ≡ costs_of p phase (slot_number p slots i)) → ArePricesOf p s slots m costs (pot phase)
    are_prices phase costs e = record {
      at_root = (are_pots phase).at_root;
      along = λ i h. (are_pots phase).along i (subst (λ n. i < n) (sym (rows_are p s one)) h)
          ∙ ap (λ z. pot phase (pred_in m i) +ℚ turn (tail_at p s) (slot_number p slots) i *ℚ z) (sym (e i h));
    }

    pub pots_are_duals : (phase : Phase) → AreDualsOf p s phase (λ i. pot phase (suc i))
    pots_are_duals phase = potentials_are_duals (stage_of p s) (place_at s) (tail_at p s) (head_at p s) (pred_in m) (λ t. get_or m.depth t 0) (slot_number p slots) net (slots_are p s slots ok listed) rooted (costs_of p phase) (pot phase) (are_pots phase)

    pub duals_slotted : (phase : Phase) (out : List ℚ) → ((i : ℕ) → i < p.nodes → at out i ≡ pot phase (suc i)) → AreDualsOf p s phase (at out)
    duals_slotted phase out e j h b =
        reduced_same (stage_of p s) (place_at s) (costs_of p phase) (at out) (λ i. pot phase (suc i)) (λ r l. e r (subst (λ n. r < n) (rows_are p s one) l)) j
        ∙ pots_are_duals phase j h b

-- ---- a state with another place of a column has the same tree
tail_placed : (p : LinearProgram) (s : Standing) (j : ℕ) (a : model.Place) (c : columns.Col) → tail_of p s c ≡ tail_of p (with_place s j a) c
tail_placed p s j a (columns.Given k) = refl
tail_placed p s j a (columns.Slack r) = refl
tail_placed p s j a (columns.Artificial r) = refl

head_placed : (p : LinearProgram) (s : Standing) (j : ℕ) (a : model.Place) (c : columns.Col) → head_of p s c ≡ head_of p (with_place s j a) c
head_placed p s j a (columns.Given k) = refl
head_placed p s j a (columns.Slack r) = refl
head_placed p s j a (columns.Artificial r) = refl

ends_placed : (p : LinearProgram) (s t : Standing) (pred depth arc : ℕ → ℕ)
    → ((j : ℕ) → tail_at p s j ≡ tail_at p t j) → ((j : ℕ) → head_at p s j ≡ head_at p t j)
    → IsRooted p.nodes (tail_at p s) (head_at p s) pred depth arc → IsRooted p.nodes (tail_at p t) (head_at p t) pred depth arc
ends_placed p s t pred depth arc tails heads r = record { root = r.root; within = r.within; deeper = r.deeper; ends = λ i l. moved i (r.ends i l) }
  where
    moved : (i : ℕ) → ((tail_at p s (arc i) ≡ suc i) × (head_at p s (arc i) ≡ pred i)) ⊎ ((tail_at p s (arc i) ≡ pred i) × (head_at p s (arc i) ≡ suc i))
        → ((tail_at p t (arc i) ≡ suc i) × (head_at p t (arc i) ≡ pred i)) ⊎ ((tail_at p t (arc i) ≡ pred i) × (head_at p t (arc i) ≡ suc i))
    moved i (inl e) = inl (sym (tails (arc i)) ∙ e.0, sym (heads (arc i)) ∙ e.1)
    moved i (inr e) = inr (sym (tails (arc i)) ∙ e.0, sym (heads (arc i)) ∙ e.1)

pub tree_placed : (p : LinearProgram) (s : Standing) (j : ℕ) (a : model.Place) (slots : List Col) (order : List ℕ) (m : LinkMap)
    → IsTreeOf p s slots order m → IsTreeOf p (with_place s j a) slots order m
tree_placed p s j a slots order m h =
    record {
      vertices = h.vertices;
      ordered = h.ordered;
      rooted = ends_placed p s (with_place s j a) _ _ _ (λ q. tail_placed p s j a (column_in p q)) (λ q. head_placed p s j a (column_in p q)) h.rooted;
      root_pred = h.root_pred;
      root_arc = h.root_arc;
      arcs = h.arcs;
      preorder = h.preorder;
      thread = h.thread;
      sizes = h.sizes;
    }

-- and the same ends of columns.
pub ends_stay : (p : LinearProgram) (s : Standing) (j : ℕ) (a : model.Place) (keys : List Col) (n : ℕ) (tails heads names : List ℕ) → AreEndsOf p s keys n tails heads names → AreEndsOf p (with_place s j a) keys n tails heads names
ends_stay p s j a keys n tails heads names e = record {
  tail = λ q h. e.tail q h ∙ tail_placed p s j a (column_in p (slot_number p keys q));
  head = λ q h. e.head q h ∙ head_placed p s j a (column_in p (slot_number p keys q));
  name = e.name;
}
