-- The columns of a basis, put into the slots of their nodes.
use Rattle.std.proofs.Common.{◌≡◌, ◌⊎◌, inl, inr, ℕ, suc, ◌<◌, ◌≤◌, List, length, get_or, refl, sym, ap, ap₂, ◌∙◌, subst}
use Rattle.nf_num.specs.Rational.{ℚ, ◌+ℚ◌, ◌*ℚ◌}
use Rattle.nf_num.specs.Sum.{sum_ℚ, delta}
use Rattle.nf_model.specs.Program.{LinearProgram, at}
use Rattle.nf_model.specs.Problem.{IsProblem}
use Rattle.nf_simplex.specs.Place as model
use Rattle.nf_simplex.specs.StageOf.{StageOne}
use Rattle.nf_simplex.specs.Standing.{Standing, place_at, stage_of, rows_of, IsBasisOf}
use Rattle.nf_simplex.proofs.Sum.{sum_ext}
use Rattle.nf_simplex.proofs.Slots.{AreSlots, sum_slots}
use Rattle.nf_basis.specs.declared.col.Col.{Col}
use Rattle.nf_basis.specs.Kept.{IsPresent, number}
use Rattle.nf_basis.specs.Numbers.{in_slot, slot_number, ListBasics}
use Rattle.nf_basis.specs.Dense.{HasBasics, bound_at, spread_values}
use Rattle.nf_basis.proofs.Pivoted.{values_by_one}
use Rattle.nf_links.specs.Map.{LinkMap}
use Rattle.nf_grove.specs.Grove.{AreJoined}
use Rattle.nf_grove.specs.Tree.{IsTreeBy}
use Rattle.nf_grove.proofs.Rooted.{all_hit}
use Rattle.nf_tree.specs.declared.span.Span.{Span}
use Rattle.nf_tree.specs.Network.{IsNetwork}
use Rattle.nf_tree.specs.Vertices.{tail_at, head_at, link_name}
use Rattle.nf_tree.specs.Links.{AreEndsOf, HasSpan, IsTreeOf, SpansKeys, pred_in}
use Rattle.nf_tree.proofs.Connected.{tree_of_basis}
use Rattle.nf_tree.proofs.Vertices.{is_network, slots_inside}
use Rattle.nf_tree.proofs.Slotted.{rows_are}

-- The ends of keys are vertices.
module _ (p : LinearProgram) (s : Standing) (ok : IsProblem p) (one : s.stage ≡ StageOne) (keys : List Col) (present : (q : ℕ) → q < p.nodes → IsPresent p s (in_slot keys q)) (tails heads names : List ℕ) (e : AreEndsOf p s keys p.nodes tails heads names) where
  pub tail_there : (q : ℕ) → q < p.nodes → get_or tails q 0 ≤ p.nodes
  tail_there q h = subst (λ v. v ≤ p.nodes) (sym (e.tail q h)) ((is_network p s ok one).tail_within (slot_number p keys q) (slots_inside p s ok keys present q h))

  pub head_there : (q : ℕ) → q < p.nodes → get_or heads q 0 ≤ p.nodes
  head_there q h = subst (λ v. v ≤ p.nodes) (sym (e.head q h)) ((is_network p s ok one).head_within (slot_number p keys q) (slots_inside p s ok keys present q h))

-- The columns of a basis join all vertices.
pub joined_of_basis : (p : LinearProgram) (s : Standing) (slots keys : List Col) (tails heads names : List ℕ) → IsProblem p → s.stage ≡ StageOne → IsBasisOf p s → ListBasics p s slots
    → ((q : ℕ) → q < p.nodes → in_slot keys q ≡ in_slot slots q) → AreEndsOf p s keys p.nodes tails heads names → AreJoined p.nodes tails heads
joined_of_basis p s slots keys tails heads names ok one basis listed same e inside root closed w h =
    (tree_of_basis (stage_of p s) (tail_at p s) (head_at p s) net (place_at s) basis).connected inside root
    (λ j l b. here j (listed.every j l b)) w (subst (λ n. w ≤ n) (sym (rows_are p s one)) h)
  where
    net : IsNetwork (stage_of p s) (rows_of p s) (tail_at p s) (head_at p s)
    net = subst (λ n. IsNetwork (stage_of p s) n (tail_at p s) (head_at p s)) (sym (rows_are p s one)) (is_network p s ok one)

    here : (j : ℕ) → (k : ℕ) × (k < rows_of p s) × (slot_number p slots k ≡ j) → inside (tail_at p s j) ≡ inside (head_at p s j)
    here j (k, l, q) =
        let m = subst (λ n. k < n) (rows_are p s one) l in
        let f : slot_number p keys k ≡ j = ap (number p) (same k m) ∙ q in
        sym (ap inside (e.tail k m ∙ ap (tail_at p s) f)) ∙ (closed k m ∙ ap inside (e.head k m ∙ ap (head_at p s) f))

module _ (p : LinearProgram) (s : Standing) (ok : IsProblem p) (one : s.stage ≡ StageOne) (slots keys : List Col) (listed : ListBasics p s slots)
    (keys_are : (q : ℕ) → q < p.nodes → in_slot keys q ≡ in_slot slots q) (a : Span) (room : HasSpan p.nodes a) (spans : SpansKeys p s keys a)
    (slots' : List Col) (long_slots : length slots' ≡ p.nodes) (slots_are' : (i : ℕ) → i < p.nodes → in_slot slots' i ≡ in_slot keys (get_or a.grove.key.items (suc i) 0)) where
  abbrev n : ℕ
  n = p.nodes

  abbrev m : LinkMap
  m = a.grove.links

  π : ℕ → ℕ
  π i = get_or a.grove.key.items (suc i) 0

  grown : IsTreeBy n a.tails.items a.heads.items a.names.items (λ i. get_or a.grove.key.items (suc i) 0) (λ k. get_or a.grove.order.items k 0) m
  grown = subst (λ k. IsTreeBy k a.tails.items a.heads.items a.names.items (λ i. get_or a.grove.key.items (suc i) 0) (λ k. get_or a.grove.order.items k 0) m) room.tails spans.tree

  π_within : (i : ℕ) → i < n → π i < n
  unfolding π
  π_within = grown.rooted.key_within

  π_distinct : (i k : ℕ) → i < n → k < n → π i ≡ π k → i ≡ k
  unfolding π
  π_distinct = grown.rooted.distinct

  π_onto : (q : ℕ) → q < n → (i : ℕ) × (i < n) × (π i ≡ q)
  π_onto = all_hit n π π_within π_distinct

  in_new : (i : ℕ) → i < n → in_slot slots' i ≡ in_slot slots (π i)
  unfolding π
  in_new i h = slots_are' i h ∙ keys_are (get_or a.grove.key.items (suc i) 0) (grown.rooted.key_within i h)

  number_new : (i : ℕ) → i < n → slot_number p slots' i ≡ slot_number p slots (π i)
  number_new i h = ap (number p) (in_new i h)

  rows : rows_of p s ≡ n
  rows = rows_are p s one

  in_rows : (k : ℕ) → k < n → k < rows_of p s
  in_rows k h = subst (λ z. k < z) (sym rows) h

  in_nodes : (k : ℕ) → k < rows_of p s → k < n
  in_nodes k h = subst (λ z. k < z) rows h

  pub listed_planted : ListBasics p s slots'
  listed_planted = record {
    as_many = long_slots ∙ sym rows;
    present = λ k h. subst (IsPresent p s) (sym (in_new k (in_nodes k h))) (listed.present (π k) (in_rows (π k) (π_within k (in_nodes k h))));
    basic = λ k h. ap (place_at s) (number_new k (in_nodes k h)) ∙ listed.basic (π k) (in_rows (π k) (π_within k (in_nodes k h)));
    distinct = λ k i h l e. π_distinct k i (in_nodes k h) (in_nodes i l)
        (listed.distinct (π k) (π i) (in_rows (π k) (π_within k (in_nodes k h))) (in_rows (π i) (π_within i (in_nodes i l))) (sym (number_new k (in_nodes k h)) ∙ (e ∙ number_new i (in_nodes i l))));
    every = λ j h b. (let (q, l, e) = listed.every j h b in let (i, w, f) = π_onto q (in_nodes q l) in (i, in_rows i w, number_new i w ∙ (ap (slot_number p slots) f ∙ e)));
  }

  permuted : AreSlots n n (λ j. model.Basic) π
  permuted = record { within = π_within; basic = λ k h. refl; distinct = π_distinct; onto = λ j h b. π_onto j h }

  -- The links are those of the tree of the columns in their new slots.
  pub tree_planted : IsTreeOf p s slots' a.grove.order.items a.grove.links
  tree_planted = record {
    vertices = grown.vertices;
    ordered = room.lists.orders;
    rooted = record {
      root = grown.rooted.root;
      within = grown.rooted.within;
      deeper = grown.rooted.deeper;
      ends = λ i h. ends i h (grown.rooted.ends i h);
    };
    root_pred = grown.root_pred;
    root_arc = grown.root_arc;
    arcs = λ i h. grown.arcs i h ∙ (spans.ends.name (get_or a.grove.key.items (suc i) 0) (grown.rooted.key_within i h) ∙ ap (link_name p) (sym (slots_are' i h)));
    preorder = grown.preorder;
    thread = grown.thread;
    sizes = grown.sizes;
  }
    where
      tail_is : (i : ℕ) → i < n → get_or a.tails.items (get_or a.grove.key.items (suc i) 0) 0 ≡ tail_at p s (slot_number p slots' i)
      tail_is i h = spans.ends.tail (get_or a.grove.key.items (suc i) 0) (grown.rooted.key_within i h) ∙ ap (λ c. tail_at p s (number p c)) (sym (slots_are' i h))

      head_is : (i : ℕ) → i < n → get_or a.heads.items (get_or a.grove.key.items (suc i) 0) 0 ≡ head_at p s (slot_number p slots' i)
      head_is i h = spans.ends.head (get_or a.grove.key.items (suc i) 0) (grown.rooted.key_within i h) ∙ ap (λ c. head_at p s (number p c)) (sym (slots_are' i h))

      ends : (i : ℕ) → i < n
          → ((get_or a.tails.items (get_or a.grove.key.items (suc i) 0) 0 ≡ suc i) × (get_or a.heads.items (get_or a.grove.key.items (suc i) 0) 0 ≡ pred_in m i)) ⊎ ((get_or a.tails.items (get_or a.grove.key.items (suc i) 0) 0 ≡ pred_in m i) × (get_or a.heads.items (get_or a.grove.key.items (suc i) 0) 0 ≡ suc i))
          → ((tail_at p s (slot_number p slots' i) ≡ suc i) × (head_at p s (slot_number p slots' i) ≡ pred_in m i)) ⊎ ((tail_at p s (slot_number p slots' i) ≡ pred_in m i) × (head_at p s (slot_number p slots' i) ≡ suc i))
      ends i h (inl (x, y)) = inl (sym (tail_is i h) ∙ x, sym (head_is i h) ∙ y)
      ends i h (inr (x, y)) = inr (sym (tail_is i h) ∙ x, sym (head_is i h) ∙ y)

  module _ (values work : List ℚ) (held : HasBasics p s slots values) (work_are : (q : ℕ) → q < p.nodes → at work q ≡ at values q)
      (values' : List ℚ) (long_values : length values' ≡ p.nodes) (values_are' : (i : ℕ) → i < p.nodes → at values' i ≡ at work (get_or a.grove.key.items (suc i) 0)) where
    value_new : (i : ℕ) → i < n → at values' i ≡ at values (π i)
    unfolding π
    value_new i h = values_are' i h ∙ work_are (get_or a.grove.key.items (suc i) 0) (grown.rooted.key_within i h)

    same_values : (j : ℕ) → spread_values p s slots' values' j ≡ spread_values p s slots values j
    same_values j =
        ap (λ z. bound_at p s j +ℚ z)
        (ap (λ k. sum_ℚ k (λ i. delta (slot_number p slots' i) j *ℚ at values' i)) rows
        ∙ (sum_ext n (λ i. delta (slot_number p slots' i) j *ℚ at values' i) (λ i. delta (slot_number p slots (π i)) j *ℚ at values (π i)) (λ i h. ap₂ (λ x y. delta x j *ℚ y) (number_new i h) (value_new i h))
        ∙ (sym (sum_slots n n (λ j. model.Basic) π permuted (λ i. delta (slot_number p slots i) j *ℚ at values i) (λ i h ne. absurd (ne refl)))
        ∙ ap (λ k. sum_ℚ k (λ i. delta (slot_number p slots i) j *ℚ at values i)) (sym rows))))

    -- The slots and values stay those of the state.
    pub held_planted : HasBasics p s slots' values'
    held_planted =
        record {
          basis = held.basis;
          listed = listed_planted;
          value_each = long_values ∙ sym rows;
          values = values_by_one p s (spread_values p s slots values) (spread_values p s slots' values') (λ j h. same_values j) held.values;
        }
