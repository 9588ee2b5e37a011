-- Where the basic columns are a basis, the key columns join the root with all nodes: else the nodes that are not joined
-- have duals for the cost 0 that are not 0.
use Rattle.std.proofs.Common.{◌≡◌, ◌≢◌, ℕ, zero, suc, ◌+◌, ◌-◌, ◌<◌, ◌≤◌, ◌⊎◌, inl, inr, Bool, true, false, cond, ltb, lt-ltb, length, Option, Some, None, List, [], ◌∷◌, refl, sym, ap, ap₂, ◌∙◌, subst, arith}
use Rattle.nf_num.specs.Rational.{ℚ, zero_ℚ, one_ℚ, ◌+ℚ◌, ◌*ℚ◌, neg_ℚ, ◌<ℚ◌}
use Rattle.nf_num.specs.Sum.{sum_ℚ, delta}
use Rattle.nf_model.specs.Program.{LinearProgram, Ends, column}
use Rattle.nf_model.specs.Problem.{IsProblem, HaveEndsBelow, node_entry}
use Rattle.nf_prob.specs.Numbers.{tail_number, head_number}
use Rattle.nf_simplex.specs.Layout.{layout_of}
use Rattle.nf_simplex.specs.Place.{Basic}
use Rattle.nf_simplex.specs.Numbers.{AreDuals, reduced}
use Rattle.nf_simplex.specs.Columns.{Col, Given, Slack, Artificial, all_columns, number_of, col_at, entry_of, sign, slack_sign}
use Rattle.nf_simplex.specs.StageOf.{StageNumber, StageOne, StageTwo}
use Rattle.nf_simplex.specs.Standing.{Standing, place_at, is_negative, stage_of, rows_of, IsBasisOf}
use Rattle.nf_simplex.proofs.FieldLaws.{add-neg, less_irrefl, one-positive}
use Rattle.nf_simplex.proofs.Terms.{v, nought, ◌:*◌, ◌:-◌, ring, mul-zero, zero-mul, ◌:+◌}
use Rattle.nf_simplex.proofs.Sum.{sum_ext, sum_zero, sum_add, sum_neg, sum_unit, unit_other, zero_difference}
use Rattle.nf_simplex.proofs.Basis.{duals_unique}
use Rattle.nf_simplex.proofs.Dimension.{inverse_of_basis}
use Rattle.nf_simplex.proofs.StageOf.{by_columns}
use Rattle.nf_simplex.proofs.Numbered.{number_col}
use Rattle.nf_view.specs.declared.links.Link.{Link}
use Rattle.nf_view.specs.Keys.{AreJoined, basic_arcs, basic_roots, both_ways, key_links, kept_from, basic_links}
use Rattle.nf_view.proofs.Agreeing.{agree, all_agree, front, back, arcs_agree, roots_agree}

equal_or_not : (a b : ℕ) → (a ≡ b) ⊎ (a ≢ b)
equal_or_not a b = grind arith

less_or_not : (a b : ℕ) → (a < b) ⊎ (b ≤ a)
less_or_not a b = grind arith

one-not-zero : one_ℚ ≢ zero_ℚ
one-not-zero e = less_irrefl zero_ℚ (subst (λ x. zero_ℚ <ℚ x) e one-positive)

plus-zero : (a : ℚ) → a +ℚ zero_ℚ ≡ a
plus-zero a = ring (a ∷ []) (v 0 :+ nought) (v 0) refl

sum_longer : (n m : ℕ) (f : ℕ → ℚ) → ((i : ℕ) → n ≤ i → f i ≡ zero_ℚ) → sum_ℚ (n + m) f ≡ sum_ℚ n f
unfolding sum_ℚ
sum_longer n zero f z = ap (λ k. sum_ℚ k f) (let e : n + 0 ≡ n = omega arith in e)
sum_longer n (suc m) f z =
    ap (λ k. sum_ℚ k f) (let e : n + suc m ≡ suc (n + m) = omega arith in e)
    ∙ (ap₂ (λ x y. x +ℚ y) (sum_longer n m f z) (z (n + m) (omega arith)) ∙ plus-zero _)

module _ (p : LinearProgram) (s : Standing) (ok : IsProblem p) (inside : ℕ → Bool) (root : inside 0 ≡ true)
    (arcs : (j : ℕ) → j < p.arcs → place_at s j ≡ Basic → inside (tail_number (column p j).ends) ≡ inside (head_number (column p j).ends))
    (roots : (i : ℕ) → i < p.nodes → place_at s (number_of (layout_of p) (Artificial i)) ≡ Basic → inside 0 ≡ inside (suc i)) where
  -- 0 inside, and 1 outside
  level : ℕ → ℚ
  level t = cond (inside t) zero_ℚ one_ℚ

  -- The same for the nodes, and 0 for the side rows.
  dual : ℕ → ℚ
  dual i = cond (ltb i p.nodes) (level (suc i)) zero_ℚ

  at_node : (i : ℕ) → i < p.nodes → dual i ≡ level (suc i)
  unfolding dual
  at_node i h = ap (λ b. cond b (level (suc i)) zero_ℚ) (lt-ltb i p.nodes h)

  at_side : (i : ℕ) → p.nodes ≤ i → dual i ≡ zero_ℚ
  unfolding dual
  at_side i h = ap (λ b. cond b (level (suc i)) zero_ℚ) (off i h)
    where
      off : (i : ℕ) → p.nodes ≤ i → ltb i p.nodes ≡ false
      off i h = search arith

  entry : Col → ℕ → ℚ
  entry c i = entry_of (layout_of p) (is_negative s) c i

  -- The duals taken through the node rows of a basic column.
  Flat : Col → Type 0
  Flat c = place_at s (number_of (layout_of p) c) ≡ Basic → sum_ℚ p.nodes (λ i. dual i *ℚ entry c i) ≡ zero_ℚ

  by_ends : (e : Option Ends) → HaveEndsBelow p.nodes e → inside (tail_number e) ≡ inside (head_number e) → sum_ℚ p.nodes (λ i. dual i *ℚ node_entry e i) ≡ zero_ℚ
  unfolding level
  by_ends None h q = sum_zero p.nodes (λ i. dual i *ℚ zero_ℚ) (λ i l. mul-zero _)
  by_ends (Some e) h q =
      sum_ext p.nodes (λ i. dual i *ℚ node_entry (Some e) i) (λ i. delta e.tail i *ℚ dual i +ℚ neg_ℚ (delta e.head i *ℚ dual i))
      (λ i l. ring (dual i ∷ delta e.tail i ∷ delta e.head i ∷ []) (v 0 :* (v 1 :- v 2)) (v 1 :* v 0 :- v 2 :* v 0) refl)
      ∙ (sum_add p.nodes (λ i. delta e.tail i *ℚ dual i) (λ i. neg_ℚ (delta e.head i *ℚ dual i))
      ∙ (ap₂ (λ x y. x +ℚ y) (sum_unit p.nodes dual e.tail h.0 ∙ at_node e.tail h.0)
      (sum_neg p.nodes (λ i. delta e.head i *ℚ dual i) ∙ ap neg_ℚ (sum_unit p.nodes dual e.head h.1 ∙ at_node e.head h.1))
      ∙ (ap (λ b. cond b zero_ℚ one_ℚ +ℚ neg_ℚ (level (suc e.head))) q ∙ add-neg _)))

  given : (j : ℕ) → j < length p.columns → Flat (Given j)
  unfolding Flat entry
  given j h b =
      sum_ext p.nodes (λ i. dual i *ℚ entry (Given j) i) (λ i. dual i *ℚ node_entry (column p j).ends i) (λ i l. ap (λ x. dual i *ℚ x) ((ok.each j _ h).at_nodes i l))
      ∙ by_ends (column p j).ends (ok.each j _ h).ends_within (ends (less_or_not j p.arcs))
    where
      ends : (j < p.arcs) ⊎ (p.arcs ≤ j) → inside (tail_number (column p j).ends) ≡ inside (head_number (column p j).ends)
      ends (inl l) = arcs j l b
      ends (inr l) = ap (λ e. inside (tail_number e)) (ok.others_last j l) ∙ sym (ap (λ e. inside (head_number e)) (ok.others_last j l))

  slack : (q : ℕ) → Flat (Slack (p.nodes + q))
  unfolding Flat entry
  slack q b = sum_zero p.nodes (λ i. dual i *ℚ entry (Slack (p.nodes + q)) i) (λ i l. ap (λ x. dual i *ℚ (slack_sign ((layout_of p).kind (p.nodes + q)) *ℚ x)) (unit_other (p.nodes + q) i (λ e. absurd (omega arith))) ∙ (ap (λ x. dual i *ℚ x) (mul-zero _) ∙ mul-zero _))

  artificial : (r : ℕ) → Flat (Artificial r)
  unfolding Flat entry level
  artificial r b = sum_zero p.nodes (λ i. dual i *ℚ entry (Artificial r) i) (λ i l. of i l (equal_or_not r i))
    where
      of : (i : ℕ) → i < p.nodes → (r ≡ i) ⊎ (r ≢ i) → dual i *ℚ (sign (is_negative s r) *ℚ delta r i) ≡ zero_ℚ
      of i l (inr ne) = ap (λ x. dual i *ℚ (sign (is_negative s r) *ℚ x)) (unit_other r i ne) ∙ (ap (λ x. dual i *ℚ x) (mul-zero _) ∙ mul-zero _)
      of i l (inl e) =
          ap (λ x. x *ℚ (sign (is_negative s r) *ℚ delta r i))
          (at_node i l ∙ ap (λ x. cond x zero_ℚ one_ℚ) (sym (roots i l (ap (λ k. place_at s (number_of (layout_of p) (Artificial k))) (sym e) ∙ b)) ∙ root))
          ∙ zero-mul _

  flat : (j : ℕ) → j < all_columns (layout_of p) → Flat (col_at (layout_of p) j)
  flat = by_columns (layout_of p) Flat given (λ q h. slack q) (λ i h. artificial i)

  whole : (stage : StageNumber) → s.stage ≡ stage → (j : ℕ) → j < all_columns (layout_of p) → place_at s j ≡ Basic → sum_ℚ (rows_of p s) (λ i. dual i *ℚ entry (col_at (layout_of p) j) i) ≡ zero_ℚ
  unfolding Flat
  whole StageOne e j h b =
      subst (λ n. sum_ℚ (rows_of p (record s { stage = n })) (λ i. dual i *ℚ entry (col_at (layout_of p) j) i) ≡ zero_ℚ) (sym e)
      (flat j h (ap (place_at s) (number_col (layout_of p) j h) ∙ b))
  whole StageTwo e j h b =
      subst (λ n. sum_ℚ (rows_of p (record s { stage = n })) (λ i. dual i *ℚ entry (col_at (layout_of p) j) i) ≡ zero_ℚ) (sym e)
      (sum_longer p.nodes (length p.rows - p.nodes) (λ i. dual i *ℚ entry (col_at (layout_of p) j) i) (λ i l. ap (λ x. x *ℚ entry (col_at (layout_of p) j) i) (at_side i l) ∙ zero-mul _)
      ∙ flat j h (ap (place_at s) (number_col (layout_of p) j h) ∙ b))

  node_in_stage : (stage : StageNumber) → s.stage ≡ stage → (i : ℕ) → i < p.nodes → i < rows_of p s
  node_in_stage StageOne e i h = subst (λ n. i < rows_of p (record s { stage = n })) (sym e) h
  node_in_stage StageTwo e i h = subst (λ n. i < rows_of p (record s { stage = n })) (sym e) (let a : i < p.nodes + (length p.rows - p.nodes) = omega arith in a)

  pub all_inside : IsBasisOf p s → (t : ℕ) → t ≤ p.nodes → inside t ≡ true
  unfolding reduced entry level
  all_inside basis zero h = root
  all_inside basis (suc i) h = of (inside (suc i)) refl
    where
      are : AreDuals (stage_of p s) (place_at s) (λ j. zero_ℚ) dual
      are j l q = zero_difference zero_ℚ _ (sym (whole s.stage refl j l q))

      zeros : AreDuals (stage_of p s) (place_at s) (λ j. zero_ℚ) (λ i. zero_ℚ)
      zeros j l q = zero_difference zero_ℚ _ (sym (sum_zero (rows_of p s) (λ i. zero_ℚ *ℚ entry_of (layout_of p) (is_negative s) (col_at (layout_of p) j) i) (λ i m. zero-mul _)))

      gone : dual i ≡ zero_ℚ
      gone = duals_unique (stage_of p s) (place_at s) (inverse_of_basis (stage_of p s) (place_at s) basis).0 (inverse_of_basis (stage_of p s) (place_at s) basis).1 (λ j. zero_ℚ) dual (λ i. zero_ℚ) are zeros i (node_in_stage s.stage refl i (omega arith))

      of : (b : Bool) → inside (suc i) ≡ b → inside (suc i) ≡ true
      of true e = e
      of false e = absurd (one-not-zero (sym (ap (λ x. cond x zero_ℚ one_ℚ) e) ∙ (sym (at_node i (omega arith)) ∙ gone)))

pub keys_join : (p : LinearProgram) (s : Standing) → IsProblem p → IsBasisOf p s → AreJoined p.nodes (key_links p s)
keys_join p s ok basis inside root closed =
    let kept = agree inside (kept_from (λ v. v) (basic_links p s)) closed in
    let all = all_agree inside (λ v. v) (λ v w e. ap inside e) (basic_links p s) kept in
    all_inside p s ok inside root
    (arcs_agree inside p s p.arcs (front inside (basic_arcs p s p.arcs) (basic_roots p s p.nodes) all))
    (roots_agree inside p s p.nodes (back inside (basic_arcs p s p.arcs) (basic_roots p s p.nodes) all))
    basis

-- The same of a list of links that is said to be theirs.
pub keys_as : (p : LinearProgram) (s : Standing) (links keys : List Link) → links ≡ basic_links p s → keys ≡ both_ways (kept_from (λ v. v) links) → keys ≡ key_links p s
keys_as p s links keys l k = k ∙ ap (λ es. both_ways (kept_from (λ v. v) es)) l

pub joined_as : (p : LinearProgram) (s : Standing) → IsProblem p → IsBasisOf p s → (links keys : List Link) → links ≡ basic_links p s → keys ≡ both_ways (kept_from (λ v. v) links) → AreJoined p.nodes keys
joined_as p s ok basis links keys l k = subst (AreJoined p.nodes) (sym (keys_as p s links keys l k)) (keys_join p s ok basis)
