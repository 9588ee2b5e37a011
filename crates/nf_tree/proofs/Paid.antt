-- The reduced cost of a column of stage one by the duals of its ends, and where its operations arise.
use Rattle.std.proofs.Common.{◌≡◌, ◌≢◌, ℕ, zero, suc, ◌<◌, ◌≤◌, true, false, List, [], ◌∷◌, length, refl, sym, ap, ap₂, ◌∙◌, arith}
use Rattle.nf_num.specs.Rational.{ℚ, zero_ℚ, one_ℚ, ◌+ℚ◌, ◌-ℚ◌, ◌*ℚ◌, neg_ℚ}
use Rattle.nf_num.specs.Sum.{sum_ℚ, delta}
use Rattle.nf_frac.specs.declared.passed.Passed.{Passed}
use Rattle.nf_frac.specs.declared.passed.Op.TheVariants.{Add, Sub}
use Rattle.nf_frac.specs.Range.{Passes}
use Rattle.nf_model.specs.Program.{LinearProgram, at}
use Rattle.nf_model.specs.Problem.{IsProblem}
use Rattle.nf_sums.specs.Terms.{AreSums, Is, PassesIn, Terms, value_of}
use Rattle.nf_sums.specs.Rows.{reduced_cost_terms, remainder_terms}
use Rattle.nf_sums.proofs.Part.{IsPartOf, IsTermOf, same_term}
use Rattle.nf_sums.proofs.Laws.{in_part, known, next_sums, passes_from, remainder_is, remainder_passed}
use Rattle.nf_sums.proofs.Chosen.{sum_nothing}
use Rattle.nf_simplex.specs.Layout.{layout_of}
use Rattle.nf_simplex.specs.StageOf.{StageOne}
use Rattle.nf_simplex.specs.Standing.{Standing, stage_of}
use Rattle.nf_simplex.proofs.Numbered.{number_within}
use Rattle.nf_simplex.proofs.Sum.{unit_same, unit_other}
use Rattle.nf_simplex.proofs.Terms.{v, nought, unit, minus, ◌:+◌, ◌:*◌, ◌:-◌, ring, zero-add}
use Rattle.nf_basis.specs.declared.col.Col.{Col}
use Rattle.nf_basis.specs.Duals.{PriceTerms, less_paid}
use Rattle.nf_basis.specs.Kept.{IsPresent, number}
use Rattle.nf_basis.specs.Names.{col_of}
use Rattle.nf_tree.specs.Duals.{dual_of}
use Rattle.nf_tree.specs.Network.{IsNetwork}
use Rattle.nf_tree.specs.Vertices.{head_at, tail_at}
use Rattle.nf_tree.proofs.RootedTrees.{through_column}
use Rattle.nf_tree.proofs.Vertices.{is_network}

sum_first : (f : ℕ → ℚ) → sum_ℚ 1 f ≡ f 0
unfolding sum_ℚ
sum_first f = zero-add (f 0)

sum_two : (f : ℕ → ℚ) → sum_ℚ 2 f ≡ f 0 +ℚ f 1
unfolding sum_ℚ
sum_two f = ap (λ x. x +ℚ f 1) (zero-add (f 0))

sum_none : (f : ℕ → ℚ) → zero_ℚ ≡ sum_ℚ 0 f
unfolding sum_ℚ
sum_none f = refl

-- All terms of a row, and none.
all_and_none : (row : Terms) (x : ℚ) → x ≡ sum_ℚ row.count (λ k. value_of (row.term k)) → AreSums row x zero_ℚ
all_and_none row x e = record {
  some = λ _. true;
  others = λ _. false;
  apart = λ k a b. absurd (let z : false ≡ true = b in cc);
  turned = false;
  left_is = e;
  right_is = sym (sum_nothing row.count (λ k. value_of (row.term k)));
}

-- The cost stands first, and then the rows.
abbrev place : (ℕ → ℕ) → ℕ → ℕ
place row zero = 0
place row (suc k) = suc (row k)

-- Two rows.
abbrev both : ℕ → ℕ → ℕ → ℕ
both i k zero = i
both i k (suc q) = k

module _ (cost : ℚ) (y : List ℚ) (a : ℕ → ℚ) where
  -- The cost and the products at some rows are a part of the row.
  part : (count : ℕ) (row : ℕ → ℕ) → ((k : ℕ) → k < count → row k < length y) → ((j k : ℕ) → j < count → k < count → row j ≡ row k → j ≡ k) → IsPartOf (remainder_terms cost count (λ k. at y (row k)) (λ k. a (row k))) (reduced_cost_terms cost (length y) (at y) a)
  part count row inside distinct = record { place = place row; within = within; apart = apart; turned = false; term = term }
    where
      within : (k : ℕ) → k < suc count → place row k < suc (length y)
      within zero b = omega arith
      within (suc k) b = let c = inside k (omega arith) in omega arith

      apart : (j k : ℕ) → j < suc count → k < suc count → place row j ≡ place row k → j ≡ k
      apart zero zero b c e = refl
      apart zero (suc k) b c e = absurd (omega arith)
      apart (suc j) zero b c e = absurd (omega arith)
      apart (suc j) (suc k) b c e = ap suc (distinct j k (omega arith) (omega arith) (omega arith))

      term : (k : ℕ) → k < suc count → IsTermOf false ((reduced_cost_terms cost (length y) (at y) a).term (place row k)) ((remainder_terms cost count (λ k. at y (row k)) (λ k. a (row k))).term k)
      term zero b = same_term _ _ refl
      term (suc k) b = same_term _ _ refl

  carries : (count : ℕ) (row : ℕ → ℕ) → ((k : ℕ) → k < count → row k < length y) → ((j k : ℕ) → j < count → k < count → row j ≡ row k → j ≡ k) → (c : Passed) → PassesIn (Is (remainder_terms cost count (λ k. at y (row k)) (λ k. a (row k)))) c → PassesIn (PriceTerms cost y a) c
  carries count row inside distinct c h = in_part (remainder_terms cost count (λ k. at y (row k)) (λ k. a (row k))) (reduced_cost_terms cost (length y) (at y) a) (PriceTerms cost y a) c (part count row inside distinct) refl h

  one_row : (i : ℕ) → i < length y → (c : Passed) → PassesIn (Is (remainder_terms cost 1 (λ _. at y i) (λ _. a i))) c → PassesIn (PriceTerms cost y a) c
  one_row i h c = carries 1 (λ _. i) (λ k b. h) (λ j k b e q. omega arith) c

  -- The cost less the dual of the tail,
  pub tail_passed : (t : ℕ) → t ≤ length y → ((i : ℕ) → t ≡ suc i → a i ≡ one_ℚ) → (c : Passed) → c ≡ record { op = Sub; left = cost; right = dual_of y t } → Passes Sub cost (dual_of y t) → PassesIn (PriceTerms cost y a) c
  tail_passed zero h own c is passes =
      carries 0 (λ k. k) (λ k b. absurd (omega arith)) (λ j k b e q. absurd (omega arith)) c
      (remainder_passed cost 0 (λ k. at y k) (λ k. a k) cost zero_ℚ c refl (sum_none _) is (passes_from Sub cost zero_ℚ c is passes))
  tail_passed (suc i) h own c is passes =
      one_row i (omega arith) c
      (remainder_passed cost 1 (λ _. at y i) (λ _. a i) cost (at y i) c refl (ring (at y i ∷ []) (v 0) (v 0 :* unit) refl ∙ (ap (λ z. at y i *ℚ z) (sym (own i refl)) ∙ sym (sum_first _))) is (passes_from Sub cost (at y i) c is passes))

  -- and then the dual of the head.
  pub head_passed : (t h : ℕ) → t ≤ length y → h ≤ length y → t ≢ h → ((i : ℕ) → t ≡ suc i → a i ≡ one_ℚ) → ((i : ℕ) → h ≡ suc i → a i ≡ neg_ℚ one_ℚ)
      → (c : Passed) → c ≡ record { op = Add; left = cost -ℚ dual_of y t; right = dual_of y h } → Passes Add (cost -ℚ dual_of y t) (dual_of y h) → PassesIn (PriceTerms cost y a) c
  head_passed zero zero lt lh ne own other c is passes = absurd (ne refl)
  head_passed (suc i) zero lt lh ne own other c is passes =
      let row = remainder_terms cost 1 (λ _. at y i) (λ _. a i) in
      one_row i (omega arith) c
      (known (Is row) Add (cost -ℚ at y i) zero_ℚ c is (passes_from Add (cost -ℚ at y i) zero_ℚ c is passes) row refl
      (all_and_none row (cost -ℚ at y i) (ap (λ z. cost -ℚ z) (ring (at y i ∷ []) (v 0) (v 0 :* unit) refl ∙ (ap (λ z. at y i *ℚ z) (sym (own i refl)) ∙ sym (sum_first _))) ∙ sym (remainder_is cost 1 (λ _. at y i) (λ _. a i)))))
  head_passed zero (suc k) lt lh ne own other c is passes =
      let row = remainder_terms cost 1 (λ _. at y k) (λ _. a k) in
      one_row k (omega arith) c
      (known (Is row) Add (cost -ℚ zero_ℚ) (at y k) c is (passes_from Add (cost -ℚ zero_ℚ) (at y k) c is passes) row refl
      (next_sums row 1 false (cost -ℚ zero_ℚ) (at y k) (omega arith) (ring (cost ∷ []) (v 0 :- nought) (v 0) refl ∙ sym (sum_first _)) (ring (at y k ∷ []) (v 0) (minus (v 0) :* minus unit) refl ∙ ap (λ z. neg_ℚ (at y k) *ℚ z) (sym (other k refl)))))
  head_passed (suc i) (suc k) lt lh ne own other c is passes =
      let row = remainder_terms cost 2 (λ q. at y (both i k q)) (λ q. a (both i k q)) in
      carries 2 (both i k) inside distinct c
      (known (Is row) Add (cost -ℚ at y i) (at y k) c is (passes_from Add (cost -ℚ at y i) (at y k) c is passes) row refl
      (next_sums row 2 false (cost -ℚ at y i) (at y k) (omega arith) (ring (cost ∷ at y i ∷ []) (v 0 :- v 1) (v 0 :+ minus (v 1) :* unit) refl ∙ (ap (λ z. cost +ℚ neg_ℚ (at y i) *ℚ z) (sym (own i refl)) ∙ sym (sum_two _))) (ring (at y k ∷ []) (v 0) (minus (v 0) :* minus unit) refl ∙ ap (λ z. neg_ℚ (at y k) *ℚ z) (sym (other k refl)))))
    where
      inside : (q : ℕ) → q < 2 → both i k q < length y
      inside zero b = omega arith
      inside (suc q) b = omega arith

      distinct : (j q : ℕ) → j < 2 → q < 2 → both i k j ≡ both i k q → j ≡ q
      distinct zero zero b e w = refl
      distinct zero (suc q) b e w = absurd (ne (ap suc w))
      distinct (suc j) zero b e w = absurd (ne (ap suc (sym w)))
      distinct (suc j) (suc q) b e w = omega arith

-- ---- columns of stage one
module _ (p : LinearProgram) (s : Standing) (ok : IsProblem p) (one : s.stage ≡ StageOne) (col : Col) (here : IsPresent p s col) (y : List ℚ) (len : length y ≡ p.nodes) (cost : ℚ) where
  abbrev j : ℕ
  j = number p col

  abbrev t : ℕ
  t = tail_at p s j

  abbrev h : ℕ
  h = head_at p s j

  net : IsNetwork (stage_of p s) p.nodes (tail_at p s) (head_at p s)
  net = is_network p s ok one

  j_within : j < (stage_of p s).columns
  j_within = number_within (layout_of p) s.stage (col_of col) ok.arcs_within here.1

  paid : sum_ℚ (length y) (λ i. at y i *ℚ (stage_of p s).entry j i) ≡ dual_of y t +ℚ neg_ℚ (dual_of y h)
  paid = ap (λ n. sum_ℚ n (λ i. at y i *ℚ (stage_of p s).entry j i)) len ∙ through_column (stage_of p s) p.nodes (tail_at p s) (head_at p s) net (dual_of y) refl j j_within

  pub by_ends : (cost -ℚ dual_of y t) +ℚ dual_of y h ≡ less_paid cost y ((stage_of p s).entry j)
  by_ends = ring (cost ∷ dual_of y t ∷ dual_of y h ∷ []) ((v 0 :- v 1) :+ v 2) (v 0 :- (v 1 :- v 2)) refl ∙ ap (λ z. cost -ℚ z) (sym paid)

  pub by_loop : t ≡ h → cost ≡ less_paid cost y ((stage_of p s).entry j)
  by_loop e = ring (cost ∷ dual_of y h ∷ []) (v 0) (v 0 :- (v 1 :- v 1)) refl ∙ ap (λ z. cost -ℚ z) (sym (paid ∙ ap (λ u. dual_of y u +ℚ neg_ℚ (dual_of y h)) e))

  tail_entry : t ≢ h → (i : ℕ) → t ≡ suc i → (stage_of p s).entry j i ≡ one_ℚ
  tail_entry ne i e =
      net.node_entry j i j_within (let w = net.tail_within j j_within in omega arith)
      ∙ (ap (λ u. delta t u +ℚ neg_ℚ (delta h u)) (sym e)
      ∙ (ap₂ (λ b c. b +ℚ neg_ℚ c) (unit_same t) (unit_other h t (λ e. ne (sym e))) ∙ ring [] (unit :- nought) unit refl))

  head_entry : t ≢ h → (i : ℕ) → h ≡ suc i → (stage_of p s).entry j i ≡ neg_ℚ one_ℚ
  head_entry ne i e =
      net.node_entry j i j_within (let w = net.head_within j j_within in omega arith)
      ∙ (ap (λ u. delta t u +ℚ neg_ℚ (delta h u)) (sym e)
      ∙ (ap₂ (λ b c. b +ℚ neg_ℚ c) (unit_other t h ne) (unit_same h) ∙ ring [] (nought :- unit) (minus unit) refl))

  in_list : (u : ℕ) → u ≤ p.nodes → u ≤ length y
  in_list u l = omega arith

  pub tail_arises : t ≢ h → (c : Passed) → c ≡ record { op = Sub; left = cost; right = dual_of y t } → Passes Sub cost (dual_of y t) → PassesIn (PriceTerms cost y ((stage_of p s).entry j)) c
  tail_arises ne c = tail_passed cost y ((stage_of p s).entry j) t (in_list t (net.tail_within j j_within)) (tail_entry ne) c

  pub head_arises : t ≢ h → (c : Passed) → c ≡ record { op = Add; left = cost -ℚ dual_of y t; right = dual_of y h } → Passes Add (cost -ℚ dual_of y t) (dual_of y h) → PassesIn (PriceTerms cost y ((stage_of p s).entry j)) c
  head_arises ne c = head_passed cost y ((stage_of p s).entry j) t h (in_list t (net.tail_within j j_within)) (in_list h (net.head_within j j_within)) ne (tail_entry ne) (head_entry ne) c
