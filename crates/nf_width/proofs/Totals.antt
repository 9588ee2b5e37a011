-- Rows of a basis of stage one over whole rows and columns of the problem: rests where the columns stand at bounds or
-- values, side rows by a ray, and the gap. No operation that arises in one of them passes.
use Rattle.std.proofs.Common.{◌≡◌, ℕ, zero, suc, ◌+◌, ◌*◌, ◌-◌, ◌<◌, ◌≤◌, ◌^◌, ◌⊎◌, inl, inr, length, sym, subst, arith}
use Rattle.nf_num.specs.Rational.{ℚ, zero_ℚ, ◌*ℚ◌, neg_ℚ}
use Rattle.nf_num.specs.Sum.{sum_ℚ}
use Rattle.nf_model.specs.Program.{LinearProgram, row, coefficient}
use Rattle.nf_model.specs.Problem.{IsProblem}
use Rattle.nf_sums.specs.Terms.{Term, value_of}
use Rattle.nf_sums.specs.Terms.Term.{Product}
use Rattle.nf_sums.specs.Rows.{total_terms, gap_terms}
use Rattle.nf_simplex.specs.StageOf.{StageOne}
use Rattle.nf_simplex.specs.Standing.{Standing, PhaseOne, rows_of, IsBasisOf, AreDualsOf}
use Rattle.nf_simplex.proofs.Orders.{less_or_not, yes_less, not_less}
use Rattle.nf_basis.specs.Arising.{rest_row, AreStanding, IsBoundAt, IsRay}
use Rattle.nf_tree.proofs.Slotted.{rows_are}
use Rattle.nf_width.specs.Amounts.{IsWhole, IsAmount, HasAmounts}
use Rattle.nf_width.specs.Fits.{RowFits}
use Rattle.nf_width.proofs.Whole.{whole_more, whole_mul, whole_neg}
use Rattle.nf_width.proofs.Bounds.{whole_sum}
use Rattle.nf_width.proofs.Entries.{coefficient_amount}
use Rattle.nf_width.proofs.Rows.{FactorsFit, number_factors, product_factors, row_fits}
use Rattle.nf_width.proofs.States.{none_of, bound_amount}
use Rattle.nf_width.proofs.Rests.{given_within, coefficient_whole, right_whole, standing_whole, ray_whole, ray_node_fits}
use Rattle.nf_width.proofs.Printed.{finer, dual_one_whole}

module _ (p : LinearProgram) (s : Standing) (ok : IsProblem p) (has : HasAmounts p) (one : s.stage ≡ StageOne) (basis : IsBasisOf p s) where
  -- ---- rests
  -- The rest of a row whose coefficients are at most a d-ths, where each given column has at most m thousandths.
  rest_row_by : (d a m n : ℕ) (i : ℕ) (x : ℕ → ℚ) → 0 < d → d * 1000 < 2 ^ 127 → a * m ≤ n → suc (length p.columns) * n + suc (length p.columns) * n < 2 ^ 127
      → IsWhole (d * 1000) n (row p i).right → ((j : ℕ) → j < length p.columns → IsWhole d a (coefficient p i j)) → ((j : ℕ) → j < length p.columns → IsWhole 1000 m (x j)) → RowFits (rest_row p x i)
  rest_row_by d a m n i x some small over few right cs xs = row_fits (d * 1000) n (rest_row p x i) (omega arith) small few whole factors
    where
      turned : (k : ℕ) → k < length p.columns → IsWhole d a (neg_ℚ (coefficient p i k))
      turned k l = whole_neg d a (coefficient p i k) (cs k l)

      whole : (k : ℕ) → k < suc (length p.columns) → IsWhole (d * 1000) n (value_of ((rest_row p x i).term k))
      whole zero l = right
      whole (suc k) l = whole_more (d * 1000) (a * m) n _ over (whole_mul d 1000 a m (neg_ℚ (coefficient p i k)) (x k) (turned k (omega arith)) (xs k (omega arith)))

      within : n + n ≤ suc (length p.columns) * n + suc (length p.columns) * n
      within = omega arith

      factors : (k : ℕ) → k < suc (length p.columns) → FactorsFit ((rest_row p x i).term k)
      factors zero l = number_factors (row p i).right
      factors (suc k) l =
          product_factors d 1000 a m (neg_ℚ (coefficient p i k)) (x k) some (omega arith) (turned k (omega arith)) (xs k (omega arith)) (let e = within in omega arith) small

  pub standing_rest_fits : (i : ℕ) (x : ℕ → ℚ) → i < length p.rows → AreStanding p s x → RowFits (rest_row p x i)
  standing_rest_fits i x h are = of (less_or_not i p.nodes)
    where
      xs : (j : ℕ) → j < length p.columns → IsWhole 1000 (35 * 10 ^ 16) (x j)
      xs j l = standing_whole p s ok has one basis j (x j) l (are j l)

      of : (i < p.nodes) ⊎ (p.nodes ≤ i) → RowFits (rest_row p x i)
      of (inl l) =
          rest_row_by 1 2 (35 * 10 ^ 16) (10 ^ 18) i x (omega arith) (omega arith) (omega arith) (let f = has.few_given in omega arith)
          (whole_more 1000 (10 ^ 17) (10 ^ 18) (row p i).right (omega arith) (right_whole p s ok has one basis i l)) (λ j k. coefficient_whole p s ok has one basis i j l k) xs
      of (inr l) =
          rest_row_by 1000 (10 ^ 12) (35 * 10 ^ 16) (35 * 10 ^ 28) i x (omega arith) (omega arith) (omega arith) (let f = has.few_given in omega arith)
          (whole_more (1000 * 1000) (10 ^ 12 * 1000) (35 * 10 ^ 28) (row p i).right (omega arith) (finer 1000 (10 ^ 12) 1000 (row p i).right (has.side_rights i l h))) (λ j k. coefficient_amount p ok has i j k) xs

  -- ---- a ray in a row
  pub ray_row_fits : (i : ℕ) (r : ℕ → ℚ) → i < length p.rows → IsRay p s r → RowFits (total_terms (length p.columns) (coefficient p i) r)
  ray_row_fits i r h a = of (less_or_not i p.nodes)
    where
      of : (i < p.nodes) ⊎ (p.nodes ≤ i) → RowFits (total_terms (length p.columns) (coefficient p i) r)
      of (inl l) = ray_node_fits p s ok has one basis i r a l
      of (inr l) =
          row_fits (1000 * 1) (10 ^ 12 * 2) (total_terms (length p.columns) (coefficient p i) r) (omega arith) (omega arith) (let f = has.few_given in omega arith)
          (λ j k. whole_mul 1000 1 (10 ^ 12) 2 (coefficient p i j) (r j) (coefficient_amount p ok has i j k) (ray_whole p s ok has one basis r a j (given_within p s ok has one basis j k)))
          (λ j k. product_factors 1000 1 (10 ^ 12) 2 (coefficient p i j) (r j) (omega arith) (omega arith) (coefficient_amount p ok has i j k) (ray_whole p s ok has one basis r a j (given_within p s ok has one basis j k)) (omega arith) (omega arith))

  -- ---- the gap
  module _ (y bound : ℕ → ℚ) (duals : AreDualsOf p s PhaseOne y) (bounds : (j : ℕ) → j < length p.columns → IsBoundAt p s j (bound j) ⊎ (bound j ≡ zero_ℚ)) where
    abbrev combined : ℕ → ℚ
    combined j = sum_ℚ (rows_of p s) (λ i. y i *ℚ coefficient p i j)

    combined_whole : (j : ℕ) → j < length p.columns → IsWhole 1 (2 * 10 ^ 10) (neg_ℚ (combined j))
    combined_whole j h =
        whole_neg 1 (2 * 10 ^ 10) (combined j)
        (whole_more 1 (rows_of p s * (250000 * 2)) (2 * 10 ^ 10) (combined j) (let f = has.few_nodes in let e = rows_are p s one in omega arith)
        (whole_sum 1 (250000 * 2) (rows_of p s) (λ i. y i *ℚ coefficient p i j)
        (λ i l. whole_mul 1 1 250000 2 (y i) (coefficient p i j) (dual_one_whole p s ok has one basis y duals i l) (coefficient_whole p s ok has one basis i j (subst (λ n. i < n) (rows_are p s one) l) h))))

    bound_whole : (j : ℕ) → j < length p.columns → IsAmount (bound j)
    bound_whole j h = of (bounds j h)
      where
        of : IsBoundAt p s j (bound j) ⊎ (bound j ≡ zero_ℚ) → IsAmount (bound j)
        of (inl b) = bound_amount p s ok has one basis j (given_within p s ok has one basis j h) (bound j) b
        of (inr e) = subst IsAmount (sym e) (none_of 1000 (10 ^ 12))

    node_right : (i : ℕ) → i < rows_of p s → IsWhole 1000 (10 ^ 17) (row p i).right
    node_right i l = right_whole p s ok has one basis i (subst (λ n. i < n) (rows_are p s one) l)

    -- What holds of each product over the rows and of each over the columns holds of each term.
    each_term : (P : Term → Type 0) → ((i : ℕ) → i < rows_of p s → P (Product (y i) (row p i).right)) → ((j : ℕ) → j < length p.columns → P (Product (neg_ℚ (combined j)) (bound j)))
        → (k : ℕ) → k < rows_of p s + length p.columns → P ((gap_terms (rows_of p s) y (λ i. (row p i).right) (length p.columns) combined bound).term k)
    each_term P over_rows over_columns k h = of (less_or_not k (rows_of p s))
      where
        of : (k < rows_of p s) ⊎ (rows_of p s ≤ k) → P ((gap_terms (rows_of p s) y (λ i. (row p i).right) (length p.columns) combined bound).term k)
        of (inl l) = subst P (sym (yes_less k (rows_of p s) (Product (y k) (row p k).right) _ l)) (over_rows k l)
        of (inr l) = subst P (sym (not_less k (rows_of p s) _ (Product (neg_ℚ (combined (k - rows_of p s))) (bound (k - rows_of p s))) l)) (over_columns (k - rows_of p s) (omega arith))

    pub gap_fits : RowFits (gap_terms (rows_of p s) y (λ i. (row p i).right) (length p.columns) combined bound)
    gap_fits =
        row_fits (1 * 1000) (25 * 10 ^ 21) (gap_terms (rows_of p s) y (λ i. (row p i).right) (length p.columns) combined bound) (omega arith) (omega arith)
        (let f = has.few_nodes in let g = has.few_given in let e = rows_are p s one in omega arith)
        (each_term (λ t. IsWhole (1 * 1000) (25 * 10 ^ 21) (value_of t))
        (λ i l. whole_mul 1 1000 250000 (10 ^ 17) (y i) (row p i).right (dual_one_whole p s ok has one basis y duals i l) (node_right i l))
        (λ j l. whole_more (1 * 1000) (2 * 10 ^ 10 * 10 ^ 12) (25 * 10 ^ 21) _ (omega arith) (whole_mul 1 1000 (2 * 10 ^ 10) (10 ^ 12) (neg_ℚ (combined j)) (bound j) (combined_whole j l) (bound_whole j l))))
        (each_term FactorsFit
        (λ i l. product_factors 1 1000 250000 (10 ^ 17) (y i) (row p i).right (omega arith) (omega arith) (dual_one_whole p s ok has one basis y duals i l) (node_right i l) (omega arith) (omega arith))
        (λ j l. product_factors 1 1000 (2 * 10 ^ 10) (10 ^ 12) (neg_ℚ (combined j)) (bound j) (omega arith) (omega arith) (combined_whole j l) (bound_whole j l) (omega arith) (omega arith)))
