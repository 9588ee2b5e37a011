-- Lists made from functions of a place, and what a linear program's sums are over them.
use Rattle.std.proofs.Common.{◌≡◌, ℕ, ◌+◌, ◌-◌, ◌≤◌, cond, ltb, length, ap, ap₂, ◌∙◌, arith}
use Rattle.nf_num.specs.Rational.{ℚ, zero_ℚ, ◌+ℚ◌, ◌*ℚ◌}
use Rattle.nf_num.specs.Sum.{sum_ℚ}
use Rattle.nf_num.proofs.Sums.{sum-split}
use Rattle.nf_model.specs.Certificate.{combined}
use Rattle.nf_model.specs.Farkas.{combined_right}
use Rattle.nf_model.specs.Lists.{list_of}
use Rattle.nf_model.specs.Problem.{IsProblem}
use Rattle.nf_model.specs.Program.{LinearProgram, column, row, entry_at, over_columns}
use Rattle.nf_simplex.specs.Layout.{layout_of}
use Rattle.nf_model.proofs.Lists.{at-list_of}
use Rattle.nf_simplex.proofs.FieldLaws.{add-zero}
use Rattle.nf_simplex.proofs.Orders.{yes_less, not_less}
use Rattle.nf_simplex.proofs.Sum.{sum_ext, sum_zero}
use Rattle.nf_simplex.proofs.Terms.{zero-mul}

-- y for the first m places, and 0 behind
abbrev pub padded : ℕ → (ℕ → ℚ) → ℕ → ℚ
padded m y i = cond (ltb i m) (y i) zero_ℚ

pub padded_sum : (m n : ℕ) (y f : ℕ → ℚ) → m ≤ n → sum_ℚ n (λ i. padded m y i *ℚ f i) ≡ sum_ℚ m (λ i. y i *ℚ f i)
padded_sum m n y f h =
    ap (λ k. sum_ℚ k (λ i. padded m y i *ℚ f i)) (let e : n ≡ m + (n - m) = omega arith in e)
    ∙ (sum-split m (n - m) (λ i. padded m y i *ℚ f i)
    ∙ (ap₂ (λ a b. a +ℚ b)
    (sum_ext m _ _ (λ i l. ap (λ z. z *ℚ f i) (yes_less i m (y i) zero_ℚ l)))
    (sum_zero (n - m) _ (λ k l. ap (λ z. z *ℚ f (m + k)) (not_less (m + k) m (y (m + k)) zero_ℚ (omega arith)) ∙ zero-mul (f (m + k))))
    ∙ add-zero _))

module _ (P : LinearProgram) where
  -- a sum over the columns, of a list made from a function
  pub over_list : (w x : ℕ → ℚ) → over_columns P w (list_of (length P.columns) x) ≡ sum_ℚ (length P.columns) (λ j. w j *ℚ x j)
  over_list w x = sum_ext (length P.columns) _ _ (λ j h. ap (λ z. w j *ℚ z) (at-list_of (length P.columns) x j h))

  pub combined_list : (y : ℕ → ℚ) (j : ℕ) → combined P (list_of (length P.rows) y) j ≡ sum_ℚ (length P.rows) (λ i. y i *ℚ entry_at (column P j).entries i)
  combined_list y j = sum_ext (length P.rows) _ _ (λ i h. ap (λ z. z *ℚ entry_at (column P j).entries i) (at-list_of (length P.rows) y i h))

  pub right_list : (y : ℕ → ℚ) → combined_right P (list_of (length P.rows) y) ≡ sum_ℚ (length P.rows) (λ i. y i *ℚ (row P i).right)
  right_list y = sum_ext (length P.rows) _ _ (λ i h. ap (λ z. z *ℚ (row P i).right) (at-list_of (length P.rows) y i h))

  pub rows_are : IsProblem P → (layout_of P).nodes + (layout_of P).sides ≡ length P.rows
  rows_are ok = let h = ok.nodes_within in omega arith
