-- The figures of a state, from those of the same state under another name.
use Rattle.std.proofs.Common.{◌≡◌, ◌∙◌, ℕ, List, length, ap, subst, sym, Result, Ok, Err}
use Rattle.std.specs.Prelude.{IfErr, IsErrAnd}
use Rattle.nf_num.specs.Rational.{ℚ}
use Rattle.nf_model.specs.Program.{LinearProgram, at}
use Rattle.nf_model.proofs.Lists.{length-list_of}
use Rattle.nf_simplex.specs.Standing.{Standing}
use Rattle.nf_simplex.specs.Verdicts.{AreGivenValues}
use Rattle.nf_basis.specs.Arising.{ArePricing}
use Rattle.nf_figures.specs.declared.fault.FigureFault.{FigureFault}
use Rattle.nf_figures.specs.Figures.{AreFlowCosts, AreReducedCosts, AreRowSums, IsFigureFault}

pub given-length : (p : LinearProgram) (s : Standing) (xs : List ℚ) → AreGivenValues p s xs → length xs ≡ length p.columns
given-length p s xs g = ap (λ (l : List ℚ). length l) g.2 ∙ length-list_of (length p.columns) g.0

pub costs-at : (p : LinearProgram) (xs ys costs : List ℚ) → xs ≡ ys → AreFlowCosts p xs costs → AreFlowCosts p ys costs
costs-at p xs ys costs b h = subst (λ l. AreFlowCosts p l costs) b h

-- A fault that is handed on whole.
pub handed_on : {T : Type 0} (r : Result T FigureFault) (e : FigureFault) (P : FigureFault → Type 0) → IsErrAnd r (λ q. q ≡ e) → P e → IfErr r P
handed_on (Ok x) e P is h = tt
handed_on (Err q) e P is h = subst P (sym is) h

module _ (p : LinearProgram) (s t : Standing) (same : s ≡ t) where
  pub given-at : (xs ys : List ℚ) → xs ≡ ys → AreGivenValues p s xs → AreGivenValues p t ys
  given-at xs ys b h = subst (λ u. AreGivenValues p u ys) same (subst (AreGivenValues p s) b h)

  pub reduced-at : (xs ys costs : List ℚ) → xs ≡ ys → AreReducedCosts p s xs costs → AreReducedCosts p t ys costs
  reduced-at xs ys costs b h = subst (λ u. AreReducedCosts p u ys costs) same (subst (λ l. AreReducedCosts p s l costs) b h)

  pub sums-at : (xs ys sums : List ℚ) → xs ≡ ys → AreRowSums p s xs sums → AreRowSums p t ys sums
  sums-at xs ys sums b h = subst (λ u. AreRowSums p u ys sums) same (subst (λ l. AreRowSums p s l sums) b h)

  pub pricing-at : (c : ℕ → ℚ) (xs ys : List ℚ) → xs ≡ ys → ArePricing p s c (at xs) → ArePricing p t c (at ys)
  pricing-at c xs ys b h = subst (λ u. ArePricing p u c (at ys)) same (subst (λ l. ArePricing p s c (at l)) b h)

  pub fault-at : (e : FigureFault) → IsFigureFault p s e → IsFigureFault p t e
  fault-at e h = subst (λ u. IsFigureFault p u e) same h
