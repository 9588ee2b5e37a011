use Rattle.std.proofs.Common.{ℕ, ◌-◌, ◌<◌, ◌≤◌, ◌∙◌, sym, arith}
use Rattle.nf_basis.proofs.Inverse.{inverse_column, are_inverse, inverse_at}
use Rattle.nf_basis.proofs.dense.DenseBasisBasis.inverse_weights.Goals as goal

below : (j n : ℕ) → 0 < j → j ≤ n → j - 1 < n
below j n a b = omega arith

pub returns-clause-weights : goal.returns-clause-weights
returns-clause-weights g c =
    let p = c.args.p.now in
    let b = c.args.self.now in
    let h = c.requires.numbers in
    let s = b.state.standing in
    record {
      weights = inverse_column p s b.slots.items b.inverse h.state.problem h.parts.basics.listed h.parts.inverse h.parts.basics.basis.independent (c.args.row - 1);
      are_weights = are_inverse p s b.slots.items b.inverse h.state.problem h.parts.basics.listed h.parts.inverse h.parts.basics.basis.independent (c.args.row - 1) (below c.args.row _ c.requires.present.0 c.requires.present.1);
      by_slot = λ k m. c.weights_at.ensures k m ∙ sym (inverse_at p s b.slots.items b.inverse h.state.problem h.parts.basics.listed h.parts.inverse h.parts.basics.basis.independent (c.args.row - 1) _ (c.requires.chosen.within k m));
    }
