use Rattle.std.proofs.Common.{◌≡◌, ◌≢◌, ℕ, ◌<◌, length}
use Rattle.nf_num.specs.Rational.{zero_ℚ}
use Rattle.nf_model.specs.Program.{at}
use Rattle.nf_basis.specs.Numbers.{slot_number}
use Rattle.nf_stage_two.specs.Wide.{IsWideBelow}
use Rattle.nf_stage_two.proofs.dense.wide_inverse.Given as goal

abbrev pub invariant-loop-row : goal.invariant-loop-row
invariant-loop-row g l = record {
  numbers : g.B.Basis.HasNumbers l.p l.first;
  standing : g.B.Basis.standing l.first ≡ g.B.Basis.standing l.fn.first;
  slots : g.B.Basis.slots l.first ≡ g.B.Basis.slots l.fn.first;
  values : g.B.Basis.values l.p l.first ≡ g.B.Basis.values l.p l.fn.first;
  by_slot : length l.by_slot.items ≡ l.p.nodes;
  spread : length l.spread.items ≡ length l.p.columns;
  off : (j : ℕ) → j < length l.p.columns → ((k : ℕ) → k < l.p.nodes → slot_number l.p l.slots k ≢ j) → at l.spread.items j ≡ zero_ℚ;
  wide : IsWideBelow l.p (g.B.Basis.standing l.fn.first) l.state.standing l.slots l.row l.inverse;
}
