use Rattle.std.proofs.Common.{◌≡◌, ◌≢◌, ℕ, ◌<◌, length}
use Rattle.nf_num.specs.Rational.{ℚ}
use Rattle.nf_model.specs.Program.{at}
use Rattle.nf_inverse.specs.Weights.{weight}
use Rattle.nf_basis.specs.Numbers.{slot_number}
use Rattle.nf_stage_two.specs.Wide.{HasWideWeight}
use Rattle.nf_stage_two.proofs.dense.put_column.Given as goal

abbrev pub invariant-loop-k : goal.invariant-loop-k
invariant-loop-k g l = record {
  size : length l.inverse ≡ length l.fn.inverse;
  weights : (v : ℕ → ℚ) → ((i : ℕ) → i < l.p.nodes → at l.by_slot i ≡ v (slot_number l.p l.slots i)) → ((j : ℕ) → j < length l.p.columns → at l.spread j ≡ v j)
      → (k : ℕ) → k < l.k → HasWideWeight l.p l.state.standing l.slots v k (weight l.inverse k l.row);
  others : (k r : ℕ) → r ≢ l.row → weight l.inverse k r ≡ weight l.fn.inverse k r;
}
