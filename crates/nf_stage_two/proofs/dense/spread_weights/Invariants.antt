use Rattle.std.proofs.Common.{◌≡◌, ◌≢◌, ℕ, ◌<◌, length}
use Rattle.nf_num.specs.Rational.{zero_ℚ}
use Rattle.nf_model.specs.Program.{at}
use Rattle.nf_basis.specs.Numbers.{slot_number}
use Rattle.nf_stage_two.proofs.dense.spread_weights.Given as goal

abbrev pub invariant-loop-k : goal.invariant-loop-k
invariant-loop-k l = record {
  as_many : length l.spread ≡ length l.p.columns;
  in_slots : (k : ℕ) → k < l.k → slot_number l.p l.slots k < length l.p.columns → at l.spread (slot_number l.p l.slots k) ≡ at l.by_slot k;
  others : (j : ℕ) → j < length l.p.columns → ((k : ℕ) → k < length l.by_slot → slot_number l.p l.slots k ≢ j) → at l.spread j ≡ zero_ℚ;
}
