use Rattle.nf_stage_two.proofs.WideLoops.{AreSlotsBelow}
use Rattle.nf_stage_two.proofs.dense.wide_slots.Given as goal

abbrev pub invariant-loop-k : goal.invariant-loop-k
invariant-loop-k g l = AreSlotsBelow l.p l.state.standing (g.B.Basis.slots l.first) l.k l.slots.items
