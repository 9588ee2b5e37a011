use Rattle.std.proofs.Common.{◌+◌, ◌*◌, ◌≤◌}
use Rattle.nf_ratio.specs.Loops.{first_ratio}
use Rattle.nf_ratio.specs.Ties.{AreLeast}
use Rattle.nf_ratio.proofs.ratios.value_ties.Given as goal

abbrev pub invariant-loop-slot : goal.invariant-loop-slot
invariant-loop-slot g l = record {
  ties : AreLeast (λ i. i) (first_ratio l.p (g.B.Basis.slots l.basis) (g.B.Basis.values l.p l.basis) l.down l.entries) l.slot l.ties l.found;
  cost : l.steps ≤ l.fn.steps + 2 * l.slot;
}
