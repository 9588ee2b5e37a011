use Rattle.std.proofs.Common.{length, ◌≡◌}
use Rattle.nf_duals.specs.Factor.{ArePrintedBelow}
use Rattle.nf_duals.proofs.printed.add_multiple.Given as goal

abbrev pub invariant-loop-i : goal.invariant-loop-i
invariant-loop-i g l = record { as_many : length l.two ≡ length l.initial.two; members : ArePrintedBelow l.m l.one l.initial.two l.two l.i }
