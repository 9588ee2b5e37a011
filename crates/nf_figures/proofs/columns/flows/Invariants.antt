use Rattle.std.proofs.Common.{◌≡◌}
use Rattle.nf_model.specs.Lists.{list_of}
use Rattle.nf_figures.proofs.columns.flows.Given as goal

abbrev pub invariant-loop-j : goal.invariant-loop-j
invariant-loop-j g l = l.values ≡ list_of l.j (g.B.Basis.values l.p l.basis)
