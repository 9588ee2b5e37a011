use Rattle.std.proofs.Common.{◌≡◌, None, length}
use Rattle.nf_roles.specs.First.{first_below}
use Rattle.nf_cons.specs.Bounds.{bound_fault_at}
use Rattle.nf_cons.proofs.bounds.check_bounds.Given as goal

abbrev pub invariant-loop-k : goal.invariant-loop-k
invariant-loop-k l =
    (first_below l.k (bound_fault_at l.constraints.variables.arcs.count l.defaults l.constraints.variables.homes l.constraints.terms) ≡ None)
    × (l.k-end ≡ length l.constraints.variables.homes)
