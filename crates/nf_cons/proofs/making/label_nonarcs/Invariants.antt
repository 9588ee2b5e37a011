use Rattle.std.proofs.Common.{◌≡◌, ◌++◌, length, take}
use Rattle.nf_cons.proofs.making.label_nonarcs.Given as goal

abbrev pub invariant-loop-k : goal.invariant-loop-k
invariant-loop-k l =
    (l.labels ≡ record l.initial.labels { columns = l.initial.labels.columns ++ take l.k l.constraints.variables.nonarcs })
    × (l.k-end ≡ length l.constraints.variables.nonarcs)
