use Rattle.std.proofs.Common.{◌≡◌, ◌++◌}
use Rattle.nf_out.specs.Arcs.{id_fields}
use Rattle.nf_out.proofs.output.list_ids.Given as goal

abbrev pub invariant-loop-c : goal.invariant-loop-c
invariant-loop-c l = l.fields.items ≡ l.initial.fields.items ++ id_fields l.labels l.c
