use Rattle.std.proofs.Common.{◌≡◌, ◌+◌, drop}
use Rattle.nf_dimacs_writer.specs.Refusal.{first_refusal, column_refusal}
use Rattle.nf_dimacs_writer.proofs.refusal.first_of_columns.Given as goal

abbrev pub invariant-loop-j : goal.invariant-loop-j
invariant-loop-j l = first_refusal column_refusal 1 l.p.columns ≡ first_refusal column_refusal (l.j + 1) (drop l.j l.p.columns)
