use Rattle.std.proofs.Common.{◌≡◌, ◌+◌, drop}
use Rattle.nf_dimacs_writer.specs.Refusal.{first_refusal, row_refusal}
use Rattle.nf_dimacs_writer.proofs.refusal.first_of_rows.Given as goal

abbrev pub invariant-loop-i : goal.invariant-loop-i
invariant-loop-i l = first_refusal row_refusal 1 l.p.rows ≡ first_refusal row_refusal (l.i + 1) (drop l.i l.p.rows)
