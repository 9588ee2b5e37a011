use Rattle.std.proofs.Common.{sym, arith}
use Rattle.std.proofs.lemmas.Option.{slice_get_past}
use Rattle.nf_program.proofs.words.entry.Goals as goal

pub returns-else-at-table : goal.returns-else-at-table
returns-else-at-table g c = sym (slice_get_past c.args.table.now c.args.kind (omega arith))
