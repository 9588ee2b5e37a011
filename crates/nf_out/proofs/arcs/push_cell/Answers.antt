use Rattle.std.proofs.Common.{[], sym, subst, arith}
use Rattle.std.specs.Str.{IsUtf8}
use Rattle.nf_out.proofs.arcs.push_cell.Goals as goal

pub push_cell-requires-clause-text : goal.push_cell-requires-clause-text
push_cell-requires-clause-text c = subst IsUtf8 (sym c.column.ensures.name) (c.requires.labels.column_texts _ [] (omega (arith, c.requires.column, c.requires.labels.numbered.columns)))
