use Rattle.std.proofs.Common.{[], sym, subst, arith}
use Rattle.std.specs.Str.{IsUtf8}
use Rattle.nf_out.proofs.rows.push_constraint.Goals as goal

pub push_cell-requires-2-clause-text : goal.push_cell-requires-2-clause-text
push_cell-requires-2-clause-text c = subst IsUtf8 (sym c.constraint.ensures.name) (c.requires.labels.constraint_texts _ [] (omega (arith, c.requires.row, c.requires.labels.numbered.nodes, c.requires.labels.numbered.constraints, c.if-i-nodes.false, c.nodes.ensures.number)))
