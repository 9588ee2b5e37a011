use Rattle.std.proofs.Common.{[], sym, subst, arith, ◌+◌, ◌-◌, length}
use Rattle.std.specs.Str.{IsUtf8}
use Rattle.nf_out.proofs.TextFacts.{id-there}
use Rattle.nf_out.proofs.arcs.push_id.Goals as goal

pub push_cell-requires-2-clause-text : goal.push_cell-requires-2-clause-text
push_cell-requires-2-clause-text c = subst IsUtf8 (sym c.id.ensures.cell) (c.requires.labels.id_texts _ [] (id-there (c.args.k + 1 - 1) c.args.labels.now.own_arcs (length c.args.labels.now.id_headers) c.args.c (length c.args.labels.now.ids) (omega (arith, c.if-k-own_arcs.false, c.own_arcs.ensures.number)) c.requires.header c.requires.labels.numbered.ids))
