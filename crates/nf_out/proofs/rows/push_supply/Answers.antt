use Rattle.std.proofs.Common.{sym, subst, arith}
use Rattle.std.specs.Str.{IsUtf8}
use Rattle.nf_labels.specs.Labels.{no_node}
use Rattle.nf_out.proofs.rows.push_supply.Goals as goal

pub push_cell-requires-2-clause-text : goal.push_cell-requires-2-clause-text
push_cell-requires-2-clause-text c = subst IsUtf8 (sym c.supdem.ensures.text) (c.requires.labels.node_texts _ no_node (omega (arith, c.requires.labels.numbered.nodes, c.if-i-nodes.false, c.nodes.ensures.number))).1
