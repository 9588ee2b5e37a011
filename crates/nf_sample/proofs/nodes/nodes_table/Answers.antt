use Rattle.std.proofs.Common.{◌+◌, [], length, ap, ◌∙◌}
use Rattle.nf_sample.specs.Sample.{node_row, nodes_header}
use Rattle.nf_sample.proofs.Ends.{nodes_apart}
use Rattle.nf_sample.proofs.Grown.{begun_none, grown, longer}
use Rattle.nf_sample.proofs.nodes.nodes_table.Goals as goal

pub begin-requires-clause-own : goal.begin-requires-clause-own
begin-requires-clause-own c = nodes_apart

pub loop-before-init : goal.loop-before-init
loop-before-init c = record { rows = begun_none nodes_header (node_row c.in_ok-drawn.drawn.items c.args.nodes) c.in_ok-table.table c.in_ok-table.ensures; room = ap (λ t. length t.rows) c.in_ok-table.ensures }

pub loop-before-preserved : goal.loop-before-preserved
loop-before-preserved c =
    let i = c.loop-before.before in
    record {
      rows = grown nodes_header (node_row c.in_ok-drawn.drawn.items c.args.nodes) i [] _ c.loop-before.table c.push_node.new.table c.loop-before.invariant.rows c.in_ok-push_node.ensures (ap (λ supplies. node_row supplies c.args.nodes (i + 1)) c.as_slice.ensures.value);
      room = longer nodes_header c.loop-before.table.rows _ c.push_node.new.table c.in_ok-push_node.ensures ∙ ap (λ n. n + 1) c.loop-before.invariant.room;
    }
