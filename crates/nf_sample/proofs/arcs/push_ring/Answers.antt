use Rattle.std.proofs.Common.{◌+◌, ◌∷◌, [], codes, length, ap, ◌∙◌}
use Rattle.nf_sample.specs.Sample.{arc, arcs_header, node, ring_arc}
use Rattle.nf_sample.proofs.Grown.{begun_none, grown, longer}
use Rattle.nf_sample.proofs.arcs.push_ring.Goals as goal

pub loop-before-init : goal.loop-before-init
loop-before-init c = record { rows = begun_none arcs_header (ring_arc c.args.nodes) c.args.table.now c.requires.begun; room = ap (λ t. length t.rows) c.requires.begun }

pub loop-before-preserved : goal.loop-before-preserved
loop-before-preserved c =
    let i = c.loop-before.before + 1 in
    record {
      rows = grown arcs_header (ring_arc c.args.nodes) c.loop-before.before [] _ c.loop-before.table c.push_arc.new.table c.loop-before.invariant.rows c.in_ok-push_arc.ensures (ap (λ m. (node i ∷ node m ∷ arc i ∷ codes "100" ∷ [] ∷ []) ∷ []) c.next_node.ensures);
      room = longer arcs_header c.loop-before.table.rows _ c.push_arc.new.table c.in_ok-push_arc.ensures ∙ ap (λ n. n + 1) c.loop-before.invariant.room;
    }
