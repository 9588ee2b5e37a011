use Rattle.std.proofs.Common.{◌≡◌, ◌<◌, ◌+◌, ◌∙◌, [], ◌∷◌, length, take, get_or, inl, inr, sym, ap, arith}
use Rattle.std.proofs.lemmas.List.{take_all}
use Rattle.nf_program.specs.declared.program.SetName.TheVariants as set
use Rattle.nf_roles.specs.First.{in_row}
use Rattle.nf_roles.proofs.Lists.{found, none-more, none-yet}
use Rattle.nf_network.specs.NodeData.{first_node_fault, node_fault_at}
use Rattle.nf_network.specs.Rows.{arc_rows, node_row, node_rows}
use Rattle.nf_network.proofs.NodePassFacts.{faults-same, node-at, node-fault, nodes-length, nodes-more, read-none, row-clear, row-read, seen-more}
use Rattle.nf_network.proofs.ReadFacts.{rows-clear, rows-node, told}
use Rattle.nf_network.proofs.data_sets.read_both.Goals as goal

pub loop-i-init : goal.loop-i-init
loop-i-init c = (read-none _ _ _ _ _ c.in-Ok.ensures.1, c.new-seen.ensures.empty, none-yet _)

pub returns-in-Err-take_node_row : goal.returns-in-Err-take_node_row
returns-in-Err-take_node_row c =
    let inv = c.loop-i.invariant in
    let rows = c.args.node_table.now.rows in
    let arcs = arc_rows c.args.arc_roles.now c.args.arc_table.now.rows in
    let nodes = node_rows c.args.node_roles.now c.args.node_table.now.rows in
    let r = node_row c.args.node_roles.now (get_or (c.args.node_table.now.header ∷ c.args.node_table.now.rows) (c.loop-i.i + 1) []) in
    let below : c.loop-i.i < length c.args.node_table.now.rows = omega (arith, c.rows-i-end.ensures, c.loop-i-test.true) in
    let inside : c.loop-i.i < length (node_rows c.args.node_roles.now c.args.node_table.now.rows) = omega (arith, below, nodes-length c.args.node_roles.now c.args.node_table.now.rows) in
    let at = node-at c.args.node_roles.now c.args.node_table.now.header c.args.node_table.now.rows c.loop-i.i below in
    let same = faults-same c.args.defaults.now arcs (take c.loop-i.i nodes) c.loop-i.arcs.nodes c.loop-i.arcs.keys c.loop-i.arcs.figures.items inv.0 c.loop-i.seen inv.1 r in
    rows-node c.args.defaults.now c.args.arc_roles.now c.args.arc_table.now c.args.node_roles.now c.args.node_table.now _ c.in-Ok.ensures.0
    (told set.Nodedata c.args.node_roles.now c.args.node_table.now.header (c.loop-i.i + 1) c.in-Err-take_node_row.fault _ (first_node_fault arcs nodes)
    (elim c.in-Err-take_node_row.ensures [
      | inl m ↦ inl m
      | inr q ↦ inr (found (length nodes) c.loop-i.i (λ k. in_row (k + 1) (node_fault_at arcs nodes k)) (c.loop-i.i + 1, c.in-Err-take_node_row.fault) inv.2
          (ap (in_row (c.loop-i.i + 1)) (node-fault arcs nodes c.loop-i.i r at ∙ sym same ∙ q)) inside)
    ])
    c.in_row.ensures.fault c.in_row.ensures.memory)

pub loop-i-preserved : goal.loop-i-preserved
loop-i-preserved c =
    let inv = c.loop-i.invariant in
    let arcs = arc_rows c.args.arc_roles.now c.args.arc_table.now.rows in
    let nodes = node_rows c.args.node_roles.now c.args.node_table.now.rows in
    let r = node_row c.args.node_roles.now (get_or (c.args.node_table.now.header ∷ c.args.node_table.now.rows) (c.loop-i.i + 1) []) in
    let below : c.loop-i.i < length c.args.node_table.now.rows = omega (arith, c.rows-i-end.ensures, c.loop-i-test.true) in
    let at = node-at c.args.node_roles.now c.args.node_table.now.header c.args.node_table.now.rows c.loop-i.i below in
    let more = nodes-more c.args.node_roles.now c.args.node_table.now.rows c.loop-i.i r below at in
    let clear = row-clear c.args.defaults.now arcs (take c.loop-i.i nodes) c.loop-i.arcs.nodes c.loop-i.arcs.keys c.loop-i.arcs.figures.items inv.0 c.loop-i.seen inv.1 r _ _ c.in-Ok-take_node_row.ensures in (
      rw more (row-read c.args.defaults.now arcs (take c.loop-i.i nodes) c.loop-i.arcs.nodes c.loop-i.arcs.keys c.loop-i.arcs.figures.items inv.0 c.loop-i.seen inv.1 r _ _ c.in-Ok-take_node_row.ensures),
      rw more (seen-more c.args.defaults.now arcs (take c.loop-i.i nodes) c.loop-i.arcs.nodes c.loop-i.arcs.keys c.loop-i.arcs.figures.items inv.0 c.loop-i.seen inv.1 r _ _ c.in-Ok-take_node_row.ensures),
      none-more c.loop-i.i (λ k. in_row (k + 1) (node_fault_at arcs nodes k)) inv.2 (ap (in_row (c.loop-i.i + 1)) (node-fault arcs nodes c.loop-i.i r at ∙ clear)),
    )

pub returns : goal.returns
returns c =
    let inv = c.loop-i.invariant in
    let nodes = node_rows c.args.node_roles.now c.args.node_table.now.rows in
    let all = nodes-length c.args.node_roles.now c.args.node_table.now.rows in
    let at_end : c.loop-i.i ≡ length (node_rows c.args.node_roles.now c.args.node_table.now.rows) = omega (arith, all, c.rows-i-end.ensures, c.loop-i-test.false, c.loop-i.auto.i-end) in
    let whole : take c.loop-i.i (node_rows c.args.node_roles.now c.args.node_table.now.rows) ≡ node_rows c.args.node_roles.now c.args.node_table.now.rows =
    take_all c.loop-i.i (node_rows c.args.node_roles.now c.args.node_table.now.rows) (omega (arith, at_end)) in
    (rows-clear c.args.defaults.now c.args.arc_roles.now c.args.arc_table.now c.args.node_roles.now c.args.node_table.now c.in-Ok.ensures.0 (rw at_end at inv.2), rw whole at inv.0)
