use Rattle.std.proofs.Common.{◌≤◌, ◌<◌, length, take, inl, inr, ap, arith}
use Rattle.nf_network.specs.Faults.{most_arcs}
use Rattle.nf_network.specs.Rows.{arc_row_now, arc_rows}
use Rattle.nf_network.proofs.FirstFacts.{before, behind, passed}
use Rattle.nf_network.proofs.PassFacts.{at-row, rows-more, row-limit, row-ends, row-name, rest-figures, rest-gives, rest-clear, row-next, tail-below, head-below}
use Rattle.nf_network.proofs.pass.Arcs.take_row.Goals as goal

pub returns-then-len-ge-MOST_ARCS : goal.returns-then-len-ge-MOST_ARCS
returns-then-len-ge-MOST_ARCS c =
    let r = arc_row_now c.read_arc_row-row.result in
    let at = at-row c.args.roles.now c.args.table.now.header c.args.table.now.rows c.args.i r c.requires.row c.read_arc_row-row.ensures in
    let full : most_arcs ≤ length c.args.self.now.keys = omega (arith, c.len.ensures, c.if-len-ge-MOST_ARCS.true) in
    before c.args.defaults.now (arc_rows c.args.roles.now c.args.table.now.rows) c.args.i r _ _ _ at c.requires.after _
    (row-limit c.args.defaults.now (take c.args.i (arc_rows c.args.roles.now c.args.table.now.rows)) r _ _ _ c.requires.after full)

pub returns-in-Err : goal.returns-in-Err
returns-in-Err c =
    let r = arc_row_now c.read_arc_row-row.result in
    let at = at-row c.args.roles.now c.args.table.now.header c.args.table.now.rows c.args.i r c.requires.row c.read_arc_row-row.ensures in
    let small : length c.args.self.now.keys < most_arcs = omega (arith, c.len.ensures, c.if-len-ge-MOST_ARCS.false) in
    before c.args.defaults.now (arc_rows c.args.roles.now c.args.table.now.rows) c.args.i r _ _ _ at c.requires.after _
    (row-ends c.args.defaults.now (take c.args.i (arc_rows c.args.roles.now c.args.table.now.rows)) r _ _ _ c.requires.after c.in-Err.fault small c.in-Err.ensures)

pub add_key-requires : goal.add_key-requires
add_key-requires c = omega (arith, c.len.ensures, c.if-len-ge-MOST_ARCS.false)

pub returns-in-Err-add_key : goal.returns-in-Err-add_key
returns-in-Err-add_key c =
    let r = arc_row_now c.read_arc_row-row.result in
    let at = at-row c.args.roles.now c.args.table.now.header c.args.table.now.rows c.args.i r c.requires.row c.read_arc_row-row.ensures in
    let small : length c.args.self.now.keys < most_arcs = omega (arith, c.len.ensures, c.if-len-ge-MOST_ARCS.false) in
    rw c.in-Err-add_key.ensures.1 (before c.args.defaults.now (arc_rows c.args.roles.now c.args.table.now.rows) c.args.i r _ _ _ at c.requires.after _
    (row-name c.args.defaults.now (take c.args.i (arc_rows c.args.roles.now c.args.table.now.rows)) r _ _ _ c.requires.after _ _ _ small c.in-Ok.ensures c.in-Err-add_key.fault c.in-Err-add_key.ensures.0))

pub returns-in-Err-read_figures : goal.returns-in-Err-read_figures
returns-in-Err-read_figures c =
    let r = arc_row_now c.read_arc_row-row.result in
    let at = at-row c.args.roles.now c.args.table.now.header c.args.table.now.rows c.args.i r c.requires.row c.read_arc_row-row.ensures in
    let small : length c.args.self.now.keys < most_arcs = omega (arith, c.len.ensures, c.if-len-ge-MOST_ARCS.false) in
    let more = rows-more c.args.roles.now c.args.table.now.rows c.args.i r c.requires.row at in
    behind c.args.defaults.now (arc_rows c.args.roles.now c.args.table.now.rows) c.args.i r _ _ _ at c.requires.after _ _ _ small c.in-Ok.ensures c.in-Ok-add_key.ensures.0 _ _ more c.in-Ok-add_key.ensures.1
    (inr (rest-figures c.args.defaults.now (take c.args.i (arc_rows c.args.roles.now c.args.table.now.rows)) r _ _ _ c.requires.after _ _ _ small c.in-Ok.ensures c.in-Err-read_figures.fault c.in-Err-read_figures.ensures))

pub give_ends-requires-clause-tail : goal.give_ends-requires-clause-tail
give_ends-requires-clause-tail c =
    let small : length c.args.self.now.keys < most_arcs = omega (arith, c.len.ensures, c.if-len-ge-MOST_ARCS.false) in
    tail-below _ _ _ _ _ _ c.requires.after _ _ _ small c.in-Ok.ensures

pub give_ends-requires-clause-head : goal.give_ends-requires-clause-head
give_ends-requires-clause-head c =
    let small : length c.args.self.now.keys < most_arcs = omega (arith, c.len.ensures, c.if-len-ge-MOST_ARCS.false) in
    head-below _ _ _ _ _ _ c.requires.after _ _ _ small c.in-Ok.ensures

pub returns-in-Err-give_ends : goal.returns-in-Err-give_ends
returns-in-Err-give_ends c =
    let r = arc_row_now c.read_arc_row-row.result in
    let at = at-row c.args.roles.now c.args.table.now.header c.args.table.now.rows c.args.i r c.requires.row c.read_arc_row-row.ensures in
    let small : length c.args.self.now.keys < most_arcs = omega (arith, c.len.ensures, c.if-len-ge-MOST_ARCS.false) in
    let more = rows-more c.args.roles.now c.args.table.now.rows c.args.i r c.requires.row at in
    behind c.args.defaults.now (arc_rows c.args.roles.now c.args.table.now.rows) c.args.i r _ _ _ at c.requires.after _ _ _ small c.in-Ok.ensures c.in-Ok-add_key.ensures.0 _ _ more c.in-Ok-add_key.ensures.1
    (inr (rest-gives c.args.defaults.now (take c.args.i (arc_rows c.args.roles.now c.args.table.now.rows)) r _ _ _ c.requires.after _ _ _ small c.in-Ok.ensures c.in-Ok-read_figures.ensures.0 c.in-Err-give_ends.fault c.in-Err-give_ends.ensures))

pub returns-in-Err-push : goal.returns-in-Err-push
returns-in-Err-push c =
    let r = arc_row_now c.read_arc_row-row.result in
    let at = at-row c.args.roles.now c.args.table.now.header c.args.table.now.rows c.args.i r c.requires.row c.read_arc_row-row.ensures in
    let small : length c.args.self.now.keys < most_arcs = omega (arith, c.len.ensures, c.if-len-ge-MOST_ARCS.false) in
    let more = rows-more c.args.roles.now c.args.table.now.rows c.args.i r c.requires.row at in
    behind c.args.defaults.now (arc_rows c.args.roles.now c.args.table.now.rows) c.args.i r _ _ _ at c.requires.after _ _ _ small c.in-Ok.ensures c.in-Ok-add_key.ensures.0 _ _ more c.in-Ok-add_key.ensures.1 (inl (ap (λ f. f.kind) c.no_memory.ensures))

pub returns-in-Ok-push : goal.returns-in-Ok-push
returns-in-Ok-push c =
    let r = arc_row_now c.read_arc_row-row.result in
    let at = at-row c.args.roles.now c.args.table.now.header c.args.table.now.rows c.args.i r c.requires.row c.read_arc_row-row.ensures in
    let small : length c.args.self.now.keys < most_arcs = omega (arith, c.len.ensures, c.if-len-ge-MOST_ARCS.false) in
    let more = rows-more c.args.roles.now c.args.table.now.rows c.args.i r c.requires.row at in
    let clear = rest-clear c.args.defaults.now (take c.args.i (arc_rows c.args.roles.now c.args.table.now.rows)) r _ _ _ c.requires.after _ _ _ small c.in-Ok.ensures c.in-Ok-read_figures.ensures.0 c.in-Ok-give_ends.ensures.0 in
    let next = row-next _ _ _ _ _ _ c.requires.after _ _ _ small c.in-Ok.ensures c.in-Ok-read_figures.ensures.0 c.in-Ok-give_ends.ensures.0 in (
      passed c.args.defaults.now (arc_rows c.args.roles.now c.args.table.now.rows) c.args.i r _ _ _ at c.requires.after _ _ _ small c.in-Ok.ensures c.in-Ok-add_key.ensures.0 clear,
      rw (more, c.in-Ok-add_key.ensures.1, c.in-Ok-push.ensures.items, c.in-Ok-read_figures.ensures.1, c.in-Ok-give_ends.ensures.1) next,
    )
