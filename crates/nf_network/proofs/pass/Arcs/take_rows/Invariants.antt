use Rattle.std.proofs.Common.{take}
use Rattle.nf_network.specs.Pass.{IsAfter}
use Rattle.nf_network.specs.Repeats.{AreClearBut}
use Rattle.nf_network.specs.Rows.{arc_rows}
use Rattle.nf_network.proofs.pass.Arcs.take_rows.Given as goal

abbrev pub invariant-loop-i : goal.invariant-loop-i
invariant-loop-i l =
    IsAfter l.defaults (take l.i (arc_rows l.roles l.table.rows)) l.self.nodes l.self.keys l.self.figures.items
    × AreClearBut l.defaults (arc_rows l.roles l.table.rows) l.i
