use Rattle.std.proofs.Common.{◌≡◌, ◌∙◌, get_or}
use Rattle.nf_cons.proofs.TermFacts.{cell-term-fault, get-same}
use Rattle.nf_cons.proofs.dense_rows.DenseRows.take_cell.Goals as goal

pub returns-in-Err : goal.returns-in-Err
returns-in-Err c =
    let number = rw (← c.self.view_is) at c.requires.number in
    let v : c.index-variable.result.now ≡ get_or c.self.inside.numbers.items c.args.i 0 = c.index-variable.ensures ∙ get-same c.self.inside.numbers.items c.args.i _ 0 number in
    rw (c.in-Is.is, ← c.self.view_is)
    (cell-term-fault c.args.row_type c.self.inside.constraints.variables.arcs.count c.args.column (get_or c.self.inside.numbers.items c.args.i 0) c.self.inside.constraints.terms c.self.inside.count
    c.in-Is.value c.in-Err.fault (rw (c.is_arc.ensures, v) at c.in-Err.ensures.answer))
