use Rattle.std.proofs.Common.{◌≡◌, [], true, sym, arith, get_or}
use Rattle.nf_table.specs.Grid.{same_name}
use Rattle.nf_table.proofs.NameFacts.{column-found, column-none}
use Rattle.nf_table.proofs.table.Table.column.Goals as goal

pub returns-then-is_same_name : goal.returns-then-is_same_name
returns-then-is_same_name c =
    let inv = c.loop-column.invariant in
    let same : same_name c.args.name.now (get_or c.args.self.now.header c.loop-column.column []) ≡ true = rw c.cell.ensures at (sym c.if-is_same_name.ensures) in
    column-found _ _ _ (omega (arith, inv.0, c.loop-column-test.true)) inv.2 same

pub returns : goal.returns
returns c =
    let inv = c.loop-column.invariant in
    column-none c.args.self.now.header c.args.name.now (λ k within. inv.2 k (omega (arith, within, inv.0, c.loop-column-test.false)))
