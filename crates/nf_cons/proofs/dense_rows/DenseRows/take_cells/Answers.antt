use Rattle.std.proofs.Common.{◌≡◌, ◌<◌, ◌+◌, ◌∙◌, refl, length, get_or, ap, arith}
use Rattle.std.proofs.lemmas.List.{length-append}
use Rattle.nf_roles.proofs.Lists.{none-more, none-yet}
use Rattle.nf_cons.specs.Dense.{cell_at, cell_fault_at, given_at, given_before}
use Rattle.nf_cons.specs.Passing.{dense_now}
use Rattle.nf_cons.specs.Terms.{lists_of}
use Rattle.nf_cons.specs.Values.{value_in}
use Rattle.nf_cons.proofs.DenseFacts.{before-all, before-more, before-none, cell-is, few-more, fault-is, given-is, state-more, state-none}
use Rattle.nf_cons.proofs.FaultFacts.{cell-found}
use Rattle.nf_cons.proofs.dense_rows.DenseRows.take_cells.Goals as goal

pub loop-i-init : goal.loop-i-init
loop-i-init c =
    let d = dense_now c.args.roles.now c.args.table.now c.args.self.now in
    let none = before-none d c.args.k in
    let all : c.len-i-end.result ≡ length c.self.inside.numbers.items = omega (arith, c.len-i-end.ensures) in
    (state-none c.args.self.now d c.args.k c.requires.lists c.requires.count, rw (none, ← c.requires.count) c.requires.few, none-yet (cell_fault_at d c.args.k), all ∙ ap (λ s. length s.numbers) c.self.view_is)

pub take_cell-requires-clause-number : goal.take_cell-requires-clause-number
take_cell-requires-clause-number c =
    let inv = c.loop-i.invariant in
    rw inv.0 (omega (arith, inv.3, c.loop-i-test.true))

pub take_cell-requires-clause-count : goal.take_cell-requires-clause-count
take_cell-requires-clause-count c = let inv = c.loop-i.invariant in rw inv.0 inv.1

pub returns-in-Err : goal.returns-in-Err
returns-in-Err c =
    let inv = c.loop-i.invariant in
    let s = c.args.self.now in
    let d = dense_now c.args.roles.now c.args.table.now c.args.self.now in
    let below : c.loop-i.i < length c.args.self.now.numbers = omega (arith, inv.3, c.loop-i-test.true) in
    let inside : c.loop-i.i < length c.args.roles.now.variables = omega (arith, below, c.requires.each) in
    let col : get_or c.variables.result.now c.loop-i.i 0 ≡ get_or c.args.roles.now.variables c.loop-i.i 0 = ap (λ l. get_or l c.loop-i.i 0) c.variables.ensures.variables in
    let cell : c.value_cell-cell.result ≡ cell_at d c.args.k c.loop-i.i =
    c.value_cell-cell.ensures ∙ ap value_in c.cell.ensures ∙ cell-is c.args.roles.now c.args.table.now s c.args.k c.loop-i.i _ c.requires.row inside col in
    let fault = fault-is d c.args.k c.loop-i.i c.args.row_type (get_or c.variables.result.now c.loop-i.i 0) (get_or c.args.self.now.numbers c.loop-i.i 0) (lists_of (given_before d c.args.k c.loop-i.i))
    (length (given_before d c.args.k c.loop-i.i)) c.value_cell-cell.result c.requires.row_type col refl refl refl cell in
    cell-found (length c.args.self.now.numbers) c.loop-i.i (cell_fault_at d c.args.k) c.in-Err.fault inv.2 below (rw fault (rw inv.0 at c.in-Err.ensures))

pub loop-i-preserved : goal.loop-i-preserved
loop-i-preserved c =
    let inv = c.loop-i.invariant in
    let s = c.args.self.now in
    let d = dense_now c.args.roles.now c.args.table.now c.args.self.now in
    let below : c.loop-i.i < length c.args.self.now.numbers = omega (arith, inv.3, c.loop-i-test.true) in
    let inside : c.loop-i.i < length c.args.roles.now.variables = omega (arith, below, c.requires.each) in
    let col : get_or c.variables.result.now c.loop-i.i 0 ≡ get_or c.args.roles.now.variables c.loop-i.i 0 = ap (λ l. get_or l c.loop-i.i 0) c.variables.ensures.variables in
    let cell : c.value_cell-cell.result ≡ cell_at d c.args.k c.loop-i.i =
    c.value_cell-cell.ensures ∙ ap value_in c.cell.ensures ∙ cell-is c.args.roles.now c.args.table.now s c.args.k c.loop-i.i _ c.requires.row inside col in
    let fault = fault-is d c.args.k c.loop-i.i c.args.row_type (get_or c.variables.result.now c.loop-i.i 0) (get_or c.args.self.now.numbers c.loop-i.i 0) (lists_of (given_before d c.args.k c.loop-i.i))
    (length (given_before d c.args.k c.loop-i.i)) c.value_cell-cell.result c.requires.row_type col refl refl refl cell in
    let given = given-is d c.args.k c.loop-i.i c.args.row_type (get_or c.variables.result.now c.loop-i.i 0) (get_or c.args.self.now.numbers c.loop-i.i 0) (length c.args.self.now.sides) (c.args.k + 1)
    c.value_cell-cell.result c.requires.row_type col refl (ap length c.requires.sides) refl cell in
    let taken = rw inv.0 at c.in-Ok.ensures in
    let few = few-more c.args.row_type d.arcs (get_or c.variables.result.now c.loop-i.i 0) (get_or c.args.self.now.numbers c.loop-i.i 0) (lists_of (given_before d c.args.k c.loop-i.i))
    (length (given_before d c.args.k c.loop-i.i)) (length c.args.self.now.sides) (c.args.k + 1) c.value_cell-cell.result taken.0 inv.1 in
    let size = ap length (before-more d c.args.k c.loop-i.i) ∙ length-append (given_before d c.args.k c.loop-i.i) (given_at d c.args.k c.loop-i.i) in
    (taken.1 ∙ state-more s d c.args.k c.loop-i.i _ given, omega (arith, few, size, ap length given), none-more c.loop-i.i (cell_fault_at d c.args.k) inv.2 (fault ∙ taken.0), inv.3)

pub returns : goal.returns
returns c =
    let inv = c.loop-i.invariant in
    let d = dense_now c.args.roles.now c.args.table.now c.args.self.now in
    let at_end : c.loop-i.i ≡ length c.args.self.now.numbers = omega (arith, inv.3, c.loop-i-test.false, c.loop-i.auto.i-end) in
    let whole = before-all d c.args.k in
    (rw at_end at inv.2, (rw (at_end, whole) at inv.0), rw inv.0 inv.1)
