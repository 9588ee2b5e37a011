use Rattle.std.proofs.Common.{◌≡◌, ◌+◌, ◌∙◌, refl, length, map, ap, arith}
use Rattle.nf_roles.proofs.Lists.{none-yet}
use Rattle.nf_network.proofs.PassFacts.{map-length}
use Rattle.nf_cons.specs.Dense.{Dense, dense_row, row_fault_at}
use Rattle.nf_cons.specs.Types.{default_type}
use Rattle.nf_cons.proofs.DenseFacts.{after-none, dense-is}
use Rattle.nf_cons.proofs.FaultFacts.{row-found, rows-more}
use Rattle.nf_cons.proofs.dense_data.read_rows.Goals as goal

pub loop-i-init : goal.loop-i-init
loop-i-init c = (after-none _ _ c.new.ensures.empty c.new-2.ensures.items c.new-3.ensures refl, none-yet _, c.rows-i-end.ensures, refl, c.default_type.ensures, refl)

pub take_row-requires-clause-each : goal.take_row-requires-clause-each
take_row-requires-clause-each c = ap length c.loop-i.invariant.3 ∙ c.requires.each

pub take_row-requires-clause-after : goal.take_row-requires-clause-after
take_row-requires-clause-after c =
    let inv = c.loop-i.invariant in
    rw (dense-is c.args.roles.now c.args.table.now c.loop-i.rows _ _ _ inv.3 inv.4 inv.5) inv.0

pub returns-in-Err : goal.returns-in-Err
returns-in-Err c =
    let inv = c.loop-i.invariant in
    let d : Dense = record {
      columns = c.args.roles.now.variables;
      variables = c.args.header.numbers.items;
      arcs = c.args.header.variables.arcs.count;
      default = default_type c.args.options.now.defcontype;
      rows = map (dense_row c.args.roles.now) c.args.table.now.rows;
    } in
    let same = dense-is c.args.roles.now c.args.table.now c.loop-i.rows _ _ _ inv.3 inv.4 inv.5 in
    let size = map-length (dense_row c.args.roles.now) c.args.table.now.rows in
    rw c.in_row.ensures
    (row-found (length d.rows) c.loop-i.i (λ k. k + 1) (row_fault_at d) c.in-Err.fault inv.1 (omega (arith, size, inv.2, c.loop-i-test.true)) (rw same at c.in-Err.ensures))

pub loop-i-preserved : goal.loop-i-preserved
loop-i-preserved c =
    let inv = c.loop-i.invariant in
    let d : Dense = record {
      columns = c.args.roles.now.variables;
      variables = c.args.header.numbers.items;
      arcs = c.args.header.variables.arcs.count;
      default = default_type c.args.options.now.defcontype;
      rows = map (dense_row c.args.roles.now) c.args.table.now.rows;
    } in
    let same = dense-is c.args.roles.now c.args.table.now c.loop-i.rows _ _ _ inv.3 inv.4 inv.5 in
    let taken = rw same at c.in-Ok.ensures in (
      taken.1,
      rows-more c.loop-i.i 0 (λ k. k + 1) (row_fault_at d) inv.1 taken.0,
      inv.2,
      ap (λ s. s.numbers) taken.2 ∙ inv.3,
      ap (λ s. s.default) taken.2 ∙ inv.4,
      ap (λ s. s.variables) taken.2 ∙ inv.5,
    )

pub returns : goal.returns
returns c =
    let inv = c.loop-i.invariant in
    let size = map-length (dense_row c.args.roles.now) c.args.table.now.rows in
    let done : c.loop-i.i ≡ length (map (dense_row c.args.roles.now) c.args.table.now.rows) = omega (arith, size, inv.2, c.loop-i-test.false, c.loop-i.auto.i-end) in
    let after = rw done at inv.0 in (
      rw done at inv.1,
      ap (λ s. s.variables) c.rows-2.view_is ∙ inv.5,
      ap (λ s. s.names) c.rows-2.view_is ∙ after.names_are,
      ap (λ s. s.sides) c.rows-2.view_is ∙ after.sides_are,
      ap (λ s. s.lists) c.rows-2.view_is ∙ after.lists_are,
    )
