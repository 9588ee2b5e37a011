use Rattle.std.proofs.Common.{◌≡◌, ◌<◌, ◌∙◌, length, take, get_or, sym, ap, arith}
use Rattle.std.proofs.lemmas.List.{take_all}
use Rattle.nf_roles.proofs.Lists.{none-yet}
use Rattle.nf_network.proofs.PassFacts.{map-length}
use Rattle.nf_cons.specs.Dense.{column_fault_at, mention_at, mentions}
use Rattle.nf_cons.specs.Variables.{arcs_of}
use Rattle.nf_cons.proofs.FaultFacts.{row-found, rows-more}
use Rattle.nf_cons.proofs.HeaderFacts.{column-at, mention-is, named-none, next-named, numbers-more, seen-more}
use Rattle.nf_cons.proofs.header.read_header.Goals as goal

pub loop-i-init : goal.loop-i-init
loop-i-init c = (
  rw c.new.ensures (named-none (arcs_of c.args.labels.now) c.in-Ok.arcs c.in-Ok.ensures.arcs c.in-Ok.ensures.few),
  c.new-seen.ensures.empty,
  c.new-2.ensures.items,
  none-yet _,
  ap length c.variables-i-end.ensures.variables,
)

pub take_column-requires : goal.take_column-requires
take_column-requires c = record { sound = c.loop-i.invariant.0.sound }

pub returns-in-Err : goal.returns-in-Err
returns-in-Err c =
    let inv = c.loop-i.invariant in
    let ms = mentions c.args.roles.now c.args.table.now.header in
    let arcs = arcs_of c.args.labels.now in
    let below : c.loop-i.i < length c.args.roles.now.variables = omega (arith, inv.4, c.loop-i-test.true) in
    let col : get_or c.variables.result.now c.loop-i.i 0 ≡ get_or c.args.roles.now.variables c.loop-i.i 0 = ap (λ l. get_or l c.loop-i.i 0) c.variables.ensures.variables in
    let m = mention-is c.args.roles.now c.args.table.now.header c.loop-i.i _ _ below col (sym c.cell.ensures) in
    let fault = column-at arcs ms c.loop-i.i c.loop-i.header.variables c.loop-i.seen _ inv.0 inv.1 m in
    let size : length (mentions c.args.roles.now c.args.table.now.header) ≡ length c.args.roles.now.variables = map-length (mention_at c.args.table.now.header) c.args.roles.now.variables in
    rw c.in_row.ensures
    (row-found (length ms) c.loop-i.i (λ k. 0) (column_fault_at arcs ms) c.in-Err.fault inv.3 (omega (arith, size, below)) (rw fault c.in-Err.ensures))

pub loop-i-preserved : goal.loop-i-preserved
loop-i-preserved c =
    let inv = c.loop-i.invariant in
    let ms = mentions c.args.roles.now c.args.table.now.header in
    let arcs = arcs_of c.args.labels.now in
    let below : c.loop-i.i < length c.args.roles.now.variables = omega (arith, inv.4, c.loop-i-test.true) in
    let col : get_or c.variables.result.now c.loop-i.i 0 ≡ get_or c.args.roles.now.variables c.loop-i.i 0 = ap (λ l. get_or l c.loop-i.i 0) c.variables.ensures.variables in
    let m = mention-is c.args.roles.now c.args.table.now.header c.loop-i.i _ _ below col (sym c.cell.ensures) in
    let fault = column-at arcs ms c.loop-i.i c.loop-i.header.variables c.loop-i.seen _ inv.0 inv.1 m in
    let size : length (mentions c.args.roles.now c.args.table.now.header) ≡ length c.args.roles.now.variables = map-length (mention_at c.args.table.now.header) c.args.roles.now.variables in
    let inside : c.loop-i.i < length (mentions c.args.roles.now c.args.table.now.header) = omega (arith, size, below) in
    let taken = c.in-Ok-take_column.ensures in (
      rw taken.1 (next-named arcs ms c.loop-i.i c.loop-i.header.variables c.loop-i.seen _ inv.0 inv.1 m inside taken.0),
      taken.2 ∙ seen-more ms c.loop-i.i c.loop-i.seen _ inv.1 m inside,
      taken.3 ∙ numbers-more arcs ms c.loop-i.i c.loop-i.header.variables _ _ inv.0 inv.2 m inside,
      rows-more c.loop-i.i 0 (λ k. 0) (column_fault_at arcs ms) inv.3 (fault ∙ taken.0),
      inv.4,
    )

pub returns : goal.returns
returns c =
    let inv = c.loop-i.invariant in
    let ms = mentions c.args.roles.now c.args.table.now.header in
    let size : length (mentions c.args.roles.now c.args.table.now.header) ≡ length c.args.roles.now.variables = map-length (mention_at c.args.table.now.header) c.args.roles.now.variables in
    let done : c.loop-i.i ≡ length (mentions c.args.roles.now c.args.table.now.header) = omega (arith, size, inv.4, c.loop-i-test.false, c.loop-i.auto.i-end) in
    let all : take c.loop-i.i (mentions c.args.roles.now c.args.table.now.header) ≡ mentions c.args.roles.now c.args.table.now.header = take_all c.loop-i.i ms (omega (arith, done)) in
    (rw done at inv.3, record { named = rw all at inv.0; numbers_are = rw all at inv.2 })
