use Rattle.std.proofs.Common.{◌≡◌, ◌<◌, ◌+◌, ◌^◌, ◌∙◌, None, length, map, sym, ap, subst, arith}
use Rattle.nf_roles.proofs.Lists.{none-yet}
use Rattle.nf_network.proofs.PassFacts.{map-length}
use Rattle.nf_cons.specs.Places.{IsFaultOf, first_of}
use Rattle.nf_cons.specs.Variables.{arcs_of}
use Rattle.nf_cons.proofs.FaultFacts.{row-found, rows-more}
use Rattle.nf_cons_sparse.specs.LineState.{IsAfterLines, line_faults_now, with_line}
use Rattle.nf_cons_sparse.specs.Sparse.{line_fault_at, sparse_line}
use Rattle.nf_cons_sparse.specs.SparseDue.{sparse_of}
use Rattle.nf_cons_sparse.proofs.NextFacts.{fault-same, kept, line-is, line-next, lines-none}
use Rattle.nf_cons_sparse.proofs.sparse_data.read_lines.Goals as goal

pub loop-i-init : goal.loop-i-init
loop-i-init c = (
  rw (c.new-lines.ensures, c.new.ensures, c.default_type-default.ensures) (lines-none (sparse_of c.args.options.now (arcs_of c.args.labels.now) c.args.roles.now c.args.table.now) c.in-Ok.arcs c.in-Ok.ensures.arcs c.in-Ok.ensures.few),
  none-yet _,
  c.rows-i-end.ensures,
)

pub take_line-requires-clause-kept : goal.take_line-requires-clause-kept
take_line-requires-clause-kept c = kept _ _ _ c.loop-i.invariant.0

pub returns-in-Err : goal.returns-in-Err
returns-in-Err c =
    let inv = c.loop-i.invariant in
    let s = sparse_of c.args.options.now (arcs_of c.args.labels.now) c.args.roles.now c.args.table.now in
    let size = map-length (sparse_line c.args.roles.now) c.args.table.now.rows in
    let below : c.loop-i.i < length c.args.table.now.rows = omega (arith, inv.2, c.loop-i-test.true) in
    let inside : c.loop-i.i < length s.lines = omega (arith, size, below) in
    let line = line-is c.args.options.now (arcs_of c.args.labels.now) c.args.roles.now c.args.table.now c.loop-i.i below in
    let same = fault-same s c.loop-i.i c.loop-i.lines inv.0 inside in
    let told = subst (λ q. IsFaultOf (first_of (line_faults_now c.loop-i.lines (c.loop-i.i + 1) q)) c.in-Err.fault) line c.in-Err.ensures in
    rw c.in_row.ensures
    (row-found (length s.lines) c.loop-i.i (λ k. k + 1) (line_fault_at s) c.in-Err.fault inv.1 inside (subst (λ o. IsFaultOf o c.in-Err.fault) same told))

pub loop-i-preserved : goal.loop-i-preserved
loop-i-preserved c =
    let inv = c.loop-i.invariant in
    let s = sparse_of c.args.options.now (arcs_of c.args.labels.now) c.args.roles.now c.args.table.now in
    let size = map-length (sparse_line c.args.roles.now) c.args.table.now.rows in
    let below : c.loop-i.i < length c.args.table.now.rows = omega (arith, inv.2, c.loop-i-test.true) in
    let inside : c.loop-i.i < length s.lines = omega (arith, size, below) in
    let line = line-is c.args.options.now (arcs_of c.args.labels.now) c.args.roles.now c.args.table.now c.loop-i.i below in
    let clear = subst (λ q. first_of (line_faults_now c.loop-i.lines (c.loop-i.i + 1) q) ≡ None) line c.in-Ok-take_line.ensures.0 in
    let left = c.in-Ok-take_line.ensures.1 ∙ ap (with_line c.loop-i.lines (c.loop-i.i + 1)) line in
    let same = fault-same s c.loop-i.i c.loop-i.lines inv.0 inside in (
      subst (IsAfterLines s (c.loop-i.i + 1)) (sym left) (line-next s c.loop-i.i c.loop-i.lines inv.0 inside clear),
      rows-more c.loop-i.i 0 (λ k. k + 1) (line_fault_at s) inv.1 (sym same ∙ clear),
      inv.2,
    )

pub returns : goal.returns
returns c =
    let inv = c.loop-i.invariant in
    let size = map-length (sparse_line c.args.roles.now) c.args.table.now.rows in
    let few : length c.args.table.now.rows < 2 ^ 32 = grind (arith, inv.2, c.rows-i-end.ensures, c.rows-i-end.auto) in
    let rows : c.loop-i.i ≡ length c.args.table.now.rows = omega (arith, inv.2, c.loop-i-test.false, c.loop-i.auto.i-end) in
    let done : c.loop-i.i ≡ length (map (sparse_line c.args.roles.now) c.args.table.now.rows) = omega (arith, size, rows) in
    (rw done at inv.1, rw rows at inv.0, few)
