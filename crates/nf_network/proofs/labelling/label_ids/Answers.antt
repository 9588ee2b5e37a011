use Rattle.std.proofs.Common.{◌≡◌, ◌<◌, ◌+◌, ◌∷◌, [], suc, length, get_or, refl, arith}
use Rattle.nf_network.proofs.LabelFacts.{rows-more}
use Rattle.nf_network.proofs.labelling.label_ids.Goals as goal

pub loop-i-preserved : goal.loop-i-preserved
loop-i-preserved c =
    let inv = c.loop-i.invariant in
    let below : c.loop-i.i < length c.args.table.now.rows = omega (arith, inv.0, c.loop-i-test.true) in
    let next : get_or (c.args.table.now.header ∷ c.args.table.now.rows) (c.loop-i.i + 1) [] ≡ get_or c.args.table.now.rows c.loop-i.i [] =
    let s : c.loop-i.i + 1 ≡ suc c.loop-i.i = omega arith in rw s refl in (
      inv.0,
      omega (arith, c.loop-i-test.true),
      rows-more c.args.labels.now c.loop-i.labels _ c.args.roles.now.ids c.args.table.now.rows c.loop-i.i _ below next inv.2 c.in_ok-label_row.ensures,
    )
