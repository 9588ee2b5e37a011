use Rattle.std.proofs.Common.{◌≡◌, length, take, refl, arith}
use Rattle.std.proofs.lemmas.List.{take_all}
use Rattle.nf_network.specs.Rows.{arc_rows}
use Rattle.nf_network.proofs.FirstFacts.{clear-next}
use Rattle.nf_network.proofs.PassFacts.{rows-length}
use Rattle.nf_network.proofs.pass.Arcs.take_rows.Goals as goal

pub loop-i-init : goal.loop-i-init
loop-i-init c = (c.requires.empty, λ k below. absurd (omega (arith, below)))

pub loop-i-preserved : goal.loop-i-preserved
loop-i-preserved c =
    (c.in-Ok.ensures.1, clear-next c.args.defaults.now (arc_rows c.args.roles.now c.args.table.now.rows) c.loop-i.i c.loop-i.invariant.1 c.in-Ok.ensures.0)

pub returns-in-Err : goal.returns-in-Err
returns-in-Err c =
    let all = rows-length c.args.roles.now c.args.table.now.rows in
    record {
      i = c.loop-i.i;
      row_is = refl;
      below = omega (arith, all, c.rows-i-end.ensures, c.loop-i-test.true);
      clear = c.loop-i.invariant.1;
      stopped = c.in-Err.ensures;
    }

pub returns : goal.returns
returns c =
    let all = rows-length c.args.roles.now c.args.table.now.rows in
    let at_end : c.loop-i.i ≡ length (arc_rows c.args.roles.now c.args.table.now.rows) = omega (arith, all, c.rows-i-end.ensures, c.loop-i-test.false, c.loop-i.auto.i-end) in
    let whole : take c.loop-i.i (arc_rows c.args.roles.now c.args.table.now.rows) ≡ arc_rows c.args.roles.now c.args.table.now.rows = take_all c.loop-i.i (arc_rows c.args.roles.now c.args.table.now.rows) (omega (arith, at_end)) in
    (rw at_end at c.loop-i.invariant.1, rw whole at c.loop-i.invariant.0)
