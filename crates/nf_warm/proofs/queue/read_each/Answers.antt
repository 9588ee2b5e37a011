use Rattle.std.proofs.Common.{sym, ◌∙◌}
use Rattle.nf_saved.specs.Rows.{artificial_read}
use Rattle.nf_warm.specs.Inside.{rows_in}
use Rattle.nf_warm.proofs.LoopFacts.{read-all, read-more, read-stops}
use Rattle.nf_warm.proofs.queue.read_each.Goals as goal

pub returns-in-Err : goal.returns-in-Err
returns-in-Err c = read-stops (artificial_read (rows_in c.args.table.now c.args.at.now) c.args.k) c.args.n c.loop-i.i c.loop-i.artificials.items c.in-Err.fault c.loop-i-test.true c.loop-i.invariant (sym c.artificial_row.ensures ∙ c.in-Err.is)

pub loop-i-preserved : goal.loop-i-preserved
loop-i-preserved c = read-more (artificial_read (rows_in c.args.table.now c.args.at.now) c.args.k) c.args.n c.loop-i.i c.loop-i.artificials.items c.push_artificial.new.artificials.items c.in-Ok.artificial c.loop-i-test.true c.loop-i.invariant (sym c.artificial_row.ensures ∙ c.in-Ok.is) c.in_ok-push_artificial-in-Ok.ensures

pub returns : goal.returns
returns c = read-all (artificial_read (rows_in c.args.table.now c.args.at.now) c.args.k) c.args.n c.loop-i.i c.loop-i.artificials.items c.loop-i-test.false c.loop-i.invariant
