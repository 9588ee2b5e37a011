use Rattle.std.proofs.Common.{length, sym, ◌∙◌, arith}
use Rattle.nf_basis.specs.Names.{stage_by}
use Rattle.nf_saved.specs.Reading.{slack_read}
use Rattle.nf_warm.specs.Inside.{words_in}
use Rattle.nf_warm.proofs.LoopFacts.{read-all, read-more, read-stops}
use Rattle.nf_warm.proofs.places.read_sides.Goals as goal

pub returns-in-Err : goal.returns-in-Err
returns-in-Err c = read-stops (slack_read c.args.p.now (stage_by c.args.two) (words_in c.args.table.now c.args.at.now)) (length c.args.p.now.rows) c.loop-i.i c.loop-i.places.items c.in-Err.fault (omega (arith, c.loop-i-test.true, c.rows-i-end.ensures.number)) c.loop-i.invariant (sym c.slack_at.ensures ∙ c.in-Err.is)

pub loop-i-preserved : goal.loop-i-preserved
loop-i-preserved c = read-more (slack_read c.args.p.now (stage_by c.args.two) (words_in c.args.table.now c.args.at.now)) (length c.args.p.now.rows) c.loop-i.i c.loop-i.places.items c.push_place.new.places.items c.in-Ok.place (omega (arith, c.loop-i-test.true, c.rows-i-end.ensures.number)) c.loop-i.invariant (sym c.slack_at.ensures ∙ c.in-Ok.is) c.in_ok-push_place-in-Ok.ensures

pub returns : goal.returns
returns c = read-all (slack_read c.args.p.now (stage_by c.args.two) (words_in c.args.table.now c.args.at.now)) (length c.args.p.now.rows) c.loop-i.i c.loop-i.places.items (omega (arith, c.loop-i-test.false, c.rows-i-end.ensures.number)) c.loop-i.invariant
