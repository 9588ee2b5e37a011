use Rattle.std.proofs.Common.{length, sym, ◌∙◌, arith}
use Rattle.nf_basis.specs.Names.{stage_by}
use Rattle.nf_saved.specs.Reading.{given_read}
use Rattle.nf_warm.specs.Inside.{statuses_in}
use Rattle.nf_warm.proofs.LoopFacts.{read-all, read-more, read-stops}
use Rattle.nf_warm.proofs.places.read_given.Goals as goal

pub returns-in-Err : goal.returns-in-Err
returns-in-Err c = read-stops (given_read c.args.p.now (stage_by c.args.two) (statuses_in c.args.table.now c.args.at.now)) (length c.args.p.now.columns) c.loop-j.j c.loop-j.places.items c.in-Err.fault (omega (arith, c.loop-j-test.true, c.columns-j-end.ensures.number)) c.loop-j.invariant (sym c.column_at.ensures ∙ c.in-Err.is)

pub loop-j-preserved : goal.loop-j-preserved
loop-j-preserved c = read-more (given_read c.args.p.now (stage_by c.args.two) (statuses_in c.args.table.now c.args.at.now)) (length c.args.p.now.columns) c.loop-j.j c.loop-j.places.items c.push_place.new.places.items c.in-Ok.place (omega (arith, c.loop-j-test.true, c.columns-j-end.ensures.number)) c.loop-j.invariant (sym c.column_at.ensures ∙ c.in-Ok.is) c.in_ok-push_place-in-Ok.ensures

pub returns : goal.returns
returns c = read-all (given_read c.args.p.now (stage_by c.args.two) (statuses_in c.args.table.now c.args.at.now)) (length c.args.p.now.columns) c.loop-j.j c.loop-j.places.items (omega (arith, c.loop-j-test.false, c.columns-j-end.ensures.number)) c.loop-j.invariant
