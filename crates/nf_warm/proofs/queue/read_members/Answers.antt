use Rattle.std.proofs.Common.{ap, sym, ◌∙◌}
use Rattle.nf_basis.specs.Names.{stage_by}
use Rattle.nf_saved.specs.Rows.{member_read}
use Rattle.nf_warm.specs.Inside.{rows_in}
use Rattle.nf_warm.proofs.LoopFacts.{member-fresh, read-all, read-more, read-stops}
use Rattle.nf_warm.proofs.queue.read_members.Goals as goal

pub returns-in-Err : goal.returns-in-Err
returns-in-Err c =
    read-stops (member_read c.args.p.now (stage_by c.args.two) (rows_in c.args.table.now c.args.at.now)) c.args.n c.loop-i.i c.loop-i.queue c.in-Err.fault c.loop-i-test.true c.loop-i.invariant
    (ap (λ q. member_read c.args.p.now (stage_by c.args.two) (rows_in c.args.table.now c.args.at.now) q c.loop-i.i) (sym c.items.ensures.value) ∙ (sym c.member_row.ensures ∙ c.in-Err.is))

pub push-requires-clause-fresh : goal.push-requires-clause-fresh
push-requires-clause-fresh c =
    member-fresh c.args.p.now (stage_by c.args.two) (rows_in c.args.table.now c.args.at.now) c.loop-i.queue c.loop-i.i c.in-Ok.number
    (ap (λ q. member_read c.args.p.now (stage_by c.args.two) (rows_in c.args.table.now c.args.at.now) q c.loop-i.i) (sym c.items.ensures.value) ∙ (sym c.member_row.ensures ∙ c.in-Ok.is))

pub loop-i-preserved : goal.loop-i-preserved
loop-i-preserved c =
    read-more (member_read c.args.p.now (stage_by c.args.two) (rows_in c.args.table.now c.args.at.now)) c.args.n c.loop-i.i c.loop-i.queue c.push.new.self c.in-Ok.number c.loop-i-test.true c.loop-i.invariant
    (ap (λ q. member_read c.args.p.now (stage_by c.args.two) (rows_in c.args.table.now c.args.at.now) q c.loop-i.i) (sym c.items.ensures.value) ∙ (sym c.member_row.ensures ∙ c.in-Ok.is)) c.push.ensures

pub returns : goal.returns
returns c = read-all (member_read c.args.p.now (stage_by c.args.two) (rows_in c.args.table.now c.args.at.now)) c.args.n c.loop-i.i c.loop-i.queue c.loop-i-test.false c.loop-i.invariant
