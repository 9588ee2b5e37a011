use Rattle.std.proofs.Common.{◌∙◌, length, sym}
use Rattle.nf_model.specs.Program.{at}
use Rattle.nf_simplex.specs.Lists.{padded}
use Rattle.nf_certify.proofs.Listed.{none, grown, padded_at}
use Rattle.nf_certify.proofs.lists.by_row.Goals as goal

pub loop-i-init : goal.loop-i-init
loop-i-init c = c.new-list.ensures ∙ sym (none (padded (length c.args.numbers.now) (at c.args.numbers.now)))

pub loop-i-preserved : goal.loop-i-preserved
loop-i-preserved c =
    let ys = c.args.numbers.now in
    grown c.loop-i.i (padded (length ys) (at ys)) c.loop-i.list c.push.new.self c.member.result c.loop-i.invariant (c.member.ensures ∙ sym (padded_at ys c.loop-i.i)) c.in_ok-push.ensures.added
