use Rattle.std.proofs.Common.{◌∙◌, arith}
use Rattle.std.proofs.lemmas.List.{length-take-le}
use Rattle.nf_ratio.proofs.Slots.{tied_by}
use Rattle.nf_ratio.proofs.ratio_test.tied_weights.Goals as goal

pub returns-clause-weights : goal.returns-clause-weights
returns-clause-weights g c =
    let n = c.count_slots-slots.result in
    let a = c.count_slots-slots.ensures.no_more in
    let b = c.requires.weights in
    tied_by _ c.args.ties.now c.args.count n c.requires.few c.count_slots-slots.ensures c.args.p.now _ _ c.args.row c.inverse_weights.new.out _ c.requires.weights
    (c.inverse_weights.auto.out ∙ length-take-le n c.args.weights.now (omega arith)) c.in_ok-inverse_weights.ensures.weights
