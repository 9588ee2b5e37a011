use Rattle.std.proofs.Common.{◌∙◌}
use Rattle.nf_stage_two.specs.Wide.{HasWideWeight}
use Rattle.nf_stage_two.proofs.WideLoops.{put_weights, put_others}
use Rattle.nf_stage_two.proofs.dense.put_column.Goals as goal

pub loop-k-preserved : goal.loop-k-preserved
loop-k-preserved g c =
    let i = c.loop-k.invariant in
    let put = c.put.ensures.weights in
    record {
      size = c.put.ensures.size ∙ i.size;
      weights = λ v a b. put_weights (HasWideWeight c.args.p.now c.args.state.now.standing c.args.slots.now v) c.loop-k.inverse c.put.new.self c.loop-k.k c.args.row c.in_ok-weight.weight put (i.weights v a b) (c.in_ok-weight.ensures.weight v a b);
      others = λ k r d. put_others c.loop-k.inverse c.put.new.self c.loop-k.k c.args.row c.in_ok-weight.weight put k r d ∙ i.others k r d;
    }
