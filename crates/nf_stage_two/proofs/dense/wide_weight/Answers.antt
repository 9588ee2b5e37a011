use Rattle.std.proofs.Common.{◌≡◌, ◌+◌, ◌-◌, ℕ, arith}
use Rattle.nf_stage_two.proofs.WideLoops.{side_weight}
use Rattle.nf_stage_two.proofs.dense.wide_weight.Goals as goal

back : (n : ℕ) → n + 1 - 1 ≡ n
back n = omega arith

pub returns-clause-weight : goal.returns-clause-weight
returns-clause-weight g c v first spread =
    side_weight c.args.p.now c.args.state.now.standing c.args.slots.now c.args.spread.now c.args.k (c.args.k + 1 - 1) c.is_turned.result c.in_ok-sum.sum c.signed.result (omega (arith, c.if-k-nodes.false, c.nodes.ensures.number)) (back c.args.k) c.in_ok-sum.ensures.value c.is_turned.ensures c.signed.ensures v spread
