use Rattle.std.proofs.Common.{◌+◌, arith, subst}
use Rattle.std.specs.Prelude.{IfNone}
use Rattle.nf_price.specs.Wanted.{Wants}
use Rattle.nf_price.proofs.CostFacts.{paid_more, paid_within}
use Rattle.nf_price.proofs.ScanFacts.{none_more}
use Rattle.nf_price.proofs.scan.first_wanted.Goals as goal

pub returns-in_err-first-clause-cost : goal.returns-in_err-first-clause-cost
returns-in_err-first-clause-cost g c =
    let more = paid_more c.args.p.now c.args.phase c.loop-k.k in
    let up = paid_within c.args.p.now c.args.phase (c.loop-k.k + 1) c.args.to (omega arith) in
    omega (arith, more, up, c.loop-k.invariant.cost, c.wanted.ensures.cost)

pub returns-in-Some-clause-cost : goal.returns-in-Some-clause-cost
returns-in-Some-clause-cost g c =
    let more = paid_more c.args.p.now c.args.phase c.loop-k.k in
    let up = paid_within c.args.p.now c.args.phase (c.loop-k.k + 1) c.args.to (omega arith) in
    omega (arith, more, up, c.loop-k.invariant.cost, c.wanted.ensures.cost)

pub loop-k-preserved : goal.loop-k-preserved
loop-k-preserved g c =
    let p = c.args.p.now in
    let s = c.args.state.now.standing in
    record {
      none = none_more p s c.args.phase c.args.one.now c.args.two.now c.args.from c.loop-k.k c.loop-k.invariant.none (subst (λ r. IfNone r (Wants p s c.args.phase c.args.one.now c.args.two.now c.loop-k.k → ⊥)) c.in_default.is c.in_ok-first.ensures.none);
      behind = omega (arith, c.loop-k.invariant.behind);
      cost = omega (arith, paid_more p c.args.phase c.loop-k.k, c.loop-k.invariant.cost, c.wanted.ensures.cost);
    }
