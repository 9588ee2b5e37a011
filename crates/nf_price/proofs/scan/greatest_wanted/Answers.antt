use Rattle.std.proofs.Common.{◌≡◌, ◌+◌, ◌<◌, arith, subst, sym}
use Rattle.std.specs.Prelude.{IfNone, IfSome}
use Rattle.nf_duals.specs.Priced.{count_priced}
use Rattle.nf_price.specs.Wanted.{IsBestBelow, IsCandidate, Wants}
use Rattle.nf_price.proofs.CostFacts.{paid_more, paid_within}
use Rattle.nf_price.proofs.ScanFacts.{better_here, skip_here}
use Rattle.nf_price.proofs.scan.greatest_wanted.Goals.{in-Some, in_default}
use Rattle.nf_price.proofs.scan.greatest_wanted.Goals as goal

pub returns-in_err-next-clause-cost : goal.returns-in_err-next-clause-cost
returns-in_err-next-clause-cost g c =
    let below : c.loop-k.k < count_priced c.args.p.now = omega (arith, c.loop-k-test.true, c.priced_columns-k-end.ensures) in
    let more = paid_more c.args.p.now c.args.phase c.loop-k.k in
    let up = paid_within c.args.p.now c.args.phase (c.loop-k.k + 1) (count_priced c.args.p.now) (omega (arith, below)) in
    omega (arith, more, up, c.loop-k.invariant.cost, c.wanted.ensures.cost)

pub loop-k-preserved : goal.loop-k-preserved
loop-k-preserved g c =
    let p = c.args.p.now in
    let s = c.args.state.now.standing in
    let y1 = c.args.one.now in
    let y2 = c.args.two.now in
    let k = c.loop-k.k in
    record {
      best = elim c.match-branch-2.branch [
        | in-Some w ↦ subst (IsBestBelow p s c.args.phase y1 y2 (k + 1)) (sym w.best-is)
            (better_here p s c.args.phase y1 y2 k c.loop-k.best w.better-best.result w.in-Some.next
            (subst (λ r. IfSome r (λ a. a.number ≡ k)) w.in-Some.is c.in_ok-next.ensures.number)
            (subst (λ r. IfSome r (IsCandidate p s c.args.phase y1 y2)) w.in-Some.is c.in_ok-next.ensures.some)
            w.better-best.ensures c.loop-k.invariant.best)
        | in_default w ↦ subst (IsBestBelow p s c.args.phase y1 y2 (k + 1)) (sym w.best-is)
            (skip_here p s c.args.phase y1 y2 k c.loop-k.best (subst (λ r. IfNone r (Wants p s c.args.phase y1 y2 k → ⊥)) w.in_default.is c.in_ok-next.ensures.none) c.loop-k.invariant.best)
      ];
      cost = omega (arith, paid_more p c.args.phase k, c.loop-k.invariant.cost, c.wanted.ensures.cost);
    }
