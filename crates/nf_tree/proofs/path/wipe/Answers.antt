use Rattle.std.proofs.Common.{◌≡◌, subst, arith}
use Rattle.nf_tree.specs.Links.{ListsWeights}
use Rattle.nf_tree.proofs.Trails.{none_left}
use Rattle.nf_tree.proofs.path.wipe.Goals as goal

pub returns : goal.returns
returns c =
    let e : c.loop-k.k ≡ c.args.count = omega arith in
    record { zeros = record { long = c.loop-k.invariant.long; zeros = none_left c.args.trail.now c.args.count c.loop-k.out (subst (λ k. ListsWeights c.args.trail.now k c.args.count c.loop-k.out) e c.loop-k.invariant.listed) } }
