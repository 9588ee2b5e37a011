use Rattle.std.proofs.Common.{◌+◌, subst, sym}
use Rattle.std.specs.Prelude.{IfSome, IfNone}
use Rattle.nf_num.specs.Rational.{ℚ}
use Rattle.nf_model.specs.Program.{at}
use Rattle.nf_simplex.specs.Columns.{ones, twos}
use Rattle.nf_simplex.specs.Layout.{layout_of}
use Rattle.nf_simplex.specs.Numbers.{reduced}
use Rattle.nf_simplex.specs.Standing.{place_at, stage_of}
use Rattle.nf_duals.specs.Factor.{IsFactorBelow, IsQuotientAt}
use Rattle.nf_duals.proofs.PrintedFacts.{none_yet, none_here, greater_here}
use Rattle.nf_duals.proofs.printed.factor.Goals.{in-Some, in_default}
use Rattle.nf_duals.proofs.printed.factor.Goals as goal

pub loop-k-init : goal.loop-k-init
loop-k-init g c =
    let s = c.args.state.now.standing in
    let S = stage_of c.args.p.now s in
    let d1 = reduced S (ones (layout_of c.args.p.now)) (at c.args.one.now) in
    let d2 = reduced S (twos (layout_of c.args.p.now)) (at c.args.two.now) in
    subst (IsFactorBelow S (place_at s) d1 d2 0) (sym c.zero-m.ensures) (none_yet S (place_at s) d1 d2)

pub loop-k-preserved : goal.loop-k-preserved
loop-k-preserved g c =
    let s = c.args.state.now.standing in
    let S = stage_of c.args.p.now s in
    let d1 = reduced S (ones (layout_of c.args.p.now)) (at c.args.one.now) in
    let d2 = reduced S (twos (layout_of c.args.p.now)) (at c.args.two.now) in
    elim c.match-branch-2.branch [
      | in-Some w ↦ subst (IsFactorBelow S (place_at s) d1 d2 (c.loop-k.k + 1)) (sym w.m-is) (greater_here S (place_at s) d1 d2 c.loop-k.k c.loop-k.m w.in-Some.q w.greater-m.result w.greater-m.ensures (subst (λ r. IfSome r (IsQuotientAt S (place_at s) d1 d2 c.loop-k.k)) w.in-Some.is c.in_ok-q.ensures.some) c.loop-k.invariant)
      | in_default w ↦ subst (IsFactorBelow S (place_at s) d1 d2 (c.loop-k.k + 1)) (sym w.m-is) (none_here S (place_at s) d1 d2 c.loop-k.k c.loop-k.m (subst (λ r. IfNone r ((q : ℚ) → IsQuotientAt S (place_at s) d1 d2 c.loop-k.k q → ⊥)) w.in_default.is c.in_ok-q.ensures.none) c.loop-k.invariant)
    ]
