use Rattle.nf_model.specs.Program.{at}
use Rattle.nf_simplex.specs.Columns.{ones, twos}
use Rattle.nf_simplex.specs.Layout.{layout_of}
use Rattle.nf_simplex.specs.Numbers.{reduced}
use Rattle.nf_simplex.specs.Standing.{place_at, stage_of}
use Rattle.nf_duals.specs.Factor.{IsFactorBelow}
use Rattle.nf_duals.proofs.printed.factor.Given as goal

abbrev pub invariant-loop-k : goal.invariant-loop-k
invariant-loop-k g l =
    let s = l.state.standing in
    IsFactorBelow (stage_of l.p s) (place_at s) (reduced (stage_of l.p s) (ones (layout_of l.p)) (at l.one)) (reduced (stage_of l.p s) (twos (layout_of l.p)) (at l.two)) l.k l.m
