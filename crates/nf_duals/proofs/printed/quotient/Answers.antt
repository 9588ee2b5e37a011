use Rattle.std.proofs.Common.{◌≢◌, rules, ℕ, ◌+◌, ◌<◌, refl, arith}
use Rattle.nf_num.specs.Rational.{zero_ℚ}
use Rattle.nf_sums.proofs.Up.{handed_on}
use Rattle.nf_simplex.specs.Columns.{all_columns}
use Rattle.nf_simplex.specs.Layout.{Layout, layout_of}
use Rattle.nf_duals.proofs.PrintedFacts.{quotient_passed_in}
use Rattle.nf_duals.proofs.printed.quotient.Goals as goal

within_all : (l : Layout) (k : ℕ) → k < l.columns + l.sides → k < all_columns l
within_all l k h = omega arith

pub returns-in_err-q-clause-passed : goal.returns-in_err-q-clause-passed
returns-in_err-q-clause-passed g c =
    let s = c.args.state.now.standing in
    let not_zero : c.in_ok-d1.d1 ≢ zero_ℚ = search rules in
    handed_on c.from_residual-in_err-q.result _ _ c.from_residual-in_err-q.ensures.1
    (quotient_passed_in c.args.p.now s c.args.one.now c.args.two.now c.args.k c.neg.result c.in_ok-d1.d1 c.in_ok-d1.d1 c.in_ok-d2.d2 c.in_err-q.field-0.0 (within_all (layout_of c.args.p.now) c.args.k c.requires.within) c.requires.ended c.requires.one.are_duals c.requires.two.are_duals not_zero (c.in_ok-d1.ensures.value s c.requires.one.places) (c.in_ok-d2.ensures.value s c.requires.two.places) c.neg.ensures refl c.in_err-q.ensures.passed)
