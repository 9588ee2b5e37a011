use Rattle.std.proofs.Common.{◌≡◌, ◌∙◌, ◌<◌, length, refl, arith}
use Rattle.std.proofs.lemmas.List.{get_or_read_under}
use Rattle.nf_num.specs.Rational.{zero_ℚ}
use Rattle.nf_model.specs.Program.{at}
use Rattle.nf_sums.proofs.Up.{handed_on}
use Rattle.nf_duals.proofs.PrintedFacts.{printed_passed}
use Rattle.nf_duals.proofs.printed.add_multiple.Goals as goal

pub returns-in_err-two-clause-passed : goal.returns-in_err-two-clause-passed
returns-in_err-two-clause-passed g c =
    let i = c.loop-i.i in
    let below : c.loop-i.i < length c.args.two.now = c.loop-i-test.true in
    let there : c.loop-i.i < length c.loop-i.two = omega (arith, below, c.loop-i.invariant.as_many) in
    let two : c.index-two-i.result ≡ at c.loop-i.two c.loop-i.i = get_or_read_under c.loop-i.two i (length c.loop-i.two) _ zero_ℚ c.index-two-i.is there refl in
    let here : c.loop-i.i < length c.args.one.now = omega (arith, below, c.requires.places) in
    let one : c.index-one-i.result ≡ at c.args.one.now c.loop-i.i = get_or_read_under c.args.one.now i (length c.args.one.now) _ zero_ℚ c.index-one-i.is here refl in
    handed_on c.from_residual.result _ _ c.from_residual.ensures.1
    (printed_passed c.args.m c.args.one.now c.args.two.now i c.index-two-i.result c.index-one-i.result c.in_err-two.field-0.0 below (two ∙ c.loop-i.invariant.members.left i (omega arith)) one c.in_err-two.ensures.passed)
