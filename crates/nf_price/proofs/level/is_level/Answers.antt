use Rattle.std.proofs.Common.{◌≡◌, ◌∙◌, arith, length, sym}
use Rattle.std.proofs.lemmas.List.{get_or_read}
use Rattle.nf_num.specs.Rational.{zero_ℚ}
use Rattle.nf_model.specs.Program.{at}
use Rattle.nf_price.proofs.LevelFacts.{level_more, level_whole}
use Rattle.nf_price.proofs.level.is_level.Goals as goal

pub loop-i-preserved : goal.loop-i-preserved
loop-i-preserved c =
    let duals = c.args.duals.now in
    let here : c.index-duals-i.result ≡ at duals c.loop-i.i = get_or_read duals c.loop-i.i c.index-duals-i.result c.loop-i-test.true c.index-duals-i.is zero_ℚ in
    let same : c.index-duals-i.result ≡ c.level_at.result = c.is_same.ensures c.if-not-is_same.false in
    let number = c.nodes-nodes.ensures.number in
    level_more c.args.p.now duals c.loop-i.i (λ h. sym here ∙ (same ∙ c.level_at.ensures.node (omega (arith, number, h)))) (λ h. sym here ∙ (same ∙ c.level_at.ensures.side (omega (arith, number, h)))) c.loop-i.invariant

pub returns : goal.returns
returns c = λ t. level_whole c.args.p.now c.args.duals.now c.loop-i.i (let e : c.loop-i.i ≡ length c.args.duals.now = omega arith in e) c.requires.nodes c.loop-i.invariant
