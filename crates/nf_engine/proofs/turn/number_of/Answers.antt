use Rattle.std.proofs.Common.{◌-◌, subst, arith}
use Rattle.nf_simplex.specs.Layout.{layout_of}
use Rattle.nf_basis.specs.Kept.{IsPresent}
use Rattle.nf_engine.proofs.StepFacts.{slack_there}
use Rattle.nf_engine.proofs.turn.number_of.Goals as goal

pub overflow_add-result : goal.overflow_add-result
overflow_add-result c =
    let s = c.requires.present.0 in
    let h = slack_there (layout_of c.args.p.now) s.stage (c.in-Slack.i - 1) (subst (IsPresent c.args.p.now s) c.in-Slack.is c.requires.present.1).1 in
    omega (arith, h.0, h.1, c.columns-columns.ensures.few, c.rows-rows.ensures.few, c.rows-rows.ensures.number, c.nodes-nodes.ensures.number)
