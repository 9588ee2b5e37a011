use Rattle.std.proofs.Common.{◌∙◌}
use Rattle.nf_duals.proofs.PricedFacts.{slack_by_kind, slack_eq, slack_le, slack_ge}
use Rattle.nf_duals.proofs.priced.slack_cost.Goals as goal

pub returns-in-Eq : goal.returns-in-Eq
returns-in-Eq c = slack_by_kind _ _ c.args.dual _ c.in-Eq.is (c.zero.ensures ∙ slack_eq c.args.dual)

pub returns-in-Le : goal.returns-in-Le
returns-in-Le c = slack_by_kind _ _ c.args.dual _ c.in-Le.is (c.neg.ensures ∙ slack_le c.args.dual)

pub returns-in-Ge : goal.returns-in-Ge
returns-in-Ge c = slack_by_kind _ _ c.args.dual _ c.in-Ge.is (slack_ge c.args.dual)
