use Rattle.std.proofs.Common.{◌↔◌, IsTrue, not, subst, sym}
use Rattle.nf_simplex.specs.Starts.{TakesSlack}
use Rattle.nf_stage_two.proofs.SideRests.{not_below}
use Rattle.nf_stage_two.proofs.start.takes_slack.Goals as goal

pub returns-in-Le : goal.returns-in-Le
returns-in-Le c lacks sign = subst (λ k. IsTrue (not c.args.below) ↔ TakesSlack k lacks) (sym c.in-Le.is) (not_below c.args.below lacks sign)
