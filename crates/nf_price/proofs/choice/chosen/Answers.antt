use Rattle.std.proofs.Common.{subst, sym}
use Rattle.std.specs.Prelude.{IfOk, IfSome}
use Rattle.nf_price.specs.Queue.{pricing}
use Rattle.nf_price.specs.Rules.{rule_of}
use Rattle.nf_price.specs.Wanted.{IsChosen}
use Rattle.nf_price.proofs.ScanFacts.{best_found}
use Rattle.nf_price.proofs.choice.chosen.Goals as goal

pub returns-in-Best-clause-some : goal.returns-in-Best-clause-some
returns-in-Best-clause-some g c =
    let p = c.args.p.now in
    let s = c.args.state.now.standing in
    subst (λ r. IfOk c.greatest_wanted.result (λ x. IfSome x (IsChosen p s c.args.phase c.args.one.now c.args.two.now (rule_of r) (pricing c.args.cursor c.args.queue.now)))) (sym c.in-Best.is)
    (best_found p s c.args.phase c.args.one.now c.args.two.now (pricing c.args.cursor c.args.queue.now) c.greatest_wanted.result c.greatest_wanted.ensures.best)
