use Rattle.std.proofs.Common.{subst, sym}
use Rattle.nf_price.specs.Queue.{AreDistinct, IsAmong}
use Rattle.nf_price.proofs.QueueFacts.{distinct_more}
use Rattle.nf_price.proofs.queue.Queue.push.Goals as goal

pub invariant_of-self : goal.invariant_of-self
invariant_of-self c = subst AreDistinct (sym c.push.ensures.items) (distinct_more c.args.number c.self.inside.items.items c.self.invariant (subst (λ xs. IsAmong c.args.number xs → ⊥) (sym c.self.view_is) c.requires.fresh))
