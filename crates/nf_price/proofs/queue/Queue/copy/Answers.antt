use Rattle.std.proofs.Common.{◌<◌, ◌∙◌, ap, length, take, subst, sym, slice_index_or}
use Rattle.nf_price.specs.Queue.{IsAmong}
use Rattle.nf_price.proofs.QueueFacts.{not_before_itself}
use Rattle.nf_price.proofs.queue.Queue.copy.Goals as goal

pub push-requires-clause-fresh : goal.push-requires-clause-fresh
push-requires-clause-fresh c = λ a.
    let xs = c.items.result.now in
    let k = c.loop-k.k in
    let below = subst (λ ys. k < length ys) (c.items-k-end.ensures.value ∙ sym c.items.ensures.value) c.loop-k-test.true in
    not_before_itself k 0 xs c.items.ensures.distinct below (subst (λ ys. IsAmong (slice_index_or xs k 0) ys) (c.loop-k.invariant.copied ∙ ap (take k) (sym c.items.ensures.value)) a)
