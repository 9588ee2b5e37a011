use Rattle.std.proofs.Common.{◌<◌, length, get_or, sym, ap, ◌∙◌, arith}
use Rattle.nf_network.specs.Keys.{no_key}
use Rattle.nf_network.proofs.RepeatFacts.{of-at, of-length}
use Rattle.nf_network.proofs.keys.ArcKeys.ends.Goals as goal

pub index-requires : goal.index-requires
index-requires c =
    let size = sym (of-length _ _ c.self.invariant.one_each) ∙ ap length c.self.view_is in
    omega (arith, size, c.requires)

pub returns-clause-tail : goal.returns-clause-tail
returns-clause-tail c =
    let size = sym (of-length _ _ c.self.invariant.one_each) ∙ ap length c.self.view_is in
    let below : c.args.i < length c.self.inside.ends.items = omega (arith, size, c.requires) in
    ap (λ e. e.0) c.index.ensures ∙ sym (ap (λ k. k.tail) (of-at _ _ c.args.i c.index.result.now c.self.invariant.one_each below)) ∙ ap (λ ks. (get_or ks c.args.i no_key).tail) c.self.view_is

pub returns-clause-head : goal.returns-clause-head
returns-clause-head c =
    let size = sym (of-length _ _ c.self.invariant.one_each) ∙ ap length c.self.view_is in
    let below : c.args.i < length c.self.inside.ends.items = omega (arith, size, c.requires) in
    ap (λ e. e.1) c.index.ensures ∙ sym (ap (λ k. k.head) (of-at _ _ c.args.i c.index.result.now c.self.invariant.one_each below)) ∙ ap (λ ks. (get_or ks c.args.i no_key).head) c.self.view_is
