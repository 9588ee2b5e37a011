use Rattle.std.proofs.Common.{length, get_or, refl, sym, ap, ◌∙◌}
use Rattle.nf_network.specs.Excess.{joined_below}
use Rattle.nf_network.specs.Making.{name_at}
use Rattle.nf_network.specs.Keys.{no_key}
use Rattle.nf_network.proofs.Lists.{joined-ones}
use Rattle.nf_network.proofs.RepeatFacts.{of-names}
use Rattle.nf_network.proofs.keys.ArcKeys.into_labels.Goals as goal

pub returns : goal.returns
returns c =
    let inv = c.self.invariant in
    let own = joined-ones (length c.args.self) (λ k. (get_or c.args.self k no_key).name) in
    let names = sym (of-names _ _ inv.one_each) ∙ ap (λ ks. joined_below (length ks) (name_at ks)) c.self.view_is in
    inv.alone ∙ rw (names, own) refl
