use Rattle.std.proofs.Common.{◌≡◌, length, sym, ap, ◌∙◌, rules}
use Rattle.nf_network.proofs.RepeatFacts.{of-length}
use Rattle.nf_network.proofs.keys.ArcKeys.len.Goals as goal

pub returns : goal.returns
returns c =
    let ends : c.len.result ≡ length c.self.inside.ends.items = search rules in
    ends ∙ sym (of-length _ _ c.self.invariant.one_each) ∙ ap length c.self.view_is
