use Rattle.std.proofs.Common.{ap, ◌∙◌, subst, sym}
use Rattle.nf_view.specs.Keys.{AreJoined, both_ways, kept_from}
use Rattle.nf_view.proofs.Spanning.{joined_as}
use Rattle.nf_view.proofs.view.tree_view.Goals as goal

pub grow-requires-clause-joined : goal.grow-requires-clause-joined
grow-requires-clause-joined c =
    subst (λ n. AreJoined n c.as_slice-2.result.now) (sym c.node_count-n.ensures.number)
    (joined_as c.args.p.now c.args.state.now.standing c.requires.state.problem c.requires.basis c.in_ok-links.links.items c.as_slice-2.result.now c.in_ok-links.ensures.links
    (c.as_slice-2.ensures.value ∙ (c.in_ok-keys.ensures.kept ∙ ap (λ es. both_ways (kept_from (λ v. v) es)) c.as_slice.ensures.value)))
