use Rattle.std.proofs.Common.{◌<◌, ◌-◌, length, get_or, sym, ap, ◌∙◌, arith}
use Rattle.nf_labels.specs.Labels.{no_node}
use Rattle.nf_labels.proofs.NodeFacts.{of-length, of-at}
use Rattle.nf_labels.proofs.labels.Labels.node.Goals as goal

pub get-requires : goal.get-requires
get-requires c =
    let size = sym (of-length _ _ c.self.invariant.one_each) ∙ ap (λ l. length l.nodes) c.self.view_is in
    omega (arith, size, c.requires.number.0, c.requires.number.1)

pub returns : goal.returns
returns c =
    let size = sym (of-length _ _ c.self.invariant.one_each) ∙ ap (λ l. length l.nodes) c.self.view_is in
    let below : c.args.i - 1 < length c.self.inside.nodes = omega (arith, size, c.requires.number.0, c.requires.number.1) in
    record {
      name = c.get.ensures
          ∙ sym (ap (λ n. n.name) (of-at _ _ (c.args.i - 1) c.self.invariant.one_each below))
          ∙ ap (λ l. (get_or l.nodes (c.args.i - 1) no_node).name) c.self.view_is;
    }
