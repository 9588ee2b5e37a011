use Rattle.std.proofs.Common.{length, get_or, refl}
use Rattle.nf_network.specs.Keys.{no_key}
use Rattle.nf_network.proofs.Lists.{joined-ones}
use Rattle.nf_network.proofs.labelling.make_labels.Goals as goal

pub label_all-requires-clause-few_arcs : goal.label_all-requires-clause-few_arcs
label_all-requires-clause-few_arcs c =
    let names = joined-ones (length c.args.arcs.keys) (λ k. (get_or c.args.arcs.keys k no_key).name) in
    rw (c.into_labels-labels.ensures, names) c.requires.sound.few_arcs

pub label_all-requires-clause-of_arcs : goal.label_all-requires-clause-of_arcs
label_all-requires-clause-of_arcs c =
    let names = joined-ones (length c.args.arcs.keys) (λ k. (get_or c.args.arcs.keys k no_key).name) in
    rw (c.into_labels-labels.ensures, names) refl

pub returns : goal.returns
returns c = rw c.into_labels-labels.ensures at c.in_ok-label_all.ensures
