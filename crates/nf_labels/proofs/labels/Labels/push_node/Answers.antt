use Rattle.std.proofs.Common.{◌++◌, ◌∷◌, [], length, sym, ap, ◌∙◌, arith}
use Rattle.std.proofs.lemmas.List.{length-append}
use Rattle.nf_labels.specs.Labels.{LabelList}
use Rattle.nf_labels.proofs.NodeFacts.{of-length, of-push}
use Rattle.nf_labels.proofs.labels.Labels.push_node.Goals as goal

pub invariant_of-self-in-Ok : goal.invariant_of-self-in-Ok
invariant_of-self-in-Ok c =
    let inv = c.self.invariant in
    let size = sym (of-length _ _ c.self.invariant.one_each) ∙ ap (λ l. length l.nodes) c.self.view_is in
    let names = ap length c.in_ok-push.ensures.added ∙ length-append c.self.inside.nodes (c.args.name.now ∷ []) in
    let supdems = ap length c.in-Ok.ensures.added ∙ length-append c.self.inside.supdems (c.args.supdem.now ∷ []) in
    record {
      one_each = omega (arith, inv.one_each, names, supdems);
      nodes = omega (arith, names, size, c.requires.room);
      columns = inv.columns;
      arcs = inv.arcs;
      headers = inv.headers;
    }

pub returns-in-Ok-clause-added : goal.returns-in-Ok-clause-added
returns-in-Ok-clause-added c =
    let with_node : LabelList → LabelList = λ l. record l { nodes = l.nodes ++ record { name = c.args.name.now; supdem = c.args.supdem.now } ∷ [] } in
    rw (c.in_ok-push.ensures.added, c.in-Ok.ensures.added, of-push _ _ c.args.name.now c.args.supdem.now c.self.invariant.one_each)
    (ap with_node c.self.view_is)
