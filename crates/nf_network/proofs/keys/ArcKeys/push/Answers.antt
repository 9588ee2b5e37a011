use Rattle.std.proofs.Common.{◌++◌, ◌∷◌, [], length, sym, ap, ◌∙◌, arith}
use Rattle.std.proofs.lemmas.List.{length-append}
use Rattle.nf_network.proofs.RepeatFacts.{alone-more, of-length, of-push}
use Rattle.nf_network.proofs.keys.ArcKeys.push.Goals as goal

pub push_arc-requires-clause-room : goal.push_arc-requires-clause-room
push_arc-requires-clause-room c =
    let size = sym (of-length _ _ c.self.invariant.one_each) ∙ ap length c.self.view_is in
    omega (arith, size, c.requires, c.self.invariant.one_each)

pub invariant_of-self-in-Ok : goal.invariant_of-self-in-Ok
invariant_of-self-in-Ok c =
    let inv = c.self.invariant in
    let size = sym (of-length _ _ inv.one_each) ∙ ap length c.self.view_is in
    let ends = ap length c.in_ok-push.ensures.items ∙ length-append c.self.inside.ends.items ((c.args.tail, c.args.head) ∷ []) in
    let names = ap (λ l. length l.columns) c.in-Ok.ensures.added ∙ length-append c.self.inside.labels.columns (c.args.name.now ∷ []) in
    record {
      one_each = omega (arith, inv.one_each, ends, names);
      alone = alone-more _ _ c.args.name.now inv.alone c.in-Ok.ensures.added;
      few = omega (arith, names, size, c.requires, inv.one_each);
    }

pub returns-in-Ok-clause-added : goal.returns-in-Ok-clause-added
returns-in-Ok-clause-added c =
    rw (c.in_ok-push.ensures.items, c.in-Ok.ensures.added) (of-push _ _ c.args.tail c.args.head c.args.name.now c.self.invariant.one_each ∙ ap (λ ks. ks ++ record { tail = c.args.tail; head = c.args.head; name = c.args.name.now } ∷ []) c.self.view_is)
