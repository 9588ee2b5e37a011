use Rattle.std.proofs.Common.{◌∙◌, ◌++◌, ◌∷◌, [], not, sym, ap, map}
use Rattle.nf_network.specs.Keys.{has_key}
use Rattle.nf_network.proofs.KeyFacts.{any-map, key-added}
use Rattle.nf_network.proofs.key_set.KeySet.add.Goals as goal

pub returns-clause-is_new : goal.returns-clause-is_new
returns-clause-is_new c =
    c.in_ok-is_new.ensures.added
    ∙ ap not (sym (any-map (λ a. record { tail = a.0; head = a.1; name = a.2 }) (record { tail = c.args.tail; head = c.args.head; name = c.args.name }) c.self.inside.set.keys)
    ∙ ap (has_key (record { tail = c.args.tail; head = c.args.head; name = c.args.name })) c.self.view_is)

pub returns-clause-added : goal.returns-clause-added
returns-clause-added c = λ new.
    ap (map (λ a. record { tail = a.0; head = a.1; name = a.2 })) c.in_ok-is_new.ensures.keys
    ∙ key-added (λ a. record { tail = a.0; head = a.1; name = a.2 }) (c.args.tail, c.args.head, c.args.name) c.self.inside.set.keys (ap (has_key (record { tail = c.args.tail; head = c.args.head; name = c.args.name })) c.self.view_is ∙ new)
    ∙ ap (λ ks. ks ++ record { tail = c.args.tail; head = c.args.head; name = c.args.name } ∷ []) c.self.view_is
