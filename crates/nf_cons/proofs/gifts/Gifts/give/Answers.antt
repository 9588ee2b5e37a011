use Rattle.std.proofs.Common.{◌∙◌, ◌++◌, ◌∷◌, [], nat_eq, ap}
use Rattle.indexmap.proofs.CallerLemmas.{insert_entry-new}
use Rattle.nf_cons.specs.Terms.{is_given}
use Rattle.nf_cons.proofs.TermFacts.{none-given}
use Rattle.nf_cons.proofs.gifts.Gifts.give.Goals as goal

pub returns-clause-added : goal.returns-clause-added
returns-clause-added c = λ none.
    c.in-Ok.ensures.entries
    ∙ insert_entry-new nat_eq c.self.inside.map c.args.variable (c.args.value, c.args.row) (none-given c.args.variable c.self.inside.map.entries (ap (λ gs. is_given c.args.variable gs) c.self.view_is ∙ none))
    ∙ ap (λ gs. gs ++ (c.args.variable, (c.args.value, c.args.row)) ∷ []) c.self.view_is
