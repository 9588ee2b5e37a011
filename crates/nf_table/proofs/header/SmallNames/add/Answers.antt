use Rattle.std.proofs.Common.{rules, ◌≡◌, ◌∙◌, ap, not}
use Rattle.std.specs.Str.{str_to_ascii_lowercase}
use Rattle.nf_table.proofs.NameFacts.{among-keys, keys-more}
use Rattle.nf_table.proofs.header.SmallNames.add.Goals as goal

pub returns-clause-tells : goal.returns-clause-tells
returns-clause-tells c =
    let small : c.in_ok-name.name.items ≡ str_to_ascii_lowercase c.args.name.now = search rules in
    rw (← c.self.view_is, ← small) (c.in_ok-is_new.ensures.added ∙ ap not (among-keys (λ v. v.items) c.self.inside.names.keys c.in_ok-name.name.items))

pub returns-clause-added : goal.returns-clause-added
returns-clause-added c =
    let small : c.in_ok-name.name.items ≡ str_to_ascii_lowercase c.args.name.now = search rules in
    rw (← c.self.view_is, ← small) (keys-more (λ v. v.items) c.self.inside.names.keys c.insert.new.self.keys c.in_ok-name.name _ _ c.in_ok-is_new.ensures.added c.in_ok-is_new.ensures.keys)
