use Rattle.std.proofs.Common.{◌≡◌, ◌<◌, ◌≤◌, ◌∙◌, ◌++◌, ◌∷◌, [], true, false, length, nat_lt, refl, sym, ap, arith}
use Rattle.std.proofs.lemmas.List.{length-append}
use Rattle.nf_cells.specs.Names.{has_name}
use Rattle.nf_cons.proofs.NamingFacts.{absent-place, place-tells-there}
use Rattle.nf_cons_sparse.specs.LineState.{no_given}
use Rattle.nf_cons_sparse.proofs.first_round.Lines.name_row.Goals as goal

pub returns-then-number-len : goal.returns-then-number-len
returns-then-number-len c =
    let each : length c.self.inside.given.items ≡ length c.self.inside.names = rw (← c.self.view_is) at c.requires.each in
    let below : c.in-Ok.number < length c.self.inside.given.items = grind (arith, c.if-number-len.true, c.len.ensures) in
    let less : nat_lt c.in-Ok.number (length c.self.inside.names) ≡ true = grind (arith, below, each) in
    let there : has_name c.in-Is.name.now c.self.inside.names ≡ true =
    sym (place-tells-there c.in-Is.name.now c.self.inside.names) ∙ ap (λ i. nat_lt i (length c.self.inside.names)) (sym c.in-Ok.ensures.place) ∙ less in
    rw (← c.self.view_is, c.in-Is.is, c.in-Ok.ensures.names, there) (refl, c.in-Ok.ensures.place, below, refl)

pub returns : goal.returns
returns c =
    let each : length c.self.inside.given.items ≡ length c.self.inside.names = rw (← c.self.view_is) at c.requires.each in
    let above : length c.self.inside.given.items ≤ c.in-Ok.number = grind (arith, c.if-number-len.false, c.len.ensures) in
    let more : nat_lt c.in-Ok.number (length c.self.inside.names) ≡ false = grind (arith, above, each) in
    let absent : has_name c.in-Is.name.now c.self.inside.names ≡ false =
    sym (place-tells-there c.in-Is.name.now c.self.inside.names) ∙ ap (λ i. nat_lt i (length c.self.inside.names)) (sym c.in-Ok.ensures.place) ∙ more in
    let end = c.in-Ok.ensures.place ∙ absent-place c.in-Is.name.now c.self.inside.names absent in
    let all = length-append c.self.inside.given.items (no_given ∷ []) in
    let below : c.in-Ok.number < length (c.self.inside.given.items ++ no_given ∷ []) = grind (arith, all, end, each) in
    rw (← c.self.view_is, c.in-Is.is, c.in-Ok.ensures.names, c.in-Ok-push.ensures.items, absent) (refl, c.in-Ok.ensures.place, below, refl)
