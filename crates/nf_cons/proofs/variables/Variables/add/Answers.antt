use Rattle.std.proofs.Common.{◌≡◌, ◌<◌, ◌≤◌, ◌∙◌, false, length, sym, ap, arith}
use Rattle.nf_cells.specs.Names.{has_name}
use Rattle.nf_cells.proofs.SeenFacts.{there}
use Rattle.nf_cons.specs.Naming.{VariableList}
use Rattle.nf_cons.specs.Variables.{most_nonarcs}
use Rattle.nf_cons.proofs.NamingFacts.{add-full, add-new, add-old, not-found}
use Rattle.nf_cons.proofs.variables.Variables.add.Goals as goal

pub returns-in-Some-clause-answer : goal.returns-in-Some-clause-answer
returns-in-Some-clause-answer c =
    let v : VariableList = record { arcs = c.self.inside.arcs; nonarcs = c.self.inside.nonarcs; homes = c.self.inside.homes.items } in
    let found = there c.args.name.now c.self.inside.nonarcs c.in-Some.number (sym c.find.ensures.number ∙ c.in-Some.is) in
    rw (← c.self.view_is) (add-old v c.args.name.now c.args.home c.in-Some.number c.len.result (rw (← c.self.view_is) at c.requires.sound.few_nonarcs) found.0 found.1 c.len.ensures)

pub returns-then-len-ge-MOST_NONARCS-clause-answer : goal.returns-then-len-ge-MOST_NONARCS-clause-answer
returns-then-len-ge-MOST_NONARCS-clause-answer c =
    let v : VariableList = record { arcs = c.self.inside.arcs; nonarcs = c.self.inside.nonarcs; homes = c.self.inside.homes.items } in
    let absent = not-found c.args.name.now c.self.inside.nonarcs (sym c.find.ensures.number ∙ c.in_default.is) in
    let full : most_nonarcs ≤ length c.self.inside.nonarcs = omega (arith, c.len-2.ensures.length, c.if-len-ge-MOST_NONARCS.true) in
    rw (← c.self.view_is, c.at.ensures) (add-full v c.args.name.now c.args.home full absent)

pub append-requires-clause-new : goal.append-requires-clause-new
append-requires-clause-new c = rw (← c.self.view_is) (not-found c.args.name.now c.self.inside.nonarcs (sym c.find.ensures.number ∙ c.in_default.is))

pub returns-in-Ok-clause-answer : goal.returns-in-Ok-clause-answer
returns-in-Ok-clause-answer c =
    let absent : has_name c.args.name.now c.args.self.now.nonarcs ≡ false = rw (← c.self.view_is) (not-found c.args.name.now c.self.inside.nonarcs (sym c.find.ensures.number ∙ c.in_default.is)) in
    let size : length c.self.inside.nonarcs ≡ length c.args.self.now.nonarcs = ap (λ v. length v.nonarcs) c.self.view_is in
    let few : length c.args.self.now.nonarcs < most_nonarcs = omega (arith, size, c.len-2.ensures.length, c.if-len-ge-MOST_NONARCS.false) in
    add-new c.args.self.now c.append.new.self c.args.name.now c.args.home c.in-Ok.number few absent c.in-Ok.ensures.number c.in-Ok.ensures.added
