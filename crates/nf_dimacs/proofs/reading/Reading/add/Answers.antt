use Rattle.std.proofs.Common.{◌≡◌, ◌+ℤ◌, ◌∙◌, ap, refl, length, drop, rules}
use Rattle.std.proofs.lemmas.List.{take_at}
use mir.Syntax.{w64}
use mir.Val.{to_z, of_z}
use Rattle.nf_dimacs.specs.declared.line.Line.TheVariants.{Skipped, Problem, Node, Arc as ArcLine}
use Rattle.nf_dimacs.proofs.SayFacts.{say-nothing, say-arc, say-size, say-supply}
use Rattle.nf_dimacs.proofs.reading.Reading.add.Goals as goal

pub returns-in_ok-self-in-Problem-Some-clause-say : goal.returns-in_ok-self-in-Problem-Some-clause-say
returns-in_ok-self-in-Problem-Some-clause-say c = λ before say.
    let counts = rw c.in-Problem-Some.is at c.in-Problem-Some.field-0-is in
    let line = c.in-Problem-Some.is ∙ ap Problem counts in
    let sound = rw line at c.requires.sound in
    rw (line, c.in_ok-self-in-Problem-Some.ensures)
    (say-size before _ _ _ _ say c.in-Problem-Some.size sound)

pub returns-in-Node-Some-clause-say : goal.returns-in-Node-Some-clause-say
returns-in-Node-Some-clause-say c = λ before say.
    let supply = rw c.in-Node-Some.is at c.in-Node-Some.field-0-is in
    let line = c.in-Node-Some.is ∙ ap Node supply in
    let sound = rw line at c.requires.sound in
    let long : length c.give.new.supplies ≡ c.args.self.now.supplies.len = search rules in
    let items = take_at c.give.new.supplies (drop (length c.give.new.supplies) c.args.self.now.supplies.items) c.args.self.now.supplies.len long in
    let total : to_z w64 (of_z w64 (to_z w64 (of_z w64 c.args.self.now.balance) +ℤ to_z w64 (of_z w64 c.from.result))) ≡ c.args.self.now.balance +ℤ c.in-Node-Some.supply.flow = search rules in
    rw (line, items, c.give.ensures, c.deref_mut.ensures.value, total)
    (say-supply before _ _ _ _ say c.in-Node-Some.supply sound)

pub returns-in_ok-push-in-Arc-Some-clause-say : goal.returns-in_ok-push-in-Arc-Some-clause-say
returns-in_ok-push-in-Arc-Some-clause-say c = λ before say.
    let arc = rw c.in-Arc-Some.is at c.in-Arc-Some.field-0-is in
    let line = c.in-Arc-Some.is ∙ ap ArcLine arc in
    rw (line, c.in_ok-push-in-Arc-Some.ensures.items) (say-arc before _ _ _ _ say c.in-Arc-Some.arc)

pub returns-in-Skipped-clause-say : goal.returns-in-Skipped-clause-say
returns-in-Skipped-clause-say c = λ before say. rw c.in-Skipped.is (say-nothing before _ _ _ _ say Skipped refl refl refl)
