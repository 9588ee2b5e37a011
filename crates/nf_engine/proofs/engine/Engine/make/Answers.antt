use Rattle.std.proofs.Common.{◌≡◌, suc, ◌∙◌, ap, subst, sym}
use Rattle.nf_simplex.specs.Changes.{exchanged, flipped}
use Rattle.nf_basis.specs.Kept.{number}
use Rattle.nf_basis.specs.Names.{col_of, place_of}
use Rattle.nf_basis.specs.Numbers.{HasEntryAt, in_slot}
use Rattle.std.proofs.Common.{rules}
use Rattle.nf_engine.specs.Point.{point}
use Rattle.nf_engine.specs.Steps.{IsChange, LeavesQueue}
use Rattle.nf_engine.proofs.StepFacts.{at_point, pivot_made, flip_made}
use Rattle.nf_engine.proofs.engine.Engine.make.Goals as goal

pub pivot-requires-clause-entry : goal.pivot-requires-clause-entry
pivot-requires-clause-entry g c =
    let p = c.args.p.now in
    let old = c.args.self.now in
    let here : c.self.inside.basis ≡ old.basis = search rules in
    let due = subst (IsChange p c.requires.due.0 (g.B.Basis.standing old.basis) c.requires.due.1.0 (g.B.Basis.slots old.basis)) c.in-Pivot.is c.requires.due.1.1.due in
    subst (λ b. HasEntryAt p (g.B.Basis.standing b) (g.B.Basis.slots b) c.in-Pivot.entering c.in-Pivot.slot) (sym here) due.2.entry

pub returns-in_ok-pivot-in-Pivot-clause-made : goal.returns-in_ok-pivot-in-Pivot-clause-made
returns-in_ok-pivot-in-Pivot-clause-made g c = λ rule at due.
    let p = c.args.p.now in
    let old = c.args.self.now in
    let new = c.note.new.self in
    let slots = g.B.Basis.slots old.basis in
    let here : c.self.inside.basis ≡ old.basis = search rules in
    let counted : new.pivots ≡ suc old.pivots = search rules in
    let noted : new.pricing.cursor ≡ suc (number p c.in-Pivot.entering) = search rules in
    let same_queue : new.pricing.queue ≡ old.pricing.queue = search rules in
    let queued : LeavesQueue p rule (g.B.Basis.standing old.basis) at new.pricing.queue = subst (LeavesQueue p rule (g.B.Basis.standing old.basis) at) (sym same_queue) due.queued in
    let kept : new.basis ≡ c.pivot.new.self = search rules in
    let gone : c.basic_at-leaving.result ≡ in_slot slots c.in-Pivot.slot = c.basic_at-leaving.ensures ∙ ap (λ b. in_slot (g.B.Basis.slots b) c.in-Pivot.slot) here in
    let becomes : g.B.Basis.standing new.basis ≡ exchanged p (g.B.Basis.standing old.basis) (col_of c.in-Pivot.entering) (col_of (in_slot slots c.in-Pivot.slot)) (place_of c.in-Pivot.to) =
    ap g.B.Basis.standing kept ∙ (c.in_ok-pivot-in-Pivot.ensures.standing ∙ ap (λ b. exchanged p (g.B.Basis.standing b) (col_of c.in-Pivot.entering) (col_of (in_slot (g.B.Basis.slots b) c.in-Pivot.slot)) (place_of c.in-Pivot.to)) here) in
    pivot_made p rule (at_point (g.B.Basis.standing old.basis) old.pivots at) c.requires.feasible c.in-Pivot.entering (point g.B.Basis.standing new) counted noted queued slots _ (g.met.B.Basis.sound p old.basis c.requires.numbers) c.in-Pivot.slot c.in-Pivot.to c.basic_at-leaving.result
    (subst (IsChange p rule (g.B.Basis.standing old.basis) at slots) c.in-Pivot.is due.due) gone becomes

pub returns-in_ok-pivot-in-Pivot-clause-feasible : goal.returns-in_ok-pivot-in-Pivot-clause-feasible
returns-in_ok-pivot-in-Pivot-clause-feasible g c = (returns-in_ok-pivot-in-Pivot-clause-made g c c.requires.due.0 c.requires.due.1.0 c.requires.due.1.1).1.moves.feasible

pub returns-in_ok-flip-in-Flip-clause-made : goal.returns-in_ok-flip-in-Flip-clause-made
returns-in_ok-flip-in-Flip-clause-made g c = λ rule at due.
    let p = c.args.p.now in
    let old = c.args.self.now in
    let new = c.note-in-Flip.new.self in
    let slots = g.B.Basis.slots old.basis in
    let here : c.self-in-Flip.inside.basis ≡ old.basis = search rules in
    let counted : new.pivots ≡ suc old.pivots = search rules in
    let noted : new.pricing.cursor ≡ suc (number p c.in-Flip.column) = search rules in
    let same_queue : new.pricing.queue ≡ old.pricing.queue = search rules in
    let queued : LeavesQueue p rule (g.B.Basis.standing old.basis) at new.pricing.queue = subst (LeavesQueue p rule (g.B.Basis.standing old.basis) at) (sym same_queue) due.queued in
    let kept : new.basis ≡ c.flip.new.self = search rules in
    let becomes : g.B.Basis.standing new.basis ≡ flipped p (g.B.Basis.standing old.basis) (col_of c.in-Flip.column) = ap g.B.Basis.standing kept ∙ (c.in_ok-flip-in-Flip.ensures.standing ∙ ap (λ b. flipped p (g.B.Basis.standing b) (col_of c.in-Flip.column)) here) in
    flip_made p rule (at_point (g.B.Basis.standing old.basis) old.pivots at) c.requires.feasible c.in-Flip.column (point g.B.Basis.standing new) counted noted queued slots (subst (IsChange p rule (g.B.Basis.standing old.basis) at slots) c.in-Flip.is due.due) becomes

pub returns-in_ok-flip-in-Flip-clause-feasible : goal.returns-in_ok-flip-in-Flip-clause-feasible
returns-in_ok-flip-in-Flip-clause-feasible g c = (returns-in_ok-flip-in-Flip-clause-made g c c.requires.due.0 c.requires.due.1.0 c.requires.due.1.1).1.moves.feasible
