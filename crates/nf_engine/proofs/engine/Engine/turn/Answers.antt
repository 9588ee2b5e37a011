use Rattle.std.proofs.Common.{◌≡◌, ◌<◌, ◌≤◌, ◌∙◌, false, ap, subst, subst₂, sym, refl, rules}
use Rattle.nf_sums.specs.Terms.{PassesIn}
use Rattle.nf_sums.proofs.Up.{handed_on}
use Rattle.nf_basis.specs.Arising.{StateTerms}
use Rattle.nf_price.specs.Choice.{TellsShort}
use Rattle.nf_engine.specs.declared.halt.Halt.TheVariants.{Ended, Limit}
use Rattle.nf_price.specs.Queue.{pricing}
use Rattle.nf_engine.specs.Point.{point}
use Rattle.nf_engine.specs.Run.{Halts, IsHaltDue}
use Rattle.nf_engine.specs.Run.Halts.{ended}
use Rattle.nf_engine.specs.Steps.{HasEnded, IsTurn, StepsBy}
use Rattle.nf_engine.proofs.StepFacts.{at_point, change_same, due_same, ended_same, left_ended, left_stays, point_same, pricing_same}
use Rattle.nf_engine.proofs.RunFacts.{limit_due, passes_here, stepped}
use Rattle.nf_engine.proofs.SumFacts.{still_met}
use Rattle.nf_engine.proofs.engine.Engine.turn.Goals as goal

pub returns-in_err-due-clause-passed : goal.returns-in_err-due-clause-passed
returns-in_err-due-clause-passed g c =
    let old = c.args.self.now in
    let basis : c.self.inside.basis ≡ old.basis = search rules in
    let pivots : old.pivots ≡ c.self.inside.pivots = search rules in
    handed_on c.from_residual.result c.in_err-due.field-0.0 _ c.from_residual.ensures.1
    (passes_here c.args.p.now c.args.rule c.args.most c.args.pauses.now (point g.B.Basis.standing old) c.self.inside.pivots c.in_err-due.field-0.0 pivots (subst (λ b. PassesIn (StateTerms c.args.p.now (g.B.Basis.standing b)) c.in_err-due.field-0.0) basis c.in_err-due.ensures.passed))

pub make-requires-clause-due : goal.make-requires-clause-due
make-requires-clause-due g c =
    let old = c.self.inside in (
      c.args.rule,
      (pricing old.cursor old.queue, due_same c.args.p.now c.args.rule (g.B.Basis.standing old.basis) (g.B.Basis.standing c.look.new.basis) (pricing old.cursor old.queue) (g.B.Basis.slots old.basis) (g.B.Basis.slots c.look.new.basis) c.in_ok-due.due.turn c.in-Changes.change c.may_move-moves.result (pricing old.cursor c.look.new.queue) c.in_ok-due.ensures.standing c.in_ok-due.ensures.slots c.in-Changes.is c.if-not-moves.false c.in_ok-due.ensures.turn c.in_ok-due.ensures.left),
    )

pub returns-in-Ended-clause-turn : goal.returns-in-Ended-clause-turn
returns-in-Ended-clause-turn g c =
    let old = c.args.self.now in
    let here = c.self.inside in
    let basis : here.basis ≡ old.basis = search rules in
    let pivots : here.pivots ≡ old.pivots = search rules in
    let cursor : pricing here.cursor here.queue ≡ old.pricing = search rules in
    let same : at_point (g.B.Basis.standing c.look.new.basis) here.pivots (pricing here.cursor c.look.new.queue) ≡ point g.B.Basis.standing old =
    point_same _ _ _ _ _ _ (c.in_ok-due.ensures.standing ∙ ap g.B.Basis.standing basis) pivots (pricing_same _ _ _ _ refl (left_ended c.args.p.now c.args.rule (g.B.Basis.standing here.basis) (pricing here.cursor here.queue) c.may_move-moves.result c.in_ok-due.due.turn c.in-Ended.ended c.look.new.queue c.in-Ended.is c.in_ok-due.ensures.left) ∙ cursor) in
    subst (λ b. Halts c.args.p.now c.args.rule c.args.most c.args.pauses.now (point g.B.Basis.standing old) (Ended c.in-Ended.ended) b) (sym same)
    (ended c.in-Ended.ended (subst₂ (λ b k. HasEnded c.args.p.now c.args.rule (g.B.Basis.standing b) k c.in-Ended.ended) basis cursor (ended_same c.args.p.now c.args.rule (g.B.Basis.standing here.basis) (pricing here.cursor here.queue) (g.B.Basis.slots here.basis) c.in_ok-due.due.turn c.in-Ended.ended c.in-Ended.is c.in_ok-due.ensures.turn)))

pub returns-then-not-moves-clause-turn : goal.returns-then-not-moves-clause-turn
returns-then-not-moves-clause-turn g c =
    let p = c.args.p.now in
    let old = c.args.self.now in
    let here = c.self.inside in
    let basis : here.basis ≡ old.basis = search rules in
    let pivots : here.pivots ≡ old.pivots = search rules in
    let cursor : pricing here.cursor here.queue ≡ old.pricing = search rules in
    let past : c.args.most ≤ here.pivots = c.may_move-moves.ensures.no c.if-not-moves.true in
    let same : at_point (g.B.Basis.standing c.look.new.basis) here.pivots (pricing here.cursor c.look.new.queue) ≡ point g.B.Basis.standing old =
    point_same _ _ _ _ _ _ (c.in_ok-due.ensures.standing ∙ ap g.B.Basis.standing basis) pivots (pricing_same _ _ _ _ refl (left_stays p c.args.rule (g.B.Basis.standing here.basis) (pricing here.cursor here.queue) c.may_move-moves.result c.in_ok-due.due.turn c.look.new.queue c.if-not-moves.true c.in_ok-due.ensures.left) ∙ cursor) in
    let turn = subst₂ (λ b k. IsTurn p c.args.rule (g.B.Basis.standing b) k (g.B.Basis.slots b) c.in_ok-due.due.turn) basis cursor c.in_ok-due.ensures.turn in
    subst (λ b. Halts p c.args.rule c.args.most c.args.pauses.now (point g.B.Basis.standing old) Limit b) (sym same)
    (limit_due p c.args.rule c.args.most c.args.pauses.now (point g.B.Basis.standing old) c.requires.feasible (g.B.Basis.slots old.basis) c.in-Changes.change
    (change_same p c.args.rule (g.B.Basis.standing old.basis) (g.B.Basis.standing old.basis) old.pricing (g.B.Basis.slots old.basis) (g.B.Basis.slots old.basis) c.in_ok-due.due.turn c.in-Changes.change refl refl c.in-Changes.is turn)
    (subst (λ n. c.args.most ≤ n) pivots past))

pub returns-in_err-make-in-Changes-clause-passed : goal.returns-in_err-make-in-Changes-clause-passed
returns-in_err-make-in-Changes-clause-passed g c =
    let old = c.args.self.now in
    let here = c.self.inside in
    let basis : here.basis ≡ old.basis = search rules in
    let pivots : old.pivots ≡ here.pivots = search rules in
    let e = c.in_err-make-in-Changes.field-0.0 in
    handed_on c.from_residual-in_err-make-in-Changes.result e _ c.from_residual-in_err-make-in-Changes.ensures.1
    (passes_here c.args.p.now c.args.rule c.args.most c.args.pauses.now (point g.B.Basis.standing old) c.make.new.self.pivots e (pivots ∙ sym c.in_err-make-in-Changes.ensures.count) (subst (λ s. PassesIn (StateTerms c.args.p.now s) e) (c.in_ok-due.ensures.standing ∙ ap g.B.Basis.standing basis) c.in_err-make-in-Changes.ensures.passed))

pub returns-in_ok-make-in-Changes-clause-turn : goal.returns-in_ok-make-in-Changes-clause-turn
returns-in_ok-make-in-Changes-clause-turn g c =
    let p = c.args.p.now in
    let old = c.args.self.now in
    let new = c.make.new.self in
    let here = c.self.inside in
    let basis : here.basis ≡ old.basis = search rules in
    let pivots : here.pivots ≡ old.pivots = search rules in
    let cursor : pricing here.cursor here.queue ≡ old.pricing = search rules in
    let same : at_point (g.B.Basis.standing c.look.new.basis) here.pivots (pricing here.cursor here.queue) ≡ point g.B.Basis.standing old =
    point_same _ _ _ _ _ _ (c.in_ok-due.ensures.standing ∙ ap g.B.Basis.standing basis) pivots cursor in
    let made = c.in_ok-make-in-Changes.ensures.made c.args.rule (pricing here.cursor here.queue) (due_same p c.args.rule (g.B.Basis.standing here.basis) (g.B.Basis.standing c.look.new.basis) (pricing here.cursor here.queue) (g.B.Basis.slots here.basis) (g.B.Basis.slots c.look.new.basis) c.in_ok-due.due.turn c.in-Changes.change c.may_move-moves.result (pricing here.cursor c.look.new.queue) c.in_ok-due.ensures.standing c.in_ok-due.ensures.slots c.in-Changes.is c.if-not-moves.false c.in_ok-due.ensures.turn c.in_ok-due.ensures.left) in
    let step : StepsBy p c.args.rule (point g.B.Basis.standing old) made.0 (point g.B.Basis.standing new) = subst (λ a. StepsBy p c.args.rule a made.0 (point g.B.Basis.standing new)) same made.1 in
    let fresh : c.self-in-Changes.inside.basis ≡ new.basis = search rules in
    let count : c.self-in-Changes.inside.pivots ≡ new.pivots = search rules in
    let below : here.pivots < c.args.most = c.may_move-moves.ensures.yes c.if-not-moves.false in
    stepped p c.args.rule c.args.most c.args.pauses.now (point g.B.Basis.standing old) (point g.B.Basis.standing new) made.0 c.in_ok-due.due.short c.halt_due-halt.result c.requires.feasible.feasible.basis step.moves.feasible.feasible.basis
    (subst (λ n. n < c.args.most) pivots below) step (subst (λ b. TellsShort p (g.B.Basis.standing b) c.in_ok-due.due.short) basis c.in_ok-due.ensures.short)
    (subst₂ (λ b n. IsHaltDue p c.args.pauses.now c.in_ok-due.due.short n (g.B.Basis.standing b) c.halt_due-halt.result) fresh count c.halt_due-halt.ensures.due)

pub look-requires-clause-met : goal.look-requires-clause-met
look-requires-clause-met g c e =
    let basis : c.self.inside.basis ≡ c.args.self.now.basis = search rules in
    subst (λ b. TellsShort c.args.p.now (g.B.Basis.standing b) false) (sym basis) (c.requires.met e)

pub returns-then-not-moves-clause-met : goal.returns-then-not-moves-clause-met
returns-then-not-moves-clause-met g c e =
    let basis : c.self.inside.basis ≡ c.args.self.now.basis = search rules in
    subst (λ s. TellsShort c.args.p.now s false) (sym (c.in_ok-due.ensures.standing ∙ ap g.B.Basis.standing basis)) (c.requires.met e)

pub returns-in-Ended-clause-met : goal.returns-in-Ended-clause-met
returns-in-Ended-clause-met g c e =
    let basis : c.self.inside.basis ≡ c.args.self.now.basis = search rules in
    subst (λ s. TellsShort c.args.p.now s false) (sym (c.in_ok-due.ensures.standing ∙ ap g.B.Basis.standing basis)) (c.requires.met e)

pub returns-in_ok-make-in-Changes-clause-met : goal.returns-in_ok-make-in-Changes-clause-met
returns-in_ok-make-in-Changes-clause-met g c e =
    let p = c.args.p.now in
    let old = c.args.self.now in
    let new = c.make.new.self in
    let here = c.self.inside in
    let basis : here.basis ≡ old.basis = search rules in
    let pivots : here.pivots ≡ old.pivots = search rules in
    let cursor : pricing here.cursor here.queue ≡ old.pricing = search rules in
    let same : at_point (g.B.Basis.standing c.look.new.basis) here.pivots (pricing here.cursor here.queue) ≡ point g.B.Basis.standing old =
    point_same _ _ _ _ _ _ (c.in_ok-due.ensures.standing ∙ ap g.B.Basis.standing basis) pivots cursor in
    let made = c.in_ok-make-in-Changes.ensures.made c.args.rule (pricing here.cursor here.queue) (due_same p c.args.rule (g.B.Basis.standing here.basis) (g.B.Basis.standing c.look.new.basis) (pricing here.cursor here.queue) (g.B.Basis.slots here.basis) (g.B.Basis.slots c.look.new.basis) c.in_ok-due.due.turn c.in-Changes.change c.may_move-moves.result (pricing here.cursor c.look.new.queue) c.in_ok-due.ensures.standing c.in_ok-due.ensures.slots c.in-Changes.is c.if-not-moves.false c.in_ok-due.ensures.turn c.in_ok-due.ensures.left) in
    let step : StepsBy p c.args.rule (point g.B.Basis.standing old) made.0 (point g.B.Basis.standing new) = subst (λ a. StepsBy p c.args.rule a made.0 (point g.B.Basis.standing new)) same made.1 in
    still_met p (g.B.Basis.standing old.basis) (g.B.Basis.standing new.basis) (g.met.B.Basis.sound p old.basis c.requires.numbers).problem c.requires.feasible step.moves.feasible step.moves.lower c.in_ok-due.due.short e (subst (λ b. TellsShort p (g.B.Basis.standing b) c.in_ok-due.due.short) basis c.in_ok-due.ensures.short)
