use Rattle.std.proofs.Common.{◌≡◌, ◌∙◌, ◌≤◌, ◌+◌, ◌*◌, ap, refl, subst, subst₂, sym, true, rules}
use Rattle.nf_simplex.specs.Size.{size}
use Rattle.nf_price.specs.Queue.{pricing}
use Rattle.nf_engine.specs.Point.{point}
use Rattle.nf_engine.specs.Steps.{HasEnded, IsStep, IsTestedBy}
use Rattle.nf_engine.proofs.StepFacts.{at_point, due_same, ended_same, ended_step, left_ended, no_more, point_same, pricing_same, step_cost}
use Rattle.nf_engine.proofs.engine.Engine.step.Goals as goal

pub make-requires-clause-due : goal.make-requires-clause-due
make-requires-clause-due g c =
    let old = c.self.inside in (
      c.args.rule,
      (pricing old.cursor old.queue, due_same c.args.p.now c.args.rule (g.B.Basis.standing old.basis) (g.B.Basis.standing c.look.new.basis) (pricing old.cursor old.queue) (g.B.Basis.slots old.basis) (g.B.Basis.slots c.look.new.basis) c.in_ok-due.due.turn c.in-Changes.change true (pricing old.cursor c.look.new.queue) c.in_ok-due.ensures.standing c.in_ok-due.ensures.slots c.in-Changes.is refl c.in_ok-due.ensures.turn c.in_ok-due.ensures.left),
    )

pub returns-in-Ended-clause-step : goal.returns-in-Ended-clause-step
returns-in-Ended-clause-step g c =
    let old = c.args.self.now in
    let in_self = c.self.inside in
    let basis : in_self.basis ≡ old.basis = search rules in
    let pivots : in_self.pivots ≡ old.pivots = search rules in
    let cursor : pricing in_self.cursor in_self.queue ≡ old.pricing = search rules in
    let same : at_point (g.B.Basis.standing c.look.new.basis) in_self.pivots (pricing in_self.cursor c.look.new.queue) ≡ point g.B.Basis.standing old =
    point_same _ _ _ _ _ _ (c.in_ok-due.ensures.standing ∙ ap g.B.Basis.standing basis) pivots (pricing_same _ _ _ _ refl (left_ended c.args.p.now c.args.rule (g.B.Basis.standing in_self.basis) (pricing in_self.cursor in_self.queue) true c.in_ok-due.due.turn c.in-Ended.ended c.look.new.queue c.in-Ended.is c.in_ok-due.ensures.left) ∙ cursor) in
    ended_step c.args.p.now c.args.rule (point g.B.Basis.standing old) _ c.in-Ended.ended
    (subst₂ (λ b k. HasEnded c.args.p.now c.args.rule (g.B.Basis.standing b) k c.in-Ended.ended) basis cursor (ended_same c.args.p.now c.args.rule (g.B.Basis.standing in_self.basis) (pricing in_self.cursor in_self.queue) (g.B.Basis.slots in_self.basis) c.in_ok-due.due.turn c.in-Ended.ended c.in-Ended.is c.in_ok-due.ensures.turn)) same

pub returns-in_ok-moved-in-Changes-clause-step : goal.returns-in_ok-moved-in-Changes-clause-step
returns-in_ok-moved-in-Changes-clause-step g c =
    let p = c.args.p.now in
    let old = c.args.self.now in
    let in_self = c.self.inside in
    let basis : in_self.basis ≡ old.basis = search rules in
    let pivots : in_self.pivots ≡ old.pivots = search rules in
    let cursor : pricing in_self.cursor in_self.queue ≡ old.pricing = search rules in
    let same : at_point (g.B.Basis.standing c.look.new.basis) in_self.pivots (pricing in_self.cursor in_self.queue) ≡ point g.B.Basis.standing old =
    point_same _ _ _ _ _ _ (c.in_ok-due.ensures.standing ∙ ap g.B.Basis.standing basis) pivots cursor in
    let due = due_same p c.args.rule (g.B.Basis.standing in_self.basis) (g.B.Basis.standing c.look.new.basis) (pricing in_self.cursor in_self.queue) (g.B.Basis.slots in_self.basis) (g.B.Basis.slots c.look.new.basis) c.in_ok-due.due.turn c.in-Changes.change true (pricing in_self.cursor c.look.new.queue) c.in_ok-due.ensures.standing c.in_ok-due.ensures.slots c.in-Changes.is refl c.in_ok-due.ensures.turn c.in_ok-due.ensures.left in
    subst (λ a. IsStep p c.args.rule a c.in_ok-moved-in-Changes.moved (point g.B.Basis.standing c.make.new.self)) same (c.in_ok-moved-in-Changes.ensures.made c.args.rule (pricing in_self.cursor in_self.queue) due).2

pub returns-in_err-due-clause-cost : goal.returns-in_err-due-clause-cost
returns-in_err-due-clause-cost g c = λ t alone.
    let p = c.args.p.now in
    let basis : c.self.inside.basis ≡ c.args.self.now.basis = search rules in
    let cursor : pricing c.self.inside.cursor c.self.inside.queue ≡ c.args.self.now.pricing = search rules in
    let inner : IsTestedBy p c.args.rule (g.B.Basis.standing c.self.inside.basis) (pricing c.self.inside.cursor c.self.inside.queue) t =
    subst₂ (λ b k. IsTestedBy p c.args.rule (g.B.Basis.standing b) k t) (sym basis) (sym cursor) alone in
    subst (λ b. c.look.new.steps ≤ c.args.steps.now + 8 * (1 + t) * (g.B.Basis.unit p (g.B.Basis.standing b).stage + 6 * size p (g.B.Basis.standing b).stage)) basis
    (step_cost c.args.steps.now c.look.new.steps c.look.new.steps t (g.B.Basis.unit p (g.B.Basis.standing c.self.inside.basis).stage) (size p (g.B.Basis.standing c.self.inside.basis).stage) (c.look.ensures.cost t inner) (no_more c.look.new.steps _))

pub returns-in-Ended-clause-cost : goal.returns-in-Ended-clause-cost
returns-in-Ended-clause-cost g c = λ t alone.
    let p = c.args.p.now in
    let basis : c.self.inside.basis ≡ c.args.self.now.basis = search rules in
    let cursor : pricing c.self.inside.cursor c.self.inside.queue ≡ c.args.self.now.pricing = search rules in
    let inner : IsTestedBy p c.args.rule (g.B.Basis.standing c.self.inside.basis) (pricing c.self.inside.cursor c.self.inside.queue) t =
    subst₂ (λ b k. IsTestedBy p c.args.rule (g.B.Basis.standing b) k t) (sym basis) (sym cursor) alone in
    subst (λ b. c.look.new.steps ≤ c.args.steps.now + 8 * (1 + t) * (g.B.Basis.unit p (g.B.Basis.standing b).stage + 6 * size p (g.B.Basis.standing b).stage)) basis
    (step_cost c.args.steps.now c.look.new.steps c.look.new.steps t (g.B.Basis.unit p (g.B.Basis.standing c.self.inside.basis).stage) (size p (g.B.Basis.standing c.self.inside.basis).stage) (c.look.ensures.cost t inner) (no_more c.look.new.steps _))

pub returns-in_err-moved-in-Changes-clause-cost : goal.returns-in_err-moved-in-Changes-clause-cost
returns-in_err-moved-in-Changes-clause-cost g c = λ t alone.
    let p = c.args.p.now in
    let basis : c.self.inside.basis ≡ c.args.self.now.basis = search rules in
    let cursor : pricing c.self.inside.cursor c.self.inside.queue ≡ c.args.self.now.pricing = search rules in
    let inner : IsTestedBy p c.args.rule (g.B.Basis.standing c.self.inside.basis) (pricing c.self.inside.cursor c.self.inside.queue) t =
    subst₂ (λ b k. IsTestedBy p c.args.rule (g.B.Basis.standing b) k t) (sym basis) (sym cursor) alone in
    subst (λ b. c.make.new.steps ≤ c.args.steps.now + 8 * (1 + t) * (g.B.Basis.unit p (g.B.Basis.standing b).stage + 6 * size p (g.B.Basis.standing b).stage)) basis
    (step_cost c.args.steps.now c.look.new.steps c.make.new.steps t (g.B.Basis.unit p (g.B.Basis.standing c.self.inside.basis).stage) (size p (g.B.Basis.standing c.self.inside.basis).stage) (c.look.ensures.cost t inner) (subst (λ q. c.make.new.steps ≤ c.look.new.steps + 4 * g.B.Basis.unit p q.stage) c.in_ok-due.ensures.standing c.make.ensures.cost))

pub returns-in_ok-moved-in-Changes-clause-cost : goal.returns-in_ok-moved-in-Changes-clause-cost
returns-in_ok-moved-in-Changes-clause-cost g c = λ t alone.
    let p = c.args.p.now in
    let basis : c.self.inside.basis ≡ c.args.self.now.basis = search rules in
    let cursor : pricing c.self.inside.cursor c.self.inside.queue ≡ c.args.self.now.pricing = search rules in
    let inner : IsTestedBy p c.args.rule (g.B.Basis.standing c.self.inside.basis) (pricing c.self.inside.cursor c.self.inside.queue) t =
    subst₂ (λ b k. IsTestedBy p c.args.rule (g.B.Basis.standing b) k t) (sym basis) (sym cursor) alone in
    subst (λ b. c.make.new.steps ≤ c.args.steps.now + 8 * (1 + t) * (g.B.Basis.unit p (g.B.Basis.standing b).stage + 6 * size p (g.B.Basis.standing b).stage)) basis
    (step_cost c.args.steps.now c.look.new.steps c.make.new.steps t (g.B.Basis.unit p (g.B.Basis.standing c.self.inside.basis).stage) (size p (g.B.Basis.standing c.self.inside.basis).stage) (c.look.ensures.cost t inner) (subst (λ q. c.make.new.steps ≤ c.look.new.steps + 4 * g.B.Basis.unit p q.stage) c.in_ok-due.ensures.standing c.make.ensures.cost))
