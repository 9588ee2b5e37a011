use Rattle.std.proofs.Common.{refl, subst, subst₂, sym}
use Rattle.std.specs.Prelude.{IfOk}
use Rattle.nf_price.specs.Queue.{pricing}
use Rattle.nf_engine.specs.Steps.{IsLeft}
use Rattle.nf_engine.proofs.turn.leave.Goals as goal

pub returns-then-not-moves-clause-left : goal.returns-then-not-moves-clause-left
returns-then-not-moves-clause-left g c =
    let at = pricing c.args.cursor c.args.queue.now in
    subst (λ b. IsLeft c.args.p.now c.args.rule c.args.state.now.standing at b c.args.turn c.args.queue.now) (sym c.if-not-moves.true) refl

pub returns-in-Ended-clause-left : goal.returns-in-Ended-clause-left
returns-in-Ended-clause-left g c =
    let at = pricing c.args.cursor c.args.queue.now in
    subst₂ (λ b t. IsLeft c.args.p.now c.args.rule c.args.state.now.standing at b t c.args.queue.now) (sym c.if-not-moves.false) (sym c.in-Ended.is) refl

pub returns-in-Changes-clause-left : goal.returns-in-Changes-clause-left
returns-in-Changes-clause-left g c =
    let at = pricing c.args.cursor c.args.queue.now in
    subst₂ (λ b t. IfOk c.next_queue.result (λ x. IsLeft c.args.p.now c.args.rule c.args.state.now.standing at b t c.next_queue.new.queue)) (sym c.if-not-moves.false) (sym c.in-Changes.is) c.next_queue.ensures.next
