use Rattle.std.proofs.Common.{refl, subst, sym}
use Rattle.std.specs.Prelude.{IfOk}
use Rattle.nf_price.specs.Queue.{pricing}
use Rattle.nf_engine.specs.Steps.{LeavesQueue}
use Rattle.nf_engine.proofs.StepFacts.{prices_of}
use Rattle.nf_engine.proofs.turn.next_queue.Goals as goal

pub returns-in-First-clause-next : goal.returns-in-First-clause-next
returns-in-First-clause-next g c =
    let at = pricing c.args.cursor c.args.queue.now in
    subst (λ r. LeavesQueue c.args.p.now r c.args.state.now.standing at c.args.queue.now) (sym c.in-First.is) (prices_of c.args.p.now c.args.state.now.standing c.args.one.now c.args.two.now c.args.short c.requires.one c.requires.two c.requires.short, refl)

pub returns-in-Best-clause-next : goal.returns-in-Best-clause-next
returns-in-Best-clause-next g c =
    let at = pricing c.args.cursor c.args.queue.now in
    subst (λ r. LeavesQueue c.args.p.now r c.args.state.now.standing at c.args.queue.now) (sym c.in-Best.is) (prices_of c.args.p.now c.args.state.now.standing c.args.one.now c.args.two.now c.args.short c.requires.one c.requires.two c.requires.short, refl)

pub returns-in-Bland-clause-next : goal.returns-in-Bland-clause-next
returns-in-Bland-clause-next g c =
    let at = pricing c.args.cursor c.args.queue.now in
    subst (λ r. LeavesQueue c.args.p.now r c.args.state.now.standing at c.args.queue.now) (sym c.in-Bland.is) (prices_of c.args.p.now c.args.state.now.standing c.args.one.now c.args.two.now c.args.short c.requires.one c.requires.two c.requires.short, refl)

pub returns-in-Queue-clause-next : goal.returns-in-Queue-clause-next
returns-in-Queue-clause-next g c =
    let at = pricing c.args.cursor c.args.queue.now in
    subst (λ r. IfOk c.advance.result (λ x. LeavesQueue c.args.p.now r c.args.state.now.standing at c.advance.new.queue)) (sym c.in-Queue.is) c.advance.ensures.next
