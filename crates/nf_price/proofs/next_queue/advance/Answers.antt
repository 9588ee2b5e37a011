use Rattle.std.proofs.Common.{arith}
use Rattle.nf_duals.specs.Priced.{count_priced}
use Rattle.nf_price.specs.Queue.{pricing}
use Rattle.nf_price.specs.Wanted.{Wants}
use Rattle.nf_price.proofs.CostFacts.{paid_in_all, paid_phase}
use Rattle.nf_price.proofs.NextFacts.{next_queue, some_front, some_wanted}
use Rattle.nf_price.proofs.next_queue.advance.Goals as goal

pub returns-in_err-phase-clause-cost : goal.returns-in_err-phase-clause-cost
returns-in_err-phase-clause-cost g c = omega (arith, c.deciding.ensures.cost, paid_in_all c.args.p.now c.args.state.now.standing.stage c.requires.state.problem)

pub returns-in_err-next-clause-cost : goal.returns-in_err-next-clause-cost
returns-in_err-next-clause-cost g c =
    let more = paid_phase c.args.p.now c.in_ok-phase.phase (count_priced c.args.p.now) in
    omega (arith, more, c.deciding.ensures.cost, c.tidied.ensures.cost, paid_in_all c.args.p.now c.args.state.now.standing.stage c.requires.state.problem)

pub drop_front-requires : goal.drop_front-requires
drop_front-requires g c =
    let p = c.args.p.now in
    let s = c.args.state.now.standing in
    let y1 = c.args.duals_one.now in
    let y2 = c.args.duals_two.now in
    record {
      some = some_front c.args.size (pricing c.args.cursor c.args.queue.now) (Wants p s c.in_ok-phase.phase y1 y2) c.in_ok-next.next c.requires.size (some_wanted p s y1 y2 c.args.short c.in_ok-phase.phase c.in_ok-phase.ensures.decides) c.in_ok-next.ensures.tidied;
    }

pub returns-clause-next : goal.returns-clause-next
returns-clause-next g c =
    let p = c.args.p.now in
    let s = c.args.state.now.standing in
    let y1 = c.args.duals_one.now in
    let y2 = c.args.duals_two.now in
    next_queue p s y1 y2 c.args.short c.requires.duals_one c.requires.duals_two c.requires.short c.in_ok-phase.phase c.args.size (pricing c.args.cursor c.args.queue.now) c.drop_front.ensures.0 c.drop_front.new.self c.in_ok-next.next c.in_ok-phase.ensures.decides c.drop_front.ensures.1 c.in_ok-next.ensures.tidied

pub returns-clause-cost : goal.returns-clause-cost
returns-clause-cost g c =
    let more = paid_phase c.args.p.now c.in_ok-phase.phase (count_priced c.args.p.now) in
    omega (arith, more, c.deciding.ensures.cost, c.tidied.ensures.cost, paid_in_all c.args.p.now c.args.state.now.standing.stage c.requires.state.problem)
