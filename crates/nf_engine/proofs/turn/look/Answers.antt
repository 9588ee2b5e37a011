use Rattle.std.proofs.Common.{◌≡◌, ◌∙◌, ◌≤◌, ◌+◌, ◌*◌, ℕ, subst, subst₂, sym, arith, false}
use Rattle.std.specs.Prelude.{IfNone, IfSome}
use Rattle.nf_simplex.specs.Moves.{CanEnterIn, HasEndedInfeasibleIn, HasEndedOptimalIn, IsPickedIn, WouldLower}
use Rattle.nf_simplex.specs.Size.{size}
use Rattle.nf_simplex.specs.Standing.{rows_of}
use Rattle.nf_basis.specs.Kept.{IsNonbasic}
use Rattle.nf_basis.specs.Names.{col_of}
use Rattle.nf_price.specs.Choice.{HasEligible, HasEnded, TellsShort}
use Rattle.nf_price.specs.Queue.{pricing}
use Rattle.nf_price.specs.Rules.{rule_of}
use Rattle.nf_ratio.specs.Ratios.{StandsAloneAfter}
use Rattle.nf_engine.specs.Steps.{IsLimited}
use Rattle.nf_engine.proofs.SumFacts.{rows_below}
use Rattle.nf_engine.proofs.StepFacts.{look_cost, queue_cost, turn_due}
use Rattle.nf_engine.proofs.turn.look.Goals as goal

pub choose-requires-clause-short : goal.choose-requires-clause-short
choose-requires-clause-short g c = subst (λ t. TellsShort c.args.p.now t c.is_short-short.result) (sym c.state.ensures.standing) c.is_short-short.ensures.short

pub move_of-requires-clause-nonbasic : goal.move_of-requires-clause-nonbasic
move_of-requires-clause-nonbasic g c = subst (λ t. IsNonbasic c.args.p.now t c.in-Some.pick.col) c.state.ensures.standing (subst (λ r. IfSome r (λ q. IsNonbasic c.args.p.now c.state.result.now.standing q.col)) c.in-Some.is c.in_ok-picked.ensures.nonbasic)

pub move_of-requires-clause-enters : goal.move_of-requires-clause-enters
move_of-requires-clause-enters g c =
    let p = c.args.p.now in
    let q = c.in-Some.pick in
    let lowers = subst (λ r. IfSome r (λ q. WouldLower p c.state.result.now.standing (col_of q.col) q.down)) c.in-Some.is c.in_ok-picked.ensures.lowers in
    subst (λ t. CanEnterIn p t (col_of q.col) q.down) c.state.ensures.standing lowers.enters

pub returns-in_err-turn-in-Some-clause-cost : goal.returns-in_err-turn-in-Some-clause-cost
returns-in_err-turn-in-Some-clause-cost g c = λ t alone.
    let p = c.args.p.now in
    let q = c.in-Some.pick in
    let s = g.B.Basis.standing c.args.basis.now in
    let first : g.B.Basis.standing c.duals.new.self ≡ s = c.in_ok-duals.ensures.standing in
    let same : g.B.Basis.standing c.duals-2.new.self ≡ s = c.in_ok-duals-2.ensures.standing ∙ first in
    let told : c.state.result.now.standing ≡ s = c.state.ensures.standing ∙ same in
    let picked = subst (λ r. IfSome r (λ e. IsPickedIn p c.state.result.now.standing (rule_of c.args.rule) (pricing c.args.cursor c.args.queue.now) (col_of e.col))) c.in-Some.is c.in_ok-picked.ensures.picked in
    let picks = subst (λ t. IsPickedIn p t (rule_of c.args.rule) (pricing c.args.cursor c.args.queue.now) (col_of q.col)) told picked in
    let lowers = subst (λ t. WouldLower p t (col_of q.col) q.down) told (subst (λ r. IfSome r (λ e. WouldLower p c.state.result.now.standing (col_of e.col) e.down)) c.in-Some.is c.in_ok-picked.ensures.lowers) in
    look_cost c.args.steps.now c.duals.new.steps c.duals-2.new.steps c.duals-2.new.steps c.choose.new.steps c.move_of.new.steps t (g.B.Basis.unit p s.stage) (size p s.stage) (rows_of p s) (rows_below p s.stage)
    c.duals.ensures.cost
    (subst (λ q. c.duals-2.new.steps ≤ c.duals.new.steps + g.B.Basis.unit p q.stage) first c.duals-2.ensures.cost)
    (omega arith)
    (subst (λ q. c.choose.new.steps ≤ c.duals-2.new.steps + 16 * size p q.stage) told c.choose.ensures.cost)
    (subst (λ z. (t : ℕ) → StandsAloneAfter p z (col_of q.col) q.down t → c.move_of.new.steps ≤ c.choose.new.steps + (1 + t) * (g.B.Basis.unit p z.stage + 4 * size p z.stage)) same c.move_of.ensures.cost t (alone q.col q.down picks lowers))

pub returns-in_err-leave-in-Some-clause-cost : goal.returns-in_err-leave-in-Some-clause-cost
returns-in_err-leave-in-Some-clause-cost g c = λ t alone.
    let p = c.args.p.now in
    let q = c.in-Some.pick in
    let s = g.B.Basis.standing c.args.basis.now in
    let first : g.B.Basis.standing c.duals.new.self ≡ s = c.in_ok-duals.ensures.standing in
    let same : g.B.Basis.standing c.duals-2.new.self ≡ s = c.in_ok-duals-2.ensures.standing ∙ first in
    let told : c.state.result.now.standing ≡ s = c.state.ensures.standing ∙ same in
    let picked = subst (λ r. IfSome r (λ e. IsPickedIn p c.state.result.now.standing (rule_of c.args.rule) (pricing c.args.cursor c.args.queue.now) (col_of e.col))) c.in-Some.is c.in_ok-picked.ensures.picked in
    let picks = subst (λ t. IsPickedIn p t (rule_of c.args.rule) (pricing c.args.cursor c.args.queue.now) (col_of q.col)) told picked in
    let lowers = subst (λ t. WouldLower p t (col_of q.col) q.down) told (subst (λ r. IfSome r (λ e. WouldLower p c.state.result.now.standing (col_of e.col) e.down)) c.in-Some.is c.in_ok-picked.ensures.lowers) in
    queue_cost c.args.steps.now c.duals.new.steps c.duals-2.new.steps c.duals-2.new.steps c.choose.new.steps c.move_of.new.steps c.leave.new.steps t (g.B.Basis.unit p s.stage) (size p s.stage) (rows_of p s) (rows_below p s.stage)
    c.duals.ensures.cost
    (subst (λ q. c.duals-2.new.steps ≤ c.duals.new.steps + g.B.Basis.unit p q.stage) first c.duals-2.ensures.cost)
    (omega arith)
    (subst (λ q. c.choose.new.steps ≤ c.duals-2.new.steps + 16 * size p q.stage) told c.choose.ensures.cost)
    (subst (λ z. (t : ℕ) → StandsAloneAfter p z (col_of q.col) q.down t → c.move_of.new.steps ≤ c.choose.new.steps + (1 + t) * (g.B.Basis.unit p z.stage + 4 * size p z.stage)) same c.move_of.ensures.cost t (alone q.col q.down picks lowers))
    (subst (λ z. c.leave.new.steps ≤ c.move_of.new.steps + 16 * size p z.stage) (c.state-in-Some.ensures.standing ∙ (c.in_ok-turn-in-Some.ensures.standing ∙ same)) c.leave.ensures.cost)

pub returns-in_ok-leave-in-Some-clause-cost : goal.returns-in_ok-leave-in-Some-clause-cost
returns-in_ok-leave-in-Some-clause-cost g c = λ t alone.
    let p = c.args.p.now in
    let q = c.in-Some.pick in
    let s = g.B.Basis.standing c.args.basis.now in
    let first : g.B.Basis.standing c.duals.new.self ≡ s = c.in_ok-duals.ensures.standing in
    let same : g.B.Basis.standing c.duals-2.new.self ≡ s = c.in_ok-duals-2.ensures.standing ∙ first in
    let told : c.state.result.now.standing ≡ s = c.state.ensures.standing ∙ same in
    let picked = subst (λ r. IfSome r (λ e. IsPickedIn p c.state.result.now.standing (rule_of c.args.rule) (pricing c.args.cursor c.args.queue.now) (col_of e.col))) c.in-Some.is c.in_ok-picked.ensures.picked in
    let picks = subst (λ t. IsPickedIn p t (rule_of c.args.rule) (pricing c.args.cursor c.args.queue.now) (col_of q.col)) told picked in
    let lowers = subst (λ t. WouldLower p t (col_of q.col) q.down) told (subst (λ r. IfSome r (λ e. WouldLower p c.state.result.now.standing (col_of e.col) e.down)) c.in-Some.is c.in_ok-picked.ensures.lowers) in
    queue_cost c.args.steps.now c.duals.new.steps c.duals-2.new.steps c.duals-2.new.steps c.choose.new.steps c.move_of.new.steps c.leave.new.steps t (g.B.Basis.unit p s.stage) (size p s.stage) (rows_of p s) (rows_below p s.stage)
    c.duals.ensures.cost
    (subst (λ q. c.duals-2.new.steps ≤ c.duals.new.steps + g.B.Basis.unit p q.stage) first c.duals-2.ensures.cost)
    (omega arith)
    (subst (λ q. c.choose.new.steps ≤ c.duals-2.new.steps + 16 * size p q.stage) told c.choose.ensures.cost)
    (subst (λ z. (t : ℕ) → StandsAloneAfter p z (col_of q.col) q.down t → c.move_of.new.steps ≤ c.choose.new.steps + (1 + t) * (g.B.Basis.unit p z.stage + 4 * size p z.stage)) same c.move_of.ensures.cost t (alone q.col q.down picks lowers))
    (subst (λ z. c.leave.new.steps ≤ c.move_of.new.steps + 16 * size p z.stage) (c.state-in-Some.ensures.standing ∙ (c.in_ok-turn-in-Some.ensures.standing ∙ same)) c.leave.ensures.cost)

pub returns-in_ok-leave-in-Some-clause-turn : goal.returns-in_ok-leave-in-Some-clause-turn
returns-in_ok-leave-in-Some-clause-turn g c =
    let p = c.args.p.now in
    let q = c.in-Some.pick in
    let s = g.B.Basis.standing c.args.basis.now in
    let same : g.B.Basis.standing c.duals-2.new.self ≡ s = c.in_ok-duals-2.ensures.standing ∙ c.in_ok-duals.ensures.standing in
    let slots : g.B.Basis.slots c.duals-2.new.self ≡ g.B.Basis.slots c.args.basis.now = c.in_ok-duals-2.ensures.slots ∙ c.in_ok-duals.ensures.slots in
    let told : c.state.result.now.standing ≡ s = c.state.ensures.standing ∙ same in
    let picked = subst (λ r. IfSome r (λ e. IsPickedIn p c.state.result.now.standing (rule_of c.args.rule) (pricing c.args.cursor c.args.queue.now) (col_of e.col))) c.in-Some.is c.in_ok-picked.ensures.picked in
    let nonbasic = subst (λ r. IfSome r (λ e. IsNonbasic p c.state.result.now.standing e.col)) c.in-Some.is c.in_ok-picked.ensures.nonbasic in
    let lowers = subst (λ r. IfSome r (λ e. WouldLower p c.state.result.now.standing (col_of e.col) e.down)) c.in-Some.is c.in_ok-picked.ensures.lowers in
    turn_due p s c.requires.feasible c.args.rule (pricing c.args.cursor c.args.queue.now) q.col q.down (g.B.Basis.slots c.args.basis.now) c.in_ok-turn-in-Some.turn (subst (λ t. IsNonbasic p t q.col) told nonbasic) (subst (λ t. IsPickedIn p t (rule_of c.args.rule) (pricing c.args.cursor c.args.queue.now) (col_of q.col)) told picked)
    (subst (λ t. WouldLower p t (col_of q.col) q.down) told lowers) (subst₂ (λ t l. IsLimited p t l q.col q.down c.in_ok-turn-in-Some.turn) same slots c.in_ok-turn-in-Some.ensures.limited)

pub returns-in_ok-leave-in-Some-clause-short : goal.returns-in_ok-leave-in-Some-clause-short
returns-in_ok-leave-in-Some-clause-short g c = subst (λ t. TellsShort c.args.p.now t c.is_short-short.result) (c.in_ok-duals-2.ensures.standing ∙ c.in_ok-duals.ensures.standing) c.is_short-short.ensures.short

pub returns-in-None-clause-turn : goal.returns-in-None-clause-turn
returns-in-None-clause-turn g c =
    let p = c.args.p.now in
    let told = c.state.result.now.standing in
    subst (HasEndedInfeasibleIn p) (c.state.ensures.standing ∙ (c.in_ok-duals-2.ensures.standing ∙ c.in_ok-duals.ensures.standing))
    (subst (HasEnded p told) c.if-short.true (subst (λ r. IfNone r (HasEnded p told c.is_short-short.result)) c.in-None.is c.in_ok-picked.ensures.ended))

pub returns-in-None-clause-short : goal.returns-in-None-clause-short
returns-in-None-clause-short g c = subst (λ t. TellsShort c.args.p.now t c.is_short-short.result) (c.in_ok-duals-2.ensures.standing ∙ c.in_ok-duals.ensures.standing) c.is_short-short.ensures.short

pub returns-in-None-2-clause-turn : goal.returns-in-None-2-clause-turn
returns-in-None-2-clause-turn g c =
    let p = c.args.p.now in
    let told = c.state.result.now.standing in
    subst (HasEndedOptimalIn p) (c.state.ensures.standing ∙ (c.in_ok-duals-2.ensures.standing ∙ c.in_ok-duals.ensures.standing))
    (subst (HasEnded p told) c.if-short.false (subst (λ r. IfNone r (HasEnded p told c.is_short-short.result)) c.in-None-2.is c.in_ok-picked.ensures.ended))

pub returns-in-None-2-clause-short : goal.returns-in-None-2-clause-short
returns-in-None-2-clause-short g c = subst (λ t. TellsShort c.args.p.now t c.is_short-short.result) (c.in_ok-duals-2.ensures.standing ∙ c.in_ok-duals.ensures.standing) c.is_short-short.ensures.short

pub leave-requires-clause-short : goal.leave-requires-clause-short
leave-requires-clause-short g c = subst (λ t. TellsShort c.args.p.now t c.is_short-short.result) (sym (c.state-in-Some.ensures.standing ∙ c.in_ok-turn-in-Some.ensures.standing)) c.is_short-short.ensures.short

pub leave-requires-clause-eligible : goal.leave-requires-clause-eligible
leave-requires-clause-eligible g c =
    let p = c.args.p.now in
    let short = c.is_short-short.result in
    let given = subst (λ r. IfSome r (λ q. HasEligible p c.state.result.now.standing c.as_slice.result.now c.as_slice-2.result.now short)) c.in-Some.is c.in_ok-picked.ensures.eligible in
    let state = c.state.ensures.standing ∙ sym (c.state-in-Some.ensures.standing ∙ c.in_ok-turn-in-Some.ensures.standing) in
    let one = c.as_slice.ensures.value ∙ sym c.as_slice-in-Some.ensures.value in
    let two = c.as_slice-2.ensures.value ∙ sym c.as_slice-in-Some-2.ensures.value in
    subst (λ s. HasEligible p s c.as_slice-in-Some.result.now c.as_slice-in-Some-2.result.now short) state (subst₂ (λ y1 y2. HasEligible p c.state.result.now.standing y1 y2 short) one two given)

pub is_short-short-requires-clause-met : goal.is_short-short-requires-clause-met
is_short-short-requires-clause-met g c e = subst (λ t. TellsShort c.args.p.now t false) (sym (c.in_ok-duals-2.ensures.standing ∙ c.in_ok-duals.ensures.standing)) (c.requires.met e)
