use Rattle.std.proofs.Common.{◌≡◌, ◌⊎◌, ℕ, suc, ◌<◌, ◌≤◌, ◌∙◌, arith, rules, subst, sym}
use Rattle.std.specs.Prelude.{IfNone, IfSome}
use Rattle.nf_simplex.specs.Queue.{IsFirstNumber}
use Rattle.nf_duals.specs.Priced.{count_priced}
use Rattle.nf_price.specs.Turns.{IsStart, in_turn}
use Rattle.nf_price.specs.Wanted.{IsCandidate, Wants, WantsNumber}
use Rattle.nf_price.proofs.MemberCost.{paid_at, paid_so_far}
use Rattle.nf_price.proofs.TurnFacts.{first_in_turn, none_before_next, none_in_turn}
use Rattle.nf_price.proofs.front.first_other.Goals as goal

pub returns-in_err-c-clause-cost : goal.returns-in_err-c-clause-cost
returns-in_err-c-clause-cost g c =
    let p = c.args.p.now in
    let from = c.min-from.result in
    let below : c.loop-t.t < count_priced p = omega (arith, c.loop-t-test.true, c.priced_columns-count.ensures) in
    let top : from ≤ count_priced p = search rules in
    let number = subst (λ n. c.number_in_turn-number.result ≡ suc (in_turn from n c.loop-t.t)) c.priced_columns-count.ensures c.number_in_turn-number.ensures in
    (paid_at p c.args.phase from c.args.members.now top c.requires.distinct c.loop-t.t c.number_in_turn-number.result c.args.steps.now c.loop-t.steps c.wanted_other.new.steps below number c.loop-t.invariant.cost c.wanted_other.ensures.cost).1

pub returns-in-Some-clause-first : goal.returns-in-Some-clause-first
returns-in-Some-clause-first g c =
    let p = c.args.p.now in
    let s = c.args.state.now.standing in
    let y1 = c.args.one.now in
    let y2 = c.args.two.now in
    let from = c.min-from.result in
    let below : c.loop-t.t < count_priced p = omega (arith, c.loop-t-test.true, c.priced_columns-count.ensures) in
    let top : from ≤ count_priced p = search rules in
    let there : (from ≡ c.args.cursor) ⊎ ((from ≡ count_priced p) × (from ≤ c.args.cursor)) = search rules in
    let start : IsStart c.args.cursor (count_priced p) from = (top, there) in
    let number = subst (λ n. c.number_in_turn-number.result ≡ suc (in_turn from n c.loop-t.t)) c.priced_columns-count.ensures c.number_in_turn-number.ensures in
    let found = subst (λ r. IfSome r (λ x. suc x.number ≡ c.number_in_turn-number.result)) c.in-Some.is c.in_ok-c.ensures.number in
    let wanted = (subst (λ r. IfSome r (IsCandidate p s c.args.phase y1 y2)) c.in-Some.is c.in_ok-c.ensures.some).wanted in
    let none = subst (λ n. (u : ℕ) → u < c.loop-t.t → Wants p s c.args.phase y1 y2 (in_turn from n u) → ⊥) c.priced_columns-count.ensures c.loop-t.invariant.none in
    subst (IsFirstNumber c.args.cursor (WantsNumber p s c.args.phase y1 y2)) (sym (found ∙ number))
    (first_in_turn p s c.args.phase y1 y2 c.args.cursor from start c.loop-t.t below none (subst (WantsNumber p s c.args.phase y1 y2) (found ∙ number) wanted))

pub returns-in-Some-clause-cost : goal.returns-in-Some-clause-cost
returns-in-Some-clause-cost g c =
    let p = c.args.p.now in
    let from = c.min-from.result in
    let below : c.loop-t.t < count_priced p = omega (arith, c.loop-t-test.true, c.priced_columns-count.ensures) in
    let top : from ≤ count_priced p = search rules in
    let number = subst (λ n. c.number_in_turn-number.result ≡ suc (in_turn from n c.loop-t.t)) c.priced_columns-count.ensures c.number_in_turn-number.ensures in
    (paid_at p c.args.phase from c.args.members.now top c.requires.distinct c.loop-t.t c.number_in_turn-number.result c.args.steps.now c.loop-t.steps c.wanted_other.new.steps below number c.loop-t.invariant.cost c.wanted_other.ensures.cost).1

pub loop-t-preserved : goal.loop-t-preserved
loop-t-preserved g c =
    let p = c.args.p.now in
    let s = c.args.state.now.standing in
    let y1 = c.args.one.now in
    let y2 = c.args.two.now in
    let from = c.min-from.result in
    let below : c.loop-t.t < count_priced p = omega (arith, c.loop-t-test.true, c.priced_columns-count.ensures) in
    let top : from ≤ count_priced p = search rules in
    let number = subst (λ n. c.number_in_turn-number.result ≡ suc (in_turn from n c.loop-t.t)) c.priced_columns-count.ensures c.number_in_turn-number.ensures in
    let unwanted = subst (λ r. IfNone r (WantsNumber p s c.args.phase y1 y2 c.number_in_turn-number.result → ⊥)) c.in_default.is c.in_ok-c.ensures.none in
    record {
      none = none_before_next (λ u. Wants p s c.args.phase y1 y2 (in_turn from c.priced_columns-count.result u)) c.loop-t.t c.loop-t.invariant.none (subst (λ n. WantsNumber p s c.args.phase y1 y2 n → ⊥) c.number_in_turn-number.ensures unwanted);
      cost = (paid_at p c.args.phase from c.args.members.now top c.requires.distinct c.loop-t.t c.number_in_turn-number.result c.args.steps.now c.loop-t.steps c.wanted_other.new.steps below number c.loop-t.invariant.cost c.wanted_other.ensures.cost).0;
    }

pub returns-clause-none : goal.returns-clause-none
returns-clause-none g c =
    let p = c.args.p.now in
    let s = c.args.state.now.standing in
    let y1 = c.args.one.now in
    let y2 = c.args.two.now in
    let from = c.min-from.result in
    let top : from ≤ count_priced p = search rules in
    let there : (from ≡ c.args.cursor) ⊎ ((from ≡ count_priced p) × (from ≤ c.args.cursor)) = search rules in
    let start : IsStart c.args.cursor (count_priced p) from = (top, there) in
    let none = subst (λ n. (u : ℕ) → u < c.loop-t.t → Wants p s c.args.phase y1 y2 (in_turn from n u) → ⊥) c.priced_columns-count.ensures c.loop-t.invariant.none in
    none_in_turn p s c.args.phase y1 y2 c.args.cursor from start (λ u l. none u (omega (arith, l, c.loop-t-test.false, c.priced_columns-count.ensures)))

pub returns-clause-cost : goal.returns-clause-cost
returns-clause-cost g c =
    let p = c.args.p.now in
    let from = c.min-from.result in
    let top : from ≤ count_priced p = search rules in
    let done : c.loop-t.t ≤ count_priced p = omega (arith, c.loop-t.auto.t-end, c.priced_columns-count.ensures) in
    paid_so_far p c.args.phase from c.args.members.now top c.requires.distinct c.loop-t.t c.args.steps.now c.loop-t.steps done c.loop-t.invariant.cost
