use Rattle.std.proofs.Common.{◌≡◌, ◌⊎◌, suc, ◌+◌, ◌<◌, ◌≤◌, ap, arith, length, rules, subst, sym, [], ◌∷◌, ◌++◌}
use Rattle.nf_simplex.specs.Queue.{AreFirst}
use Rattle.nf_duals.specs.Priced.{count_priced}
use Rattle.nf_price.specs.Turns.{IsSeen, IsStart, in_turn}
use Rattle.nf_price.specs.Queue.{IsAmong}
use Rattle.nf_price.specs.Wanted.{WantsNumber}
use Rattle.nf_price.proofs.MemberCost.{paid_at, paid_so_far, turns_none}
use Rattle.nf_price.proofs.TurnFacts.{WantedSeen, by_want, found_all, found_fresh, found_full, found_more, found_none, found_skip}
use Rattle.nf_price.proofs.next_queue.first_others.Goals as goal

pub loop-t-init : goal.loop-t-init
loop-t-init g c =
    let p = c.args.p.now in
    let from = c.min-from.result in
    let top : from ≤ count_priced p = search rules in
    let there : (from ≡ c.args.cursor) ⊎ ((from ≡ count_priced p) × (from ≤ c.args.cursor)) = search rules in
    let start : IsStart c.args.cursor (count_priced p) from = (top, there) in
    let W = WantsNumber p c.args.state.now.standing c.args.phase c.args.one.now c.args.two.now in
    record {
      first = subst (λ n. AreFirst c.args.cursor c.args.size (λ i. W i × IsSeen from n 0 i) c.empty-found.result) (sym c.priced_columns-count.ensures)
          (subst (AreFirst c.args.cursor c.args.size (λ i. W i × IsSeen from (count_priced p) 0 i)) (sym c.empty-found.ensures) (found_none p c.args.state.now.standing c.args.phase c.args.one.now c.args.two.now c.args.cursor from start c.args.size));
      cost = (let none = turns_none p c.args.phase from c.args.members.now in omega (arith, none));
    }

pub returns-then-items-size-clause-first : goal.returns-then-items-size-clause-first
returns-then-items-size-clause-first g c =
    let p = c.args.p.now in
    let from = c.min-from.result in
    let top : from ≤ count_priced p = search rules in
    let there : (from ≡ c.args.cursor) ⊎ ((from ≡ count_priced p) × (from ≤ c.args.cursor)) = search rules in
    let start : IsStart c.args.cursor (count_priced p) from = (top, there) in
    let W = WantsNumber p c.args.state.now.standing c.args.phase c.args.one.now c.args.two.now in
    let found = subst (λ n. AreFirst c.args.cursor c.args.size (λ i. W i × IsSeen from n c.loop-t.t i) c.loop-t.found) c.priced_columns-count.ensures c.loop-t.invariant.first in
    let full : c.args.size ≤ length c.loop-t.found = subst (λ xs. c.args.size ≤ length xs) c.items.ensures.value c.if-items-size.true in
    found_full p c.args.state.now.standing c.args.phase c.args.one.now c.args.two.now c.args.cursor from start c.args.size c.loop-t.t c.loop-t.found full found

pub returns-then-items-size-clause-cost : goal.returns-then-items-size-clause-cost
returns-then-items-size-clause-cost g c =
    let p = c.args.p.now in
    let from = c.min-from.result in
    let top : from ≤ count_priced p = search rules in
    let done : c.loop-t.t ≤ count_priced p = omega (arith, c.loop-t.auto.t-end, c.priced_columns-count.ensures) in
    paid_so_far p c.args.phase from c.args.members.now top c.requires.distinct c.loop-t.t c.args.steps.now c.loop-t.steps done c.loop-t.invariant.cost

pub returns-in_err-comes-clause-cost : goal.returns-in_err-comes-clause-cost
returns-in_err-comes-clause-cost g c =
    let p = c.args.p.now in
    let from = c.min-from.result in
    let below : c.loop-t.t < count_priced p = omega (arith, c.loop-t-test.true, c.priced_columns-count.ensures) in
    let top : from ≤ count_priced p = search rules in
    let number = subst (λ n. c.number_in_turn-number.result ≡ suc (in_turn from n c.loop-t.t)) c.priced_columns-count.ensures c.number_in_turn-number.ensures in
    (paid_at p c.args.phase from c.args.members.now top c.requires.distinct c.loop-t.t c.number_in_turn-number.result c.args.steps.now c.loop-t.steps c.wants_other.new.steps below number c.loop-t.invariant.cost c.wants_other.ensures.cost).1

pub push_if-requires-clause-fresh : goal.push_if-requires-clause-fresh
push_if-requires-clause-fresh g c =
    let p = c.args.p.now in
    let from = c.min-from.result in
    let top : from ≤ count_priced p = search rules in
    let there : (from ≡ c.args.cursor) ⊎ ((from ≡ count_priced p) × (from ≤ c.args.cursor)) = search rules in
    let start : IsStart c.args.cursor (count_priced p) from = (top, there) in
    let below : c.loop-t.t < count_priced p = omega (arith, c.loop-t-test.true, c.priced_columns-count.ensures) in
    let W = WantsNumber p c.args.state.now.standing c.args.phase c.args.one.now c.args.two.now in
    let found = subst (λ n. AreFirst c.args.cursor c.args.size (λ i. W i × IsSeen from n c.loop-t.t i) c.loop-t.found) c.priced_columns-count.ensures c.loop-t.invariant.first in
    let number = subst (λ n. c.number_in_turn-number.result ≡ suc (in_turn from n c.loop-t.t)) c.priced_columns-count.ensures c.number_in_turn-number.ensures in
    subst (λ n. IsAmong n c.loop-t.found → ⊥) (sym number) (found_fresh p c.args.state.now.standing c.args.phase c.args.one.now c.args.two.now c.args.cursor from start c.args.size c.loop-t.t c.loop-t.found below found)

pub loop-t-preserved : goal.loop-t-preserved
loop-t-preserved g c =
    let p = c.args.p.now in
    let s = c.args.state.now.standing in
    let y1 = c.args.one.now in
    let y2 = c.args.two.now in
    let from = c.min-from.result in
    let t = c.loop-t.t in
    let top : from ≤ count_priced p = search rules in
    let there : (from ≡ c.args.cursor) ⊎ ((from ≡ count_priced p) × (from ≤ c.args.cursor)) = search rules in
    let start : IsStart c.args.cursor (count_priced p) from = (top, there) in
    let below : t < count_priced p = omega (arith, c.loop-t-test.true, c.priced_columns-count.ensures) in
    let W = WantsNumber p s c.args.phase y1 y2 in
    let found = subst (λ n. AreFirst c.args.cursor c.args.size (λ i. W i × IsSeen from n t i) c.loop-t.found) c.priced_columns-count.ensures c.loop-t.invariant.first in
    let number = subst (λ n. c.number_in_turn-number.result ≡ suc (in_turn from n t)) c.priced_columns-count.ensures c.number_in_turn-number.ensures in
    let room : length c.loop-t.found < c.args.size = (let less = c.if-items-size.false in let same = ap length c.items.ensures.value in omega (arith, less, same)) in
    let next : AreFirst c.args.cursor c.args.size (WantedSeen p s c.args.phase y1 y2 c.args.cursor from start (t + 1)) c.push_if.new.queue =
    by_want c.args.cursor c.args.size W (WantedSeen p s c.args.phase y1 y2 c.args.cursor from start (t + 1)) c.number_in_turn-number.result c.loop-t.found c.push_if.new.queue c.in_ok-comes.comes c.in_ok-comes.ensures.wants c.push_if.ensures.yes c.push_if.ensures.no
    (λ w. subst (λ n. AreFirst c.args.cursor c.args.size (WantedSeen p s c.args.phase y1 y2 c.args.cursor from start (t + 1)) (c.loop-t.found ++ n ∷ [])) (sym number) (found_more p s c.args.phase y1 y2 c.args.cursor from start c.args.size t c.loop-t.found below room (subst W number w) found))
    (λ un. found_skip p s c.args.phase y1 y2 c.args.cursor from start c.args.size t c.loop-t.found (subst (λ n. W n → ⊥) number un) found) in
    record {
      first = subst (λ n. AreFirst c.args.cursor c.args.size (λ i. W i × IsSeen from n (t + 1) i) c.push_if.new.queue) (sym c.priced_columns-count.ensures) next;
      cost = (paid_at p c.args.phase from c.args.members.now top c.requires.distinct t c.number_in_turn-number.result c.args.steps.now c.loop-t.steps c.wants_other.new.steps below number c.loop-t.invariant.cost c.wants_other.ensures.cost).0;
    }

pub returns-clause-first : goal.returns-clause-first
returns-clause-first g c =
    let p = c.args.p.now in
    let from = c.min-from.result in
    let top : from ≤ count_priced p = search rules in
    let there : (from ≡ c.args.cursor) ⊎ ((from ≡ count_priced p) × (from ≤ c.args.cursor)) = search rules in
    let start : IsStart c.args.cursor (count_priced p) from = (top, there) in
    let W = WantsNumber p c.args.state.now.standing c.args.phase c.args.one.now c.args.two.now in
    let found = subst (λ n. AreFirst c.args.cursor c.args.size (λ i. W i × IsSeen from n c.loop-t.t i) c.loop-t.found) c.priced_columns-count.ensures c.loop-t.invariant.first in
    let end : c.loop-t.t ≡ count_priced p = omega (arith, c.loop-t-test.false, c.loop-t.auto.t-end, c.priced_columns-count.ensures) in
    found_all p c.args.state.now.standing c.args.phase c.args.one.now c.args.two.now c.args.cursor from start c.args.size c.loop-t.found
    (subst (λ t. AreFirst c.args.cursor c.args.size (λ i. W i × IsSeen from (count_priced p) t i) c.loop-t.found) end found)

pub returns-clause-cost : goal.returns-clause-cost
returns-clause-cost g c =
    let p = c.args.p.now in
    let from = c.min-from.result in
    let top : from ≤ count_priced p = search rules in
    let done : c.loop-t.t ≤ count_priced p = omega (arith, c.loop-t.auto.t-end, c.priced_columns-count.ensures) in
    paid_so_far p c.args.phase from c.args.members.now top c.requires.distinct c.loop-t.t c.args.steps.now c.loop-t.steps done c.loop-t.invariant.cost
