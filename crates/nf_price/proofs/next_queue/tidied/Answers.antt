use Rattle.std.proofs.Common.{◌<◌, ◌≤◌, [], inl, inr, length, arith, subst}
use Rattle.nf_simplex.specs.Queue.{AreKept}
use Rattle.nf_price.specs.Wanted.{WantsNumber}
use Rattle.nf_price.proofs.MemberCost.{members_in_all}
use Rattle.nf_price.proofs.NextFacts.{not_none, none_of}
use Rattle.nf_price.proofs.next_queue.tidied.Goals as goal

pub returns-in_err-kept-clause-cost : goal.returns-in_err-kept-clause-cost
returns-in_err-kept-clause-cost g c = let a = members_in_all c.args.p.now c.args.phase c.items-members.result.now c.items-members.ensures.distinct in omega (arith, a, c.kept_members.ensures.cost)

pub returns-then-items-gt0-clause-tidied : goal.returns-then-items-gt0-clause-tidied
returns-then-items-gt0-clause-tidied g c =
    let W = WantsNumber c.args.p.now c.args.state.now.standing c.args.phase c.args.one.now c.args.two.now in
    inl (subst (λ xs. AreKept W xs c.in_ok-kept.kept) c.items-members.ensures.value c.in_ok-kept.ensures.kept, not_none c.in_ok-kept.kept (subst (λ xs. 0 < length xs) c.items.ensures.value c.if-items-gt0.true))

pub returns-then-items-gt0-clause-cost : goal.returns-then-items-gt0-clause-cost
returns-then-items-gt0-clause-cost g c = let a = members_in_all c.args.p.now c.args.phase c.items-members.result.now c.items-members.ensures.distinct in omega (arith, a, c.kept_members.ensures.cost)

pub first_others-requires-clause-unwanted : goal.first_others-requires-clause-unwanted
first_others-requires-clause-unwanted g c =
    let W = WantsNumber c.args.p.now c.args.state.now.standing c.args.phase c.args.one.now c.args.two.now in
    subst (AreKept W c.items-members.result.now) (none_of c.in_ok-kept.kept (subst (λ xs. length xs ≤ 0) c.items.ensures.value c.if-items-gt0.false)) c.in_ok-kept.ensures.kept

pub returns-clause-tidied : goal.returns-clause-tidied
returns-clause-tidied g c =
    let W = WantsNumber c.args.p.now c.args.state.now.standing c.args.phase c.args.one.now c.args.two.now in
    let none = subst (AreKept W c.items-members.result.now) (none_of c.in_ok-kept.kept (subst (λ xs. length xs ≤ 0) c.items.ensures.value c.if-items-gt0.false)) c.in_ok-kept.ensures.kept in
    inr (subst (λ xs. AreKept W xs []) c.items-members.ensures.value none, c.in_ok-found.ensures.first)
