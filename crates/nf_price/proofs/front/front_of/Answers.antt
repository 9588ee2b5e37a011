use Rattle.std.proofs.Common.{inl, suc, arith, subst}
use Rattle.std.specs.Prelude.{IfNone, IfSome}
use Rattle.nf_simplex.specs.Queue.{IsFirstMember}
use Rattle.nf_price.specs.Wanted.{WantsNoMember, WantsNumber}
use Rattle.nf_price.proofs.MemberCost.{members_in_all}
use Rattle.nf_price.proofs.QueueFacts.{front_after}
use Rattle.nf_price.proofs.front.front_of.Goals as goal

pub returns-in_err-c-clause-cost : goal.returns-in_err-c-clause-cost
returns-in_err-c-clause-cost g c = let a = members_in_all c.args.p.now c.args.phase c.items-members.result.now c.items-members.ensures.distinct in omega (arith, a, c.first_member.ensures.cost)

pub returns-in-Some-clause-front : goal.returns-in-Some-clause-front
returns-in-Some-clause-front g c =
    let W = WantsNumber c.args.p.now c.args.state.now.standing c.args.phase c.args.one.now c.args.two.now in
    let first = subst (λ r. IfSome r (λ x. IsFirstMember W c.items-members.result.now (suc x.number))) c.in-Some.is c.in_ok-c.ensures.first in
    inl (subst (λ xs. IsFirstMember W xs (suc c.in-Some.c.number)) c.items-members.ensures.value first)

pub returns-in-Some-clause-cost : goal.returns-in-Some-clause-cost
returns-in-Some-clause-cost g c = let a = members_in_all c.args.p.now c.args.phase c.items-members.result.now c.items-members.ensures.distinct in omega (arith, a, c.first_member.ensures.cost)

pub returns-clause-front : goal.returns-clause-front
returns-clause-front g c =
    let p = c.args.p.now in
    let s = c.args.state.now.standing in
    let none = subst (λ r. IfNone r (WantsNoMember p s c.args.phase c.args.one.now c.args.two.now c.items-members.result.now)) c.in_default.is c.in_ok-c.ensures.none in
    front_after p s c.args.phase c.args.one.now c.args.two.now c.args.cursor c.args.queue.now c.in_ok-other.other
    (subst (WantsNoMember p s c.args.phase c.args.one.now c.args.two.now) c.items-members.ensures.value none) c.in_ok-other.ensures.first
