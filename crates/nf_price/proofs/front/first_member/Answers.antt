use Rattle.std.proofs.Common.{◌≡◌, ◌+◌, suc, [], take, arith, subst, sym, slice_index_or}
use Rattle.std.specs.Prelude.{IfNone, IfSome}
use Rattle.nf_simplex.specs.Queue.{AreKept, IsFirstMember}
use Rattle.nf_price.specs.Wanted.{WantsNumber}
use Rattle.nf_price.proofs.MemberCost.{members_more, members_within}
use Rattle.nf_price.proofs.QueueFacts.{kept_skip, member_found, next_taken}
use Rattle.nf_price.proofs.front.first_member.Goals as goal

pub returns-in_err-c-clause-cost : goal.returns-in_err-c-clause-cost
returns-in_err-c-clause-cost g c =
    let more = members_more c.args.p.now c.args.phase c.loop-k.k 0 c.args.members.now c.loop-k-test.true in
    let within = members_within c.args.p.now c.args.phase (c.loop-k.k + 1) c.args.members.now in
    omega (arith, more, within, c.loop-k.invariant.cost, c.wanted_number.ensures.cost)

pub returns-in-Some-clause-first : goal.returns-in-Some-clause-first
returns-in-Some-clause-first g c =
    let W = WantsNumber c.args.p.now c.args.state.now.standing c.args.phase c.args.one.now c.args.two.now in
    let n = slice_index_or c.args.members.now c.loop-k.k 0 in
    let number = subst (λ r. IfSome r (λ x. suc x.number ≡ n)) c.in-Some.is c.in_ok-c.ensures.number in
    let wants = subst (λ r. IfSome r (λ x. W n)) c.in-Some.is c.in_ok-c.ensures.wants in
    subst (IsFirstMember W c.args.members.now) (sym number) (member_found W c.loop-k.k 0 c.args.members.now c.loop-k-test.true c.loop-k.invariant.none wants)

pub returns-in-Some-clause-cost : goal.returns-in-Some-clause-cost
returns-in-Some-clause-cost g c =
    let more = members_more c.args.p.now c.args.phase c.loop-k.k 0 c.args.members.now c.loop-k-test.true in
    let within = members_within c.args.p.now c.args.phase (c.loop-k.k + 1) c.args.members.now in
    omega (arith, more, within, c.loop-k.invariant.cost, c.wanted_number.ensures.cost)

pub loop-k-preserved : goal.loop-k-preserved
loop-k-preserved g c =
    let W = WantsNumber c.args.p.now c.args.state.now.standing c.args.phase c.args.one.now c.args.two.now in
    let n = slice_index_or c.args.members.now c.loop-k.k 0 in
    let unwanted = subst (λ r. IfNone r (W n → ⊥)) c.in_default.is c.in_ok-c.ensures.none in
    let more = members_more c.args.p.now c.args.phase c.loop-k.k 0 c.args.members.now c.loop-k-test.true in
    record {
      none = subst (λ xs. AreKept W xs []) (sym (next_taken c.loop-k.k 0 c.args.members.now c.loop-k-test.true)) (kept_skip W n (take c.loop-k.k c.args.members.now) [] c.loop-k.invariant.none unwanted);
      cost = omega (arith, more, c.loop-k.invariant.cost, c.wanted_number.ensures.cost);
    }
