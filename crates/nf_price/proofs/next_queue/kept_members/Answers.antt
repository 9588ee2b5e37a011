use Rattle.std.proofs.Common.{◌+◌, take, arith, subst, sym, slice_index_or}
use Rattle.nf_simplex.specs.Queue.{AreKept}
use Rattle.nf_price.specs.Wanted.{WantsNumber}
use Rattle.nf_price.proofs.MemberCost.{members_more, members_within}
use Rattle.nf_price.proofs.QueueFacts.{kept_among, kept_by, kept_length, next_taken, not_before_itself, taken_length}
use Rattle.nf_price.proofs.next_queue.kept_members.Goals as goal

pub returns-in_err-stays-clause-cost : goal.returns-in_err-stays-clause-cost
returns-in_err-stays-clause-cost g c =
    let more = members_more c.args.p.now c.args.phase c.loop-k.k 0 c.args.members.now c.loop-k-test.true in
    let within = members_within c.args.p.now c.args.phase (c.loop-k.k + 1) c.args.members.now in
    omega (arith, more, within, c.loop-k.invariant.cost, c.wants_number.ensures.cost)

pub push_if-requires-clause-room : goal.push_if-requires-clause-room
push_if-requires-clause-room g c =
    let W = WantsNumber c.args.p.now c.args.state.now.standing c.args.phase c.args.one.now c.args.two.now in
    let few = kept_length W (take c.loop-k.k c.args.members.now) c.loop-k.kept c.loop-k.invariant.kept in
    let taken = taken_length c.loop-k.k c.args.members.now in
    omega (arith, few, taken, c.loop-k-test.true, c.requires.most)

pub push_if-requires-clause-fresh : goal.push_if-requires-clause-fresh
push_if-requires-clause-fresh g c = λ a.
    let W = WantsNumber c.args.p.now c.args.state.now.standing c.args.phase c.args.one.now c.args.two.now in
    let n = slice_index_or c.args.members.now c.loop-k.k 0 in
    not_before_itself c.loop-k.k 0 c.args.members.now c.requires.distinct c.loop-k-test.true (kept_among W n (take c.loop-k.k c.args.members.now) c.loop-k.kept c.loop-k.invariant.kept a)

pub loop-k-preserved : goal.loop-k-preserved
loop-k-preserved g c =
    let W = WantsNumber c.args.p.now c.args.state.now.standing c.args.phase c.args.one.now c.args.two.now in
    let n = slice_index_or c.args.members.now c.loop-k.k 0 in
    let more = members_more c.args.p.now c.args.phase c.loop-k.k 0 c.args.members.now c.loop-k-test.true in
    record {
      kept = subst (λ xs. AreKept W xs c.push_if.new.queue) (sym (next_taken c.loop-k.k 0 c.args.members.now c.loop-k-test.true))
          (kept_by W n (take c.loop-k.k c.args.members.now) c.loop-k.kept c.push_if.new.queue c.in_ok-stays.stays c.in_ok-stays.ensures.wants c.push_if.ensures.yes c.push_if.ensures.no c.loop-k.invariant.kept);
      cost = omega (arith, more, c.loop-k.invariant.cost, c.wants_number.ensures.cost);
    }
