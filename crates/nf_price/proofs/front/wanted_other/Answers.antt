use Rattle.std.proofs.Common.{◌∙◌, sym}
use Rattle.nf_price.specs.Wanted.{WantsNumber}
use Rattle.nf_price.proofs.QueueFacts.{not_member, member_among}
use Rattle.nf_price.proofs.front.wanted_other.Goals as goal

pub returns-then-is_member-clause-none : goal.returns-then-is_member-clause-none
returns-then-is_member-clause-none g c = λ w.
    not_member (WantsNumber c.args.p.now c.args.state.now.standing c.args.phase c.args.one.now c.args.two.now) c.args.number c.args.members.now c.requires.unwanted w
    (member_among c.args.number c.args.members.now (sym c.is_member.ensures ∙ c.if-is_member.true))
