use Rattle.std.proofs.Common.{inl, inr, refl}
use Rattle.nf_top.proofs.StopFacts.{refused-comes}
use Rattle.nf_top.proofs.top.check_words.Goals as goal

pub returns-in-Ok-clause-comes : goal.returns-in-Ok-clause-comes
returns-in-Ok-clause-comes g c =
    c.conclude.ensures.comes _ _ _ _ _ c.accepted.ensures (inl (c.in-Ok.line, c.in-Ok.ensures.answer, refl)) c.check_answer.ensures.held (λ l. inl (c.in-Ok.line, c.in-Ok.ensures.answer, l, c.check_answer.ensures.held))

pub returns-in-Err-Refused-clause-comes : goal.returns-in-Err-Refused-clause-comes
returns-in-Err-Refused-clause-comes g c =
    let refused = rw c.in-Err-Refused.field-0-is at c.in-Err-Refused.ensures.answer in
    c.conclude-in-Err-Refused.ensures.comes _ _ _ _ _ c.line.ensures (inr (inl (c.in-Err-Refused.refusal, refused, refl))) c.check_answer.ensures.held
    (λ l. rw c.status.ensures (refused-comes _ c.in-Err-Refused.refusal refused l c.check_answer.ensures.held))
