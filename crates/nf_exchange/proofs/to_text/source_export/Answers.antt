use Rattle.std.proofs.lemmas.Result.{err_from_is_err_and}
use Rattle.nf_top.proofs.StopFacts.{both-cases}
use Rattle.nf_exchange.proofs.to_text.source_export.Goals as goal

pub returns-in_err-problem-clause-answer : goal.returns-in_err-problem-clause-answer
returns-in_err-problem-clause-answer g c =
    let p = err_from_is_err_and c.from_residual.result c.from_residual.ensures.1 in
    rw (p.1, p.2) (λ words. c.in_err-problem.ensures.answer words)

pub returns-clause-answer : goal.returns-clause-answer
returns-clause-answer g c = λ words.
    both-cases c.text_of.result c.text_of.ensures.ok c.text_of.ensures.stops
    (λ text h. h _ (c.in_ok-problem.ensures.answer words))
    (λ stop h. h _ (c.in_ok-problem.ensures.answer words))
