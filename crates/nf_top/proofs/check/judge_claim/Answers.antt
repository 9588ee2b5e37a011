use Rattle.std.proofs.lemmas.Result.{err_from_is_err_and}
use Rattle.nf_top.proofs.StopFacts.{reads-of}
use Rattle.nf_top.proofs.check.judge_claim.Goals as goal

pub returns-in_err-certificate-clause-stops : goal.returns-in_err-certificate-clause-stops
returns-in_err-certificate-clause-stops c =
    let p = err_from_is_err_and c.from_residual.result c.from_residual.ensures.1 in
    rw (p.1, p.2) (λ i s posed table. c.in_err-certificate.ensures.stops i s posed table)

pub returns-in_err-number-clause-stops : goal.returns-in_err-number-clause-stops
returns-in_err-number-clause-stops c =
    let p = err_from_is_err_and c.from_residual-in_err-number.result c.from_residual-in_err-number.ensures.1 in
    rw (p.1, p.2) (λ i s posed table. c.in_err-number.ensures.stops i
    (reads-of i s c.args.certdata.now c.args.problem.now c.in_ok-certificate.certificate posed table c.in_ok-certificate.ensures.ok))

pub returns-clause-ok : goal.returns-clause-ok
returns-clause-ok c = λ i s posed table. record {
  problem = c.args.problem.now;
  certificate = c.in_ok-certificate.certificate;
  reads = reads-of i s c.args.certdata.now c.args.problem.now c.in_ok-certificate.certificate posed table c.in_ok-certificate.ensures.ok;
  number = c.in_ok-number.number;
  valid = c.in_ok-number.ensures.ok;
  told = c.claim_line.ensures;
}
