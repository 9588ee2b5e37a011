use Rattle.std.proofs.Common.{rules}
use Rattle.nf_sums.specs.Terms.{PassesIn}
use Rattle.nf_basis.specs.Arising.{StateTerms}
use Rattle.nf_certify.proofs.Arises.{checks_arise}
use Rattle.nf_run.proofs.verdict.verdict.Goals as goal

pub returns-in_err-checked-clause-fault : goal.returns-in_err-checked-clause-fault
returns-in_err-checked-clause-fault g c =
    let p = c.args.p.now in
    let s = g.B.Basis.standing c.args.basis.now in
    let passes : PassesIn (StateTerms p s) c.in_err-checked.field-0.0 = checks_arise p s c.args.ended c.in_ok-cert.cert _ (g.met.B.Basis.sound p c.args.basis.now c.requires.numbers).problem c.requires.feasible c.requires.ended c.in_ok-cert.ensures.certificate c.in_err-checked.ensures.passed in
    search rules
