use Rattle.nf_certify.proofs.Valid.{certificate_valid, valid_lengths}
use Rattle.nf_certify.proofs.certificate.cert_of.Goals as goal

pub returns-clause-valid : goal.returns-clause-valid
returns-clause-valid g c =
    certificate_valid c.args.p.now (g.B.Basis.standing c.args.basis.now) c.args.ended c.in_ok-cert.cert (g.met.B.Basis.sound c.args.p.now c.args.basis.now c.requires.numbers).problem c.requires.feasible c.requires.ended c.in_ok-cert.ensures.certificate

pub returns-clause-lengths : goal.returns-clause-lengths
returns-clause-lengths g c =
    valid_lengths c.args.p.now c.in_ok-cert.cert
    (certificate_valid c.args.p.now (g.B.Basis.standing c.args.basis.now) c.args.ended c.in_ok-cert.cert (g.met.B.Basis.sound c.args.p.now c.args.basis.now c.requires.numbers).problem c.requires.feasible c.requires.ended c.in_ok-cert.ensures.certificate)
