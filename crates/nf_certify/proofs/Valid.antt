-- The certificate of a state that has ended is valid, and so has the program's lengths.
use Rattle.nf_model.specs.Program.{LinearProgram}
use Rattle.nf_model.specs.Problem.{IsProblem}
use Rattle.nf_prob.specs.declared.cert.Cert.{Cert}
use Rattle.nf_prob.specs.declared.cert.Cert.TheVariants as cert
use Rattle.nf_prob.specs.Verdict.{HasLengths}
use Rattle.nf_simplex.specs.Standing.{Standing, IsFeasibleState}
use Rattle.nf_simplex.proofs.Verdicts.{infeasible_verdict, optimal_verdict, unbounded_verdict}
use Rattle.nf_basis.specs.Names.{col_of}
use Rattle.nf_certify.specs.declared.ended.Ended.{Ended}
use Rattle.nf_certify.specs.declared.ended.Ended.TheVariants.{Best, NoFlow, NoBound}
use Rattle.nf_certify.specs.Certificates.{HasEndedSo, IsCertOf, IsValid}

pub certificate_valid : (p : LinearProgram) (s : Standing) (ended : Ended) (c : Cert) → IsProblem p → IsFeasibleState p s → HasEndedSo p s ended → IsCertOf p s ended c → IsValid p c
certificate_valid p s Best (cert.Best values duals) ok f h is = optimal_verdict p s ok f h.1 h.0 values duals is.0 is.1
certificate_valid p s Best (cert.Farkas duals) ok f h is = absurd is
certificate_valid p s Best (cert.Ray values ray) ok f h is = absurd is
certificate_valid p s NoFlow (cert.Best values duals) ok f h is = absurd is
certificate_valid p s NoFlow (cert.Farkas duals) ok f h is = (infeasible_verdict p s ok f h duals f.feasible.values is f.feasible.are_values).0
certificate_valid p s NoFlow (cert.Ray values ray) ok f h is = absurd is
certificate_valid p s (NoBound c) (cert.Best values duals) ok f h is = absurd is
certificate_valid p s (NoBound c) (cert.Farkas duals) ok f h is = absurd is
certificate_valid p s (NoBound c) (cert.Ray values ray) ok f h is = (unbounded_verdict p s (col_of c) is.1.0 ok f h.2 is.1.1 values ray is.0 is.1.2).0

pub valid_lengths : (p : LinearProgram) (c : Cert) → IsValid p c → HasLengths p c
valid_lengths p (cert.Best values duals) v = (v.feasible.within.one_each, v.one_each)
valid_lengths p (cert.Farkas duals) v = v.one_each
valid_lengths p (cert.Ray values ray) v = (v.feasible.within.one_each, v.one_each)
