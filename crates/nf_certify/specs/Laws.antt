-- The law that the check of a state's certificate passes 128 bits only at what arises from the state.
-- `checks_arise` promises it; the cause of RANGE PASSED at a verdict rests on it.
use Rattle.nf_model.specs.Program.{LinearProgram}
use Rattle.nf_model.specs.Problem.{IsProblem}
use Rattle.nf_sums.specs.Terms.{PassesIn}
use Rattle.nf_frac.specs.declared.passed.Passed.{Passed}
use Rattle.nf_prob.specs.Arising.{CheckTerms}
use Rattle.nf_prob.specs.declared.cert.Cert.{Cert}
use Rattle.nf_simplex.specs.Standing.{Standing, IsFeasibleState}
use Rattle.nf_basis.specs.Arising.{StateTerms}
use Rattle.nf_certify.specs.declared.ended.Ended.{Ended}
use Rattle.nf_certify.specs.Certificates.{HasEndedSo, IsCertOf}

-- Where an operation passes in the check of the certificate of a state that has ended so, it arises from the state.
abbrev pub ChecksArise : Type 0
ChecksArise =
    (p : LinearProgram) (s : Standing) (ended : Ended) (cert : Cert) (passed : Passed) → IsProblem p → IsFeasibleState p s
    → HasEndedSo p s ended → IsCertOf p s ended cert → PassesIn (CheckTerms p cert) passed → PassesIn (StateTerms p s) passed
