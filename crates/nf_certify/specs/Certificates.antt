-- The certificate of a state that has ended, and what it is to be valid.
-- `cert_of` promises it, and every verdict of a run rests on it.
use Rattle.std.specs.Prelude.{Bool}
use Rattle.nf_model.specs.Program.{LinearProgram}
use Rattle.nf_model.specs.Certificate.{IsValidBest}
use Rattle.nf_model.specs.Farkas.{IsValidFarkas}
use Rattle.nf_model.specs.Ray.{IsValidRay}
use Rattle.nf_sums.specs.Terms.{PassesIn}
use Rattle.nf_prob.specs.declared.cert.Cert.{Cert}
use Rattle.nf_prob.specs.declared.cert.Cert.TheVariants as cert
use Rattle.nf_simplex.specs.Layout.{layout_of}
use Rattle.nf_simplex.specs.StageOf.{IsLast}
use Rattle.nf_simplex.specs.Standing.{Standing}
use Rattle.nf_simplex.specs.Moves.{HasEndedInfeasibleIn, HasEndedOptimalIn, HasEndedUnboundedIn}
use Rattle.nf_simplex.specs.Verdicts.{AreGivenValues, ArePrintedDuals, AreFarkasDuals, AreMoves}
use Rattle.nf_basis.specs.Arising.{StateTerms}
use Rattle.nf_basis.specs.Kept.{IsPresent}
use Rattle.nf_basis.specs.Names.{col_of}
use Rattle.nf_certify.specs.declared.ended.Ended.{Ended}
use Rattle.nf_certify.specs.declared.ended.Ended.TheVariants.{Best, NoFlow, NoBound}
use Rattle.nf_certify.specs.declared.ended.CertOfFault.{CertOfFault}
use Rattle.nf_certify.specs.declared.ended.CertOfFault.TheVariants as fault

-- A state has ended so; best or without bound only with no stage two to come.
abbrev pub HasEndedSo : LinearProgram → Standing → Ended → Type 0
HasEndedSo p s Best = HasEndedOptimalIn p s × IsLast (layout_of p) s.stage
HasEndedSo p s NoFlow = HasEndedInfeasibleIn p s
HasEndedSo p s (NoBound c) = IsPresent p s c × ((down : Bool) × HasEndedUnboundedIn p s (col_of c) down) × IsLast (layout_of p) s.stage

-- The certificate of a state that has ended so: its values and printed duals; its duals of phase one; or its values and
-- what the given columns do while the picked one moves in the direction in which nothing limits it.
abbrev pub IsCertOf : LinearProgram → Standing → Ended → Cert → Type 0
IsCertOf p s Best (cert.Best values duals) = AreGivenValues p s values × ArePrintedDuals p s duals
IsCertOf p s NoFlow (cert.Farkas duals) = AreFarkasDuals p s duals
IsCertOf p s (NoBound c) (cert.Ray values ray) = AreGivenValues p s values × ((down : Bool) × HasEndedUnboundedIn p s (col_of c) down × AreMoves p s (col_of c) down ray)
IsCertOf p s _ _ = ⊥

-- A certificate is valid: it proves what it claims.
abbrev pub IsValid : LinearProgram → Cert → Type 0
IsValid p (cert.Best values duals) = IsValidBest p values duals
IsValid p (cert.Farkas duals) = IsValidFarkas p duals
IsValid p (cert.Ray values ray) = IsValidRay p values ray

-- A certificate is not told for want of memory, or where an operation passes that arises from the state.
abbrev pub IsCertFault : LinearProgram → Standing → CertOfFault → Type 0
IsCertFault p s (fault.Passed passed) = PassesIn (StateTerms p s) passed
IsCertFault p s fault.NoMemory = Unit {0}
