-- What the line of a halt tells of the state at which it came, and what that says of the problem.
-- The headline of `run` rests on it: a planner may rely on every line.
use Rattle.std.specs.Prelude.{◌≡◌, ◌≤◌, true}
use Rattle.nf_model.specs.Program.{LinearProgram, IsBest, cost_of}
use Rattle.nf_model.specs.Certificate.{IsValidBest}
use Rattle.nf_model.specs.Farkas.{HasNoFeasible, IsGap, IsValidFarkas}
use Rattle.nf_model.specs.Ray.{HasNoLeastCost, IsValidRay}
use Rattle.nf_sums.specs.Terms.{with_sign}
use Rattle.nf_simplex.specs.Standing.{Standing}
use Rattle.nf_prob.specs.declared.cert.Cert.{Cert}
use Rattle.nf_prob.specs.declared.cert.Cert.TheVariants as cert
use Rattle.nf_basis.specs.declared.col.Col.{Col}
use Rattle.nf_engine.specs.declared.halt.Halt.{Halt}
use Rattle.nf_engine.specs.declared.halt.Halt.TheVariants.{Ended, Limit, Pause, Feasible}
use Rattle.nf_engine.specs.declared.halt.Moved.{Moved}
use Rattle.nf_engine.specs.declared.halt.Moved.TheVariants as moved
use Rattle.nf_engine.specs.Point.{Point}
use Rattle.nf_engine.specs.Run.{IsPauseDue}
use Rattle.nf_engine.specs.Steps.{Picks}
use Rattle.nf_certify.specs.declared.ended.Ended.{Ended as End}
use Rattle.nf_certify.specs.declared.ended.Ended.TheVariants as end
use Rattle.nf_certify.specs.Certificates.{HasEndedSo, IsCertOf}
use Rattle.nf_run.specs.declared.line.HaltLine.{HaltLine}
use Rattle.nf_run.specs.declared.line.HaltLine.TheVariants as line
use Rattle.nf_run.specs.declared.setting.Setting.{Setting}

-- ---- a verdict and its proof
-- A certificate proves a line: OPTIMAL, that its flows are feasible, that no feasible flows cost less, and what they
-- cost; INFEASIBLE, that no flows are feasible, and the gap; UNBOUNDED, that the costs of feasible flows have no least,
-- and the rate. Cost and rate are told in the program's own sense: a program that maximises has its costs negated.
abbrev pub Proves : LinearProgram → Cert → HaltLine → Type 0
Proves p (cert.Best flows duals) (line.Optimal f) = IsValidBest p flows duals × IsBest p flows × (f ≡ with_sign p.maximizes (cost_of p flows))
Proves p (cert.Farkas duals) (line.Infeasible f) = IsValidFarkas p duals × HasNoFeasible p × IsGap p duals f
Proves p (cert.Ray flows ray) (line.Unbounded f) = IsValidRay p flows ray × HasNoLeastCost p × (f ≡ with_sign p.maximizes (cost_of p ray))
Proves p _ _ = ⊥

-- A state has ended so, and its certificate proves the line.
pub record IsVerdict (p : LinearProgram) (s : Standing) (how : End) (c : Cert) (told : HaltLine) : Type 0 where
  pub ended : HasEndedSo p s how
  pub certificate : IsCertOf p s how c
  pub proves : Proves p c told

-- There is such a certificate.
abbrev pub HasVerdict : LinearProgram → Standing → End → HaltLine → Type 0
HasVerdict p s how told = (c : Cert) × IsVerdict p s how c told

-- The line is one of the three verdicts.
abbrev pub TellsVerdict : HaltLine → Type 0
TellsVerdict (line.Optimal f) = Unit {0}
TellsVerdict (line.Infeasible f) = Unit {0}
TellsVerdict (line.Unbounded f) = Unit {0}
TellsVerdict (line.Limit stage most) = ⊥
TellsVerdict (line.Pause stage) = ⊥
TellsVerdict line.Feasible = ⊥

-- ---- what is told
-- What the engine says at an end means that the state has ended so.
abbrev pub MeansEnd : Moved → End → Type 0
MeansEnd moved.Best end.Best = Unit {0}
MeansEnd moved.NoFlow end.NoFlow = Unit {0}
MeansEnd (moved.NoBound c) (end.NoBound d) = d ≡ c
MeansEnd _ _ = ⊥

-- The line tells a halt at state s of a stage of which the program asks w.
abbrev pub Tells : LinearProgram → Setting → Standing → Halt → HaltLine → Type 0
Tells p w s (Ended m) told = (how : End) × MeansEnd m how × HasVerdict p s how told
Tells p w s Limit told = told ≡ line.Limit w.stage w.most
Tells p w s Pause told = told ≡ line.Pause w.stage
Tells p w s Feasible told = told ≡ line.Feasible

-- ---- what it says
-- What a line says, where it stands behind a RUN that has come to b, in a stage of which the program asks w.
abbrev pub Says : LinearProgram → Setting → Point → HaltLine → Type 0
-- the state has ended optimal, and by its flows and printed duals the flows are best and cost this
Says p w b (line.Optimal f) = HasVerdict p b.standing end.Best (line.Optimal f)
-- the state has ended infeasible, and by its duals of phase one nothing is feasible, with this gap
Says p w b (line.Infeasible f) = HasVerdict p b.standing end.NoFlow (line.Infeasible f)
-- the state has ended unbounded at a column that the rule picks, and by its flows and what they do while this column
-- moves costs have no least, with this rate
Says p w b (line.Unbounded f) = (c : Col) × Picks p w.rule b.standing b.pricing c × HasVerdict p b.standing (end.NoBound c) (line.Unbounded f)
-- the stage's count of pivots is at least the limit that the program set
Says p w b (line.Limit stage most) = (stage ≡ w.stage) × (most ≡ w.most) × (most ≤ b.pivots)
-- the program set the pause, and it is due
Says p w b (line.Pause stage) = (stage ≡ w.stage) × IsPauseDue w.pauses b.pivots
-- the program asked for it
Says p w b line.Feasible = w.pauses.feasible ≡ true
