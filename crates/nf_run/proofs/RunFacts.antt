-- What the halts of the engine make of a run of a stage: its line, what the line says with which proof, and where an
-- operation passes.
use Rattle.std.proofs.Common.{◌≡◌, ℕ, Option, Some, None, refl, sym, ◌∙◌, subst, subst₂}
use Rattle.nf_num.specs.Rational.{ℚ}
use Rattle.nf_model.specs.Program.{LinearProgram}
use Rattle.nf_frac.specs.declared.passed.Passed.{Passed}
use Rattle.nf_simplex.specs.Queue.{PricingState}
use Rattle.nf_simplex.specs.Standing.{Standing}
use Rattle.nf_price.specs.declared.rule.Rule.{Rule}
use Rattle.nf_engine.specs.declared.halt.Halt.{Halt}
use Rattle.nf_engine.specs.declared.halt.Halt.TheVariants.{Ended, Limit, Pause, Feasible}
use Rattle.nf_engine.specs.declared.halt.Moved.{Moved}
use Rattle.nf_engine.specs.declared.halt.Moved.TheVariants.{Pivoted, Flipped, Best, NoFlow, NoBound}
use Rattle.nf_engine.specs.declared.halt.Pauses.{Pauses}
use Rattle.nf_engine.specs.Point.{Point}
use Rattle.nf_engine.specs.Run.{GoesOn, Halts, Comes, PassesAt, RunsTo}
use Rattle.nf_engine.specs.Steps.{HasEnded, Picks}
use Rattle.nf_simplex.specs.Layout.{layout_of}
use Rattle.nf_simplex.specs.StageOf.{StageNumber, StageOne, StageTwo, IsLast}
use Rattle.nf_basis.specs.declared.col.Col.{Col}
use Rattle.nf_prob.specs.declared.cert.Cert.{Cert}
use Rattle.nf_prob.specs.declared.cert.Cert.TheVariants as cert
use Rattle.nf_certify.specs.declared.ended.Ended.{Ended as End}
use Rattle.nf_certify.specs.declared.ended.Ended.TheVariants as end
use Rattle.nf_certify.specs.declared.ended.CertOfFault.{CertOfFault}
use Rattle.nf_certify.specs.declared.ended.CertOfFault.TheVariants as certificate
use Rattle.nf_certify.specs.Certificates.{HasEndedSo, IsCertFault}
use Rattle.nf_run.specs.declared.line.HaltLine.{HaltLine}
use Rattle.nf_run.specs.declared.line.HaltLine.TheVariants as line
use Rattle.nf_run.specs.declared.event.RunFault.{RunFault}
use Rattle.nf_run.specs.declared.event.RunFault.TheVariants as fault
use Rattle.nf_run.specs.declared.setting.Setting.{Setting}
use Rattle.nf_run.specs.Turns.{IsOver, Runs}
use Rattle.nf_run.specs.Steps.{IsHaltIn, IsStageFault, IsTellingFault, KeepsProof, Shows, number_fault}
use Rattle.nf_run.specs.Verdicts.{HasVerdict, IsVerdict, MeansEnd, Says, Tells, TellsVerdict}

-- ---- paths
halts_come : (p : LinearProgram) (rule : Rule) (most : ℕ) (pauses : Pauses) (a m b : Point) (halt : Halt) → GoesOn p rule most pauses a m → Halts p rule most pauses m halt b → Comes p rule most pauses a b
halts_come p rule most pauses a m b halt on (Halts.ended moved ended) = Comes.there b on
halts_come p rule most pauses a m b halt on (Halts.limit c n step full) = Comes.there b on
halts_come p rule most pauses a m b halt on (Halts.pause c n below step due) = Comes.behind c m b on below step
halts_come p rule most pauses a m b halt on (Halts.feasible c n below step none due) = Comes.behind c m b on below step

pub runs_come : (p : LinearProgram) (w : Setting) (a b : Point) (halt : Halt) → Runs p w a halt b → Comes p w.rule w.most w.pauses a b
runs_come p w a b halt r = halts_come p w.rule w.most w.pauses a r.before b halt r.steps r.last

-- ---- the halt
halts_in : (p : LinearProgram) (w : Setting) (m b : Point) (halt : Halt) → Halts p w.rule w.most w.pauses m halt b → IsHaltIn p w b.standing halt
halts_in p w m b halt (Halts.ended moved ended) = (m.pricing, ended)
halts_in p w m b halt (Halts.limit c n step full) = tt
halts_in p w m b halt (Halts.pause c n below step due) = tt
halts_in p w m b halt (Halts.feasible c n below step none due) = tt

pub halt_in : (p : LinearProgram) (w : Setting) (a b : Point) (halt : Halt) → Runs p w a halt b → IsHaltIn p w b.standing halt
halt_in p w a b halt r = halts_in p w r.before b halt r.last

-- ---- how a state has ended
pub ended_means : (p : LinearProgram) (rule : Rule) (s : Standing) (at : PricingState) (m : Moved) → HasEnded p rule s at m → (how : End) × MeansEnd m how
ended_means p rule s at Best h = (end.Best, tt)
ended_means p rule s at NoFlow h = (end.NoFlow, tt)
ended_means p rule s at (NoBound c) h = (end.NoBound c, refl)
ended_means p rule s at (Pivoted entering leaving) h = absurd h
ended_means p rule s at (Flipped c) h = absurd h

last_best : (p : LinearProgram) (n : StageNumber) → (IsOver p n (Ended Best) → ⊥) → IsLast (layout_of p) n
last_best p StageOne none = none
last_best p StageTwo none = tt

last_no_bound : (p : LinearProgram) (n : StageNumber) (c : Col) → (IsOver p n (Ended (NoBound c)) → ⊥) → IsLast (layout_of p) n
last_no_bound p StageOne c none = none
last_no_bound p StageTwo c none = tt

pub ended_so : (p : LinearProgram) (rule : Rule) (s : Standing) (at : PricingState) (m : Moved) (how : End) → (IsOver p s.stage (Ended m) → ⊥) → HasEnded p rule s at m → MeansEnd m how → HasEndedSo p s how
ended_so p rule s at Best end.Best last h e = (h, last_best p s.stage last)
ended_so p rule s at Best end.NoFlow last h e = absurd e
ended_so p rule s at Best (end.NoBound d) last h e = absurd e
ended_so p rule s at NoFlow end.Best last h e = absurd e
ended_so p rule s at NoFlow end.NoFlow last h e = h
ended_so p rule s at NoFlow (end.NoBound d) last h e = absurd e
ended_so p rule s at (NoBound c) end.Best last h e = absurd e
ended_so p rule s at (NoBound c) end.NoFlow last h e = absurd e
ended_so p rule s at (NoBound c) (end.NoBound d) last h e = subst (λ k. HasEndedSo p s (end.NoBound k)) (sym e) (h.0, h.2, last_no_bound p s.stage c last)
ended_so p rule s at (Pivoted entering leaving) how last h e = absurd h
ended_so p rule s at (Flipped c) how last h e = absurd h

-- ---- its line
best_line : (p : LinearProgram) (s : Standing) (c : Cert) (told : HaltLine) (P : HaltLine → Type 0) → IsVerdict p s end.Best c told → ((f : ℚ) → HasVerdict p s end.Best (line.Optimal f) → P (line.Optimal f)) → P told
best_line p s (cert.Best flows duals) (line.Optimal f) P v h = h f (cert.Best flows duals, v)
best_line p s (cert.Best flows duals) (line.Infeasible f) P v h = absurd v.proves
best_line p s (cert.Best flows duals) (line.Unbounded f) P v h = absurd v.proves
best_line p s (cert.Best flows duals) (line.Limit stage most) P v h = absurd v.proves
best_line p s (cert.Best flows duals) (line.Pause stage) P v h = absurd v.proves
best_line p s (cert.Best flows duals) line.Feasible P v h = absurd v.proves
best_line p s (cert.Farkas duals) told P v h = absurd v.certificate
best_line p s (cert.Ray flows ray) told P v h = absurd v.certificate

no_flow_line : (p : LinearProgram) (s : Standing) (c : Cert) (told : HaltLine) (P : HaltLine → Type 0) → IsVerdict p s end.NoFlow c told → ((f : ℚ) → HasVerdict p s end.NoFlow (line.Infeasible f) → P (line.Infeasible f)) → P told
no_flow_line p s (cert.Farkas duals) (line.Infeasible f) P v h = h f (cert.Farkas duals, v)
no_flow_line p s (cert.Farkas duals) (line.Optimal f) P v h = absurd v.proves
no_flow_line p s (cert.Farkas duals) (line.Unbounded f) P v h = absurd v.proves
no_flow_line p s (cert.Farkas duals) (line.Limit stage most) P v h = absurd v.proves
no_flow_line p s (cert.Farkas duals) (line.Pause stage) P v h = absurd v.proves
no_flow_line p s (cert.Farkas duals) line.Feasible P v h = absurd v.proves
no_flow_line p s (cert.Best flows duals) told P v h = absurd v.certificate
no_flow_line p s (cert.Ray flows ray) told P v h = absurd v.certificate

no_bound_line : (p : LinearProgram) (s : Standing) (k : Col) (c : Cert) (told : HaltLine) (P : HaltLine → Type 0) → IsVerdict p s (end.NoBound k) c told → ((f : ℚ) → HasVerdict p s (end.NoBound k) (line.Unbounded f) → P (line.Unbounded f)) → P told
no_bound_line p s k (cert.Ray flows ray) (line.Unbounded f) P v h = h f (cert.Ray flows ray, v)
no_bound_line p s k (cert.Ray flows ray) (line.Optimal f) P v h = absurd v.proves
no_bound_line p s k (cert.Ray flows ray) (line.Infeasible f) P v h = absurd v.proves
no_bound_line p s k (cert.Ray flows ray) (line.Limit stage most) P v h = absurd v.proves
no_bound_line p s k (cert.Ray flows ray) (line.Pause stage) P v h = absurd v.proves
no_bound_line p s k (cert.Ray flows ray) line.Feasible P v h = absurd v.proves
no_bound_line p s k (cert.Best flows duals) told P v h = absurd v.certificate
no_bound_line p s k (cert.Farkas duals) told P v h = absurd v.certificate

ended_says : (p : LinearProgram) (w : Setting) (b : Point) (m : Moved) (how : End) (c : Cert) (told : HaltLine) → HasEnded p w.rule b.standing b.pricing m → MeansEnd m how → IsVerdict p b.standing how c told
    → Says p w b told
ended_says p w b Best end.Best c told h e v = best_line p b.standing c told (Says p w b) v (λ f k. k)
ended_says p w b Best end.NoFlow c told h e v = absurd e
ended_says p w b Best (end.NoBound d) c told h e v = absurd e
ended_says p w b NoFlow end.Best c told h e v = absurd e
ended_says p w b NoFlow end.NoFlow c told h e v = no_flow_line p b.standing c told (Says p w b) v (λ f k. k)
ended_says p w b NoFlow (end.NoBound d) c told h e v = absurd e
ended_says p w b (NoBound x) end.Best c told h e v = absurd e
ended_says p w b (NoBound x) end.NoFlow c told h e v = absurd e
ended_says p w b (NoBound x) (end.NoBound d) c told h e v =
    let picked = subst (λ (k : Col). Picks p w.rule b.standing b.pricing k) (sym e) h.1 in
    no_bound_line p b.standing d c told (Says p w b) v (λ f k. (d, picked, k))
ended_says p w b (Pivoted entering leaving) how c told h e v = absurd h
ended_says p w b (Flipped x) how c told h e v = absurd h

pub tells_of : (p : LinearProgram) (w : Setting) (s : Standing) (halt : Halt) (told : HaltLine) (proof : Option Cert) → Shows p w s halt told proof → Tells p w s halt told
tells_of p w s (Ended m) told (Some c) h = (h.0, h.1, (c, h.2))
tells_of p w s (Ended m) told None h = absurd h
tells_of p w s Limit told None h = h
tells_of p w s Pause told None h = h
tells_of p w s Feasible told None h = h
tells_of p w s Limit told (Some c) h = absurd h
tells_of p w s Pause told (Some c) h = absurd h
tells_of p w s Feasible told (Some c) h = absurd h

pub proof_of : (p : LinearProgram) (w : Setting) (s : Standing) (halt : Halt) (told : HaltLine) (proof : Option Cert) → Shows p w s halt told proof → KeepsProof p s told proof
proof_of p w s (Ended m) told (Some c) h = (h.0, h.2)
proof_of p w s (Ended m) told None h = absurd h
proof_of p w s Limit told None h = λ t. subst TellsVerdict h t
proof_of p w s Pause told None h = λ t. subst TellsVerdict h t
proof_of p w s Feasible told None h = λ t. subst TellsVerdict h t
proof_of p w s Limit told (Some c) h = absurd h
proof_of p w s Pause told (Some c) h = absurd h
proof_of p w s Feasible told (Some c) h = absurd h

moved_says : (p : LinearProgram) (w : Setting) (b : Point) (m : Moved) (told : HaltLine) (proof : Option Cert) → HasEnded p w.rule b.standing b.pricing m → Shows p w b.standing (Ended m) told proof → Says p w b told
moved_says p w b m told (Some c) ended h = ended_says p w b m h.0 c told ended h.1 h.2
moved_says p w b m told None ended h = absurd h

halts_say : (p : LinearProgram) (w : Setting) (m b : Point) (halt : Halt) (told : HaltLine) (proof : Option Cert) → Halts p w.rule w.most w.pauses m halt b → Shows p w b.standing halt told proof → Says p w b told
halts_say p w m b halt told proof (Halts.ended moved ended) h = moved_says p w m moved told proof ended h
halts_say p w m b halt told proof (Halts.limit c n step full) h = rw (tells_of p w m.standing Limit told proof h) (refl, refl, full)
halts_say p w m b halt told proof (Halts.pause c n below step due) h = rw (tells_of p w b.standing Pause told proof h) (refl, due)
halts_say p w m b halt told proof (Halts.feasible c n below step none due) h = rw (tells_of p w b.standing Feasible told proof h) due.0

pub says_of : (p : LinearProgram) (w : Setting) (a b : Point) (halt : Halt) (told : HaltLine) (proof : Option Cert) → Runs p w a halt b → Shows p w b.standing halt told proof → Says p w b told
says_of p w a b halt told proof r h = halts_say p w r.before b halt told proof r.last h

-- ---- the stage
goes_stage : (p : LinearProgram) (rule : Rule) (most : ℕ) (pauses : Pauses) (a b : Point) → GoesOn p rule most pauses a b → b.standing.stage ≡ a.standing.stage
goes_stage p rule most pauses a b GoesOn.here = refl
goes_stage p rule most pauses a b (GoesOn.further m n on to) = to.step.moves.next.same_stage ∙ goes_stage p rule most pauses a m on

comes_stage : (p : LinearProgram) (rule : Rule) (most : ℕ) (pauses : Pauses) (a b : Point) → Comes p rule most pauses a b → b.standing.stage ≡ a.standing.stage
comes_stage p rule most pauses a b (Comes.there n on) = goes_stage p rule most pauses a b on
comes_stage p rule most pauses a b (Comes.behind c m n on below step) = step.moves.next.same_stage ∙ goes_stage p rule most pauses a m on

pub runs_stage : (p : LinearProgram) (w : Setting) (a b : Point) (halt : Halt) → Runs p w a halt b → b.standing.stage ≡ a.standing.stage
runs_stage p w a b halt r = comes_stage p w.rule w.most w.pauses a b (runs_come p w a b halt r)

-- ---- of what the call of the engine told
pub runs_of : (p : LinearProgram) (w : Setting) (most : ℕ) (a b c d : Point) (halt : Halt) → RunsTo p w.rule most w.pauses a halt b → most ≡ w.most → a ≡ c → b ≡ d → Runs p w c halt d
runs_of p w most a b c d halt r up_to from to = subst₂ (λ x y. Runs p w x halt y) from to (subst (λ n. RunsTo p w.rule n w.pauses a halt b) up_to r)

pub point_same : (s t : Standing) (n m : ℕ) (k l : PricingState) → s ≡ t → n ≡ m → k ≡ l → ◌≡◌ {A = Point} (record { standing = s; pivots = n; pricing = k }) (record { standing = t; pivots = m; pricing = l })
point_same s t n m k l d e f = λ i. record { standing = d i; pivots = e i; pricing = f i }

-- ---- operations that pass
-- where a step passes
pub step_passes : (p : LinearProgram) (w : Setting) (a c : Point) (m n : ℕ) (passed : Passed) (g : RunFault) (most : ℕ) → PassesAt p w.rule most w.pauses a m passed → most ≡ w.most → a ≡ c → n ≡ m → g ≡ fault.Range w.stage n passed → IsStageFault p w c g
step_passes p w a c m n passed g most h up_to from count is = subst (IsStageFault p w c) (sym is) (refl, subst₂ (λ x k. PassesAt p w.rule w.most w.pauses x k passed) from (sym count) (subst (λ k. PassesAt p w.rule k w.pauses a m passed) up_to h))

-- where a halt is not told
pub telling_passes : (p : LinearProgram) (w : Setting) (s : Standing) (n : ℕ) (k : PricingState) (f : CertOfFault) (g : RunFault) → IsCertFault p s f → g ≡ number_fault w.stage n f → IsTellingFault p w (record { standing = s; pivots = n; pricing = k }) g
telling_passes p w s n k (certificate.Passed passed) g why is = subst (IsTellingFault p w (record { standing = s; pivots = n; pricing = k })) (sym is) (refl, refl, why)
telling_passes p w s n k certificate.NoMemory g why is = subst (IsTellingFault p w (record { standing = s; pivots = n; pricing = k })) (sym is) tt

-- in the numbers of the state to which a run has come
pub telling_fails : (p : LinearProgram) (w : Setting) (a b : Point) (halt : Halt) (g : RunFault) → Runs p w a halt b → IsTellingFault p w b g → IsStageFault p w a g
telling_fails p w a b halt (fault.Range stage pivots passed) r h = (h.0, record { at = b; comes = runs_come p w a b halt r; count = sym h.1; passes = h.2 })
telling_fails p w a b halt fault.Write r h = absurd h
telling_fails p w a b halt fault.NoMemory r h = tt
