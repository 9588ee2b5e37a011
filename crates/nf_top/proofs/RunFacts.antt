-- How a run ends, of what its statements told.
use Rattle.std.proofs.Common.{◌≡◌, ◌⊎◌, ◌≤◌, ◌+◌, ◌++◌, ℕ, List, Option, None, Some, take, length, inl, inr, sym, subst, arith, length-append, refl}
use Rattle.std.proofs.Math.Seq.{take-append-add, take-append_seam}
use Rattle.std.specs.Borrow.{Bor}
use Rattle.std.specs.Option.{option_copied}
use Rattle.std.specs.Io.KnownBytes.{Appends}
use Rattle.nf_io.specs.Causes.{Rose}
use Rattle.nf_io.specs.Held.{Held, Stored}
use Rattle.nf_io.specs.Progress.{PutPrefix}
use Rattle.nf_io.proofs.KnownFacts.{appends-more}
use Rattle.nf_frac.specs.declared.passed.Passed.{Passed}
use Rattle.nf_model.specs.Program.{LinearProgram}
use Rattle.nf_prob.specs.declared.cert.Cert.{Cert}
use Rattle.nf_prob.specs.declared.cert.Cert.TheVariants as cert
use Rattle.nf_program.specs.declared.program.Program.{Program}
use Rattle.nf_program.specs.declared.program.Statement.{Statement}
use Rattle.nf_program.specs.declared.program.Command.TheVariants.{Run}
use Rattle.nf_run.specs.declared.event.RunFault.{RunFault}
use Rattle.nf_run.specs.declared.event.RunFault.TheVariants as fault
use Rattle.nf_run.specs.declared.line.HaltLine.{HaltLine}
use Rattle.nf_run.specs.declared.line.HaltLine.TheVariants as line
use Rattle.nf_run.specs.Endings.{HasProof, IsDue as IsDueAtEnd, Stores}
use Rattle.nf_run.specs.Runs.{Event, IsCut}
use Rattle.nf_no_range.specs.Law.{IsOfStageTwo}
use Rattle.nf_run.specs.Stops.{ListsAll, ListsFront, ListsPart, StopsAtStore, StopsWith}
use Rattle.nf_run.specs.Verdicts as run
use Rattle.nf_top.specs.declared.status.Status.TheVariants as status
use Rattle.nf_top.specs.Headline.{IsProofOf, RunIsExplained, StoresProof}
use Rattle.nf_certify.specs.Certificates.{IsValid}
use Rattle.nf_top.specs.Lines.{step_range_line}
use Rattle.nf_top.specs.Outcome.{Call, Comes, KeepsLibrary, RunsOn}
use Rattle.nf_top.specs.Steps.{lent_name}
use Rattle.nf_top.specs.Words.{IsCommand}
use Rattle.nf_top.proofs.WordFacts.{not-both}

later_rose : (a b c : ℕ) → a ≤ b → Rose b c → Rose a c
later_rose a b c h k = omega (arith, h, k)

-- a name that is lent
pub lent_is : (o : Option (Bor (List ℕ))) (n : Option (List ℕ)) → lent_name o ≡ n → option_copied o ≡ n
lent_is None n e = e
lent_is (Some name) n e = e

-- ---- of what the statements told
module _ (c : Call) (program : Program) (problem : LinearProgram) (runs : RunsOn c.input program problem)
    (acts : List Statement) (certout : Option (List ℕ)) (held : Option Held) (stores : ℕ) (same : acts ≡ program.acts) (named : certout ≡ program.proc.certout) (from : held ≡ c.input.held) (since : stores ≡ c.store_faults) where
  here : (P : List Statement → Option (List ℕ) → Option Held → ℕ → Type 0) → P acts certout held stores → P program.acts program.proc.certout c.input.held c.store_faults
  here P h = subst (λ n. P program.acts program.proc.certout c.input.held n) since (subst (λ m. P program.acts program.proc.certout m stores) from (subst (λ n. P program.acts n held stores) named (subst (λ a. P a certout held stores) same h)))

  -- the whole program was obeyed
  pub run_all : ListsAll problem program.proc.session acts certout c.written c.put held c.held → Comes c status.Finished
  run_all h = inr (program, problem, runs, here (λ a n m s. ListsAll problem program.proc.session a n c.written c.put m c.held) h)

  stops_here : (f g : RunFault) → f ≡ g → StopsWith problem program.proc.session acts certout c.written c.put c.sink_faults c.sink_faults_after held c.held stores c.store_faults_after f
      → StopsWith problem program.proc.session program.acts program.proc.certout c.written c.put c.sink_faults c.sink_faults_after c.input.held c.held c.store_faults c.store_faults_after g
  stops_here f g e h =
      subst (λ x. StopsWith problem program.proc.session program.acts program.proc.certout c.written c.put c.sink_faults c.sink_faults_after c.input.held c.held c.store_faults c.store_faults_after x) e
      (here (λ a n m s. StopsWith problem program.proc.session a n c.written c.put c.sink_faults c.sink_faults_after m c.held s c.store_faults_after f) h)

  -- a write or the store failed
  written_part : (Rose c.sink_faults c.sink_faults_after × (ListsFront problem program.proc.session program.acts c.written c.put c.input.held c.held ⊎ ListsPart problem program.proc.session program.acts program.proc.certout c.written c.put c.input.held c.held))
      ⊎ (Rose c.store_faults c.store_faults_after × StopsAtStore problem program.proc.session program.acts program.proc.certout c.written c.put c.input.held c.held) → Comes c status.WriteFault
  written_part (inl (rose, inl (text, front, put, kept))) = inl (rose, inl (text, inr (inr (program, problem, runs, inl front)), put, kept))
  written_part (inl (rose, inr part)) = inl (rose, inr (program, problem, runs, part))
  written_part (inr (rose, stops)) = inr (rose, (program, problem, runs, stops))

  pub run_write : (f : RunFault) → f ≡ fault.Write → StopsWith problem program.proc.session acts certout c.written c.put c.sink_faults c.sink_faults_after held c.held stores c.store_faults_after f → Comes c status.WriteFault
  run_write f e h = written_part (stops_here f fault.Write e h)

  -- memory ran out
  starved_part : ListsFront problem program.proc.session program.acts c.written c.put c.input.held c.held ⊎ ListsPart problem program.proc.session program.acts program.proc.certout c.written c.put c.input.held c.held → Comes c status.NoMemory
  starved_part (inl (text, front, put, kept)) = inr (inl (text, inr (inr (program, problem, runs, inl front)), put, kept))
  starved_part (inr part) = inr (inr (program, problem, runs, part))

  pub run_memory : (f : RunFault) → f ≡ fault.NoMemory → StopsWith problem program.proc.session acts certout c.written c.put c.sink_faults c.sink_faults_after held c.held stores c.store_faults_after f → Comes c status.NoMemory
  run_memory f e h = starved_part (stops_here f fault.NoMemory e h)

-- where one passes, there is a front of the listing, and nothing is stored
pub run_cut : (program : Program) (problem : LinearProgram) (acts : List Statement) (certout old new : Option (List ℕ)) (before after : ℕ) (held now : Option Held) (stores stores_after stage pivots : ℕ) (passed : Passed) (f : RunFault) → acts ≡ program.acts
    → StopsWith problem program.proc.session acts certout old new before after held now stores stores_after f → f ≡ fault.Range stage pivots passed
    → (front : List ℕ) × IsCut problem program.proc.session program.acts front stage pivots passed × Appends old new front × (now ≡ held)
run_cut program problem acts certout old new before after held now stores stores_after stage pivots passed f same h e =
    let k : StopsWith problem program.proc.session program.acts certout old new before after held now stores stores_after (fault.Range stage pivots passed) =
    subst (λ g. StopsWith problem program.proc.session program.acts certout old new before after held now stores stores_after g) e (subst (λ a. StopsWith problem program.proc.session a certout old new before after held now stores stores_after f) same h) in
    (k.0, k.1, k.2, k.3)

-- ---- an operation passes
put_after : (old mid new : Option (List ℕ)) (text more : List ℕ) → Appends old mid text → PutPrefix mid new more → PutPrefix old new (text ++ more)
put_after old mid new text more h k = (
  length text + k.0,
  subst (λ n. length text + k.0 ≤ n) (sym (length-append text more)) (let l = k.1 in omega arith),
  subst (Appends old new) (sym (take-append-add text more k.0)) (appends-more old mid new text (take k.0 more) h k.2),
)

module _ (c : Call) (program : Program) (problem : LinearProgram) (front : List ℕ) (stage pivots : ℕ) (passed : Passed) (mid : Option (List ℕ)) (runs : RunsOn c.input program problem)
    (cut : IsCut problem program.proc.session program.acts front stage pivots passed) (of_two : IsOfStageTwo problem stage passed) (listed : Appends c.written mid front) (kept : KeepsLibrary c) where
  pub range_told : (line : List ℕ) → line ≡ step_range_line stage pivots passed → Appends mid c.put line → Comes c status.RangePassed
  range_told line is told = inr (program, problem, runs, front, stage, pivots, passed, cut, of_two, appends-more c.written mid c.put front (step_range_line stage pivots passed) listed (subst (Appends mid c.put) is told), kept)

  pub range_failed : (line : List ℕ) (then : ℕ) → line ≡ step_range_line stage pivots passed → c.sink_faults ≤ then → Rose then c.sink_faults_after → PutPrefix mid c.put line → Comes c status.WriteFault
  range_failed line then is later rose told = inl (
    later_rose c.sink_faults then c.sink_faults_after later rose,
    inl (front ++ step_range_line stage pivots passed, inr (inr (program, problem, runs, inr (front, stage, pivots, passed, cut, refl))), put_after c.written mid c.put front (step_range_line stage pivots passed) listed (subst (PutPrefix mid c.put) is told), kept),
  )

  pub range_starved : (line : List ℕ) → line ≡ step_range_line stage pivots passed → PutPrefix mid c.put line → Comes c status.NoMemory
  range_starved line is told =
      inr (inl (front ++ step_range_line stage pivots passed, inr (inr (program, problem, runs, inr (front, stage, pivots, passed, cut, refl))), put_after c.written mid c.put front (step_range_line stage pivots passed) listed (subst (PutPrefix mid c.put) is told), kept))

  -- nothing of the line was written
  pub range_untold : c.put ≡ mid → Comes c status.NoMemory
  range_untold same = inr (inl (
    front ++ step_range_line stage pivots passed,
    inr (inr (program, problem, runs, inr (front, stage, pivots, passed, cut, refl))),
    (
      length front,
      subst (λ n. length front ≤ n) (sym (length-append front (step_range_line stage pivots passed))) (omega arith),
      subst (Appends c.written c.put) (sym (take-append_seam front (step_range_line stage pivots passed))) (subst (λ n. Appends c.written n front) (sym same) listed),
    ),
    kept,
  ))

-- ---- the headline of a run
pub run-explained : (c : Call) → IsCommand Run c.input.words → Comes c status.Finished → RunIsExplained c
run-explained c words (inl (line, accepts, l, kept)) = absurd (not-both c.input.words accepts.reads.poses.fetches.named.reads.words words)
run-explained c words (inr (program, problem, runs, (stored, text, listing, listed, kept))) =
    record { program = program; problem = problem; runs = runs; stored = stored; text = text; listing = listing; listed = listed; kept = kept }

-- ---- what is stored
valid_of : (p : LinearProgram) (c : Cert) (told : HaltLine) → run.Proves p c told → IsValid p c
valid_of p (cert.Best flows duals) (line.Optimal f) h = h.0
valid_of p (cert.Best flows duals) (line.Infeasible f) h = absurd h
valid_of p (cert.Best flows duals) (line.Unbounded f) h = absurd h
valid_of p (cert.Best flows duals) (line.Limit stage most) h = absurd h
valid_of p (cert.Best flows duals) (line.Pause stage) h = absurd h
valid_of p (cert.Best flows duals) line.Feasible h = absurd h
valid_of p (cert.Farkas duals) (line.Infeasible f) h = h.0
valid_of p (cert.Farkas duals) (line.Optimal f) h = absurd h
valid_of p (cert.Farkas duals) (line.Unbounded f) h = absurd h
valid_of p (cert.Farkas duals) (line.Limit stage most) h = absurd h
valid_of p (cert.Farkas duals) (line.Pause stage) h = absurd h
valid_of p (cert.Farkas duals) line.Feasible h = absurd h
valid_of p (cert.Ray flows ray) (line.Unbounded f) h = h.0
valid_of p (cert.Ray flows ray) (line.Optimal f) h = absurd h
valid_of p (cert.Ray flows ray) (line.Infeasible f) h = absurd h
valid_of p (cert.Ray flows ray) (line.Limit stage most) h = absurd h
valid_of p (cert.Ray flows ray) (line.Pause stage) h = absurd h
valid_of p (cert.Ray flows ray) line.Feasible h = absurd h

abbrev NothingOrProof : LinearProgram → Option (List ℕ) → Option Held → Option Held → Type 0
NothingOrProof p certout held now = (now ≡ held) ⊎ ((name bytes : List ℕ) × (told : HaltLine) × (certout ≡ Some name) × Stored held now name bytes × IsProofOf p told bytes)

stored_proof : (p : LinearProgram) (events : List Event) (certout : Option (List ℕ)) (proof : Option Cert) (stored : Option (List ℕ)) (ending : List ℕ) (held now : Option Held) → HasProof p events proof → IsDueAtEnd p certout proof stored ending
    → Stores certout stored held now → NothingOrProof p certout held now
stored_proof p events None proof stored ending held now has due kept = inl kept
stored_proof p events (Some name) proof None ending held now has due kept = inl kept
stored_proof p events (Some name) None (Some bytes) ending held now has due kept = absurd (let e : Some bytes ≡ None = due.0 in cc)
stored_proof p events (Some name) (Some x) (Some bytes) ending held now has due kept =
    inr (name, bytes, has.0.line, refl, kept, record { certificate = x; rows = due.0; saved = due.1; proves = has.2.1.proves; valid = valid_of p x has.0.line has.2.1.proves })

pub stores-proof : (c : Call) → IsCommand Run c.input.words → Comes c status.Finished → StoresProof c
stores-proof c words (inl (line, accepts, l, kept)) = absurd (not-both c.input.words accepts.reads.poses.fetches.named.reads.words words)
stores-proof c words (inr (program, problem, runs, (stored, text, listing, listed, kept))) = record {
  program = program;
  problem = problem;
  runs = runs;
  nothing_or_proof = stored_proof problem listing.lists.events program.proc.certout listing.proof stored listing.ending c.input.held c.held listing.proved listing.due kept;
}
