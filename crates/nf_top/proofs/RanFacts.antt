-- What a run takes in is told in one way, so an accepted program is not refused.
use Rattle.std.proofs.Common.{◌≡◌, ◌∙◌, ◌<◌, ◌⊎◌, ℕ, true, List, Option, None, Some, Err, inl, inr, is_some, length, arith, refl, sym, ap, subst}
use Rattle.std.specs.Io.KnownBytes.{Consumes, IsAtEnd}
use Rattle.nf_io.specs.Causes.{Rose}
use Rattle.nf_io.specs.Held.{Held, HasName}
use Rattle.nf_table.specs.Grid.{Grid}
use Rattle.nf_table.specs.Reading.{table_read}
use Rattle.nf_model.specs.Program.{LinearProgram}
use Rattle.nf_program.specs.declared.program.Command.{Command}
use Rattle.nf_program.specs.declared.program.Command.TheVariants.{Run, Check, Again, Export}
use Rattle.nf_program.specs.declared.program.Program.{Program}
use Rattle.nf_program.specs.declared.program.SetName.{SetName}
use Rattle.nf_program.specs.declared.program.SetName.TheVariants as set
use Rattle.nf_program.specs.declared.program.StmtFault.{StmtFault}
use Rattle.nf_reader.specs.Faults.{HasFault}
use Rattle.nf_reader.proofs.Answered.{one_program, never_both}
use Rattle.nf_top.specs.declared.refusal.Refusal.{Refusal}
use Rattle.nf_top.specs.declared.refusal.Refusal.TheVariants as refusal
use Rattle.nf_top.specs.declared.status.Status.{Status}
use Rattle.nf_top.specs.declared.status.Status.TheVariants as status
use Rattle.nf_top.specs.Data.{Sets, IsTable, bytes_of, data_of}
use Rattle.nf_top.specs.Headline.{IsAccepted, RunsTheAccepted}
use Rattle.nf_top.specs.Outcome.{Call, Comes, FetchesSets, Input, IsHeldOrNone, NamesSets, ReadsProgram, Refuses, name_of}
use Rattle.nf_top.specs.ProblemOf.{Refusal as ProblemRefusal, OfData, OfRoles, problem_of}
use Rattle.nf_top.specs.Standing.{IsStanding, SetNames, StandsForRun, most_program}
use Rattle.nf_top.specs.Words.{IsCommand}
use Rattle.nf_top.proofs.CompleteFacts.{all-consumed, data-same, front-consumed, has-set, held-same, held-there, never-both, never-lacks, never-many, never-posed, some-same, table-short}
use Rattle.nf_top.proofs.PlainFacts.{arcs_table, cons_table, nodes_table}
use Rattle.nf_top.proofs.RangeFacts.{run_names}
use Rattle.nf_top.proofs.WordFacts.{not-both, one-command}

run-program-same : (i : Input) (problem : LinearProgram) (k : IsAccepted i problem) (q : Program) → ReadsProgram i Run q → q ≡ k.program
run-program-same i problem k q h =
    let t : k.text ≡ h.text = all-consumed i.rest k.text h.text (rw k.told at h.taken) h.ended in
    one_program Run h.text q k.program h.spelled (rw t at k.spelled)

one-run-names : (p q : Program) (m n : SetNames) → p ≡ q → StandsForRun p m → StandsForRun q n → m ≡ n
one-run-names p q m n e h k = λ i. record {
  arcdata = some-same p.proc.arcdata q.proc.arcdata m.arcdata n.arcdata (ap (λ r. r.proc.arcdata) e) h.arcdata k.arcdata i;
  nodedata = (sym h.nodedata ∙ (ap (λ r. r.proc.nodedata) e ∙ k.nodedata)) i;
  condata = (sym h.condata ∙ (ap (λ r. r.proc.condata) e ∙ k.condata)) i;
  certdata = (h.certdata ∙ sym k.certdata) i;
}

run-names-same : (i : Input) (problem : LinearProgram) (k : IsAccepted i problem) (n : SetNames) → NamesSets i Run n → n ≡ k.names
run-names-same i problem k n h = one-run-names h.program k.program n k.names (run-program-same i problem k h.program h.reads) h.stands k.stands

run-name-same : (i : Input) (problem : LinearProgram) (k : IsAccepted i problem) (n : SetNames) → NamesSets i Run n
    → (s : SetName) → IsHeldOrNone i.held (name_of n s) (bytes_of k.sets s)
run-name-same i problem k n h s = rw (run-names-same i problem k n h) (has-set i.held k.names k.sets k.holds s)

run-sets-same : (i : Input) (problem : LinearProgram) (k : IsAccepted i problem) (sets : Sets) → FetchesSets i Run sets
    → (s : SetName) → bytes_of sets s ≡ bytes_of k.sets s
run-sets-same i problem k sets h s =
    held-same k.library (name_of h.names s) _ _ (rw k.tells at (has-set i.held h.names sets h.held s)) (rw k.tells at (run-name-same i problem k h.names h.named s))

run-name-there : (i : Input) (problem : LinearProgram) (k : IsAccepted i problem) (n : SetNames) → NamesSets i Run n
    → (s : SetName) (name : List ℕ) → Some name ≡ name_of n s → (b : List ℕ) × HasName (Some k.library) name b × (bytes_of k.sets s ≡ Some b)
run-name-there i problem k n h s name is =
    held-there (Some k.library) name (bytes_of k.sets s) (rw k.tells at (rw (sym is) at (run-name-same i problem k n h s)))

-- a set without a name has no bytes
none-held : (m : Option Held) (n o : Option (List ℕ)) (b : List ℕ) → n ≡ None → IsHeldOrNone m n o → o ≡ Some b → ⊥
none-held m None None b e h k = cc k
none-held m None (Some d) b e h k = h
none-held m (Some a) o b e h k = cc e

has-run-table : (i : Input) (problem : LinearProgram) (k : IsAccepted i problem) (s : SetName) (b : List ℕ) → bytes_of k.sets s ≡ Some b → (g : Grid) × IsTable b g
has-run-table i problem k set.Arcdata b e = let t = arcs_table k.program (data_of k.sets) k.posed.network k.posed.posed in (t.0, subst (λ v. IsTable v t.0) (cc e) t.1)
has-run-table i problem k set.Nodedata b e = nodes_table k.program (data_of k.sets) k.posed.network k.posed.posed b e
has-run-table i problem k set.Condata b e = cons_table k.program (data_of k.sets) k.posed.network k.posed.posed b e
has-run-table i problem k set.Certdata b e = absurd (none-held i.held k.names.certdata k.sets.certdata b k.stands.certdata k.holds.certdata e)
has-run-table i problem k set.Conin b e = cc e
has-run-table i problem k set.Dualin b e = cc e
has-run-table i problem k set.Sessiondata b e = cc e
has-run-table i problem k set.Proc b e = cc e

run-never-refused : (i : Input) (problem : LinearProgram) (k : IsAccepted i problem) (sets : Sets) (f : FetchesSets i Run sets) (r : ProblemRefusal)
    → problem_of f.named.program (data_of sets) ≡ Err r → ⊥
run-never-refused i problem k sets f r h =
    never-posed problem_of f.named.program k.program (data_of sets) (data_of k.sets) r k.posed.network
    (run-program-same i problem k f.named.program f.named.reads) (data-same sets k.sets (run-sets-same i problem k sets f)) h k.posed.posed

-- the words are those of `run`
is-run : (i : Input) (problem : LinearProgram) → IsAccepted i problem → (c : Command) → IsCommand c i.words → c ≡ Run
is-run i problem k c words = one-command i.words c Run words k.words

run-no-text : (i : Input) (problem : LinearProgram) (k : IsAccepted i problem) (text : List ℕ) (f : StmtFault)
    → Consumes i.left i.rest text → HasFault Run text f → (most_program < length text) ⊎ IsAtEnd i.rest → ⊥
run-no-text i problem k text f h fault (inl long) =
    let within = front-consumed i.rest k.text text (rw k.told at h) in
    omega (arith, long, within, k.spelled.0)
run-no-text i problem k text f h fault (inr ended) =
    never_both Run text k.program f (rw (all-consumed i.rest k.text text (rw k.told at h) ended) at k.spelled) fault

stands-to-run : (p q : Program) → p ≡ q → (n : SetNames) → StandsForRun q n → IsStanding Run p
stands-to-run p q e n h = rw e (n, h)

run-refused-none : (i : Input) (problem : LinearProgram) (k : IsAccepted i problem) (c : Command) (sets : Sets) (f : FetchesSets i c sets) (r : ProblemRefusal)
    → problem_of f.named.program (data_of sets) ≡ Err r → ⊥
run-refused-none i problem k Run sets f r h = run-never-refused i problem k sets f r h
run-refused-none i problem k Check sets f r h = not-both i.words f.named.reads.words k.words
run-refused-none i problem k Again sets f r h = absurd f.named.reads.words
run-refused-none i problem k Export sets f r h = absurd f.named.reads.words

run-not-taken : (i : Input) (problem : LinearProgram) (k : IsAccepted i problem) (p : Program) → ReadsProgram i Run p → (IsStanding Run p → ⊥) → ⊥
run-not-taken i problem k p reads none = none (stands-to-run p k.program (run-program-same i problem k p reads) k.names k.stands)

-- what the call met is of `run`
named-run : (i : Input) (problem : LinearProgram) → IsAccepted i problem → (c : Command) (n : SetNames) → NamesSets i c n → NamesSets i Run n
named-run i problem k c n h = subst (λ d. NamesSets i d n) (is-run i problem k c h.reads.words) h

fetched-run : (i : Input) (problem : LinearProgram) → IsAccepted i problem → (c : Command) (sets : Sets) → FetchesSets i c sets → FetchesSets i Run sets
fetched-run i problem k c sets h = subst (λ d. FetchesSets i d sets) (is-run i problem k c h.named.reads.words) h

-- no refusal is met
run-not-refused : (i : Input) (problem : LinearProgram) (k : IsAccepted i problem)
    → (Rose i.source_faults i.source_faults_after → ⊥) → (Rose i.fetch_faults i.fetch_faults_after → ⊥) → (r : Refusal) → Refuses i r → ⊥
run-not-refused i problem k s l refusal.Usage (other, none) = other Run k.words
run-not-refused i problem k s l (refusal.NoProgram fault) (c, words, text, taken, found, why, all) =
    run-no-text i problem k text fault taken (subst (λ d. HasFault d text fault) (is-run i problem k c words) found) why
run-not-refused i problem k s l refusal.NotStanding (c, p, reads, none, all) =
    let e = is-run i problem k c reads.words in
    run-not-taken i problem k p (subst (λ d. ReadsProgram i d p) e reads) (subst (λ d. IsStanding d p → ⊥) e none)
run-not-refused i problem k s l refusal.ReadFault (c, words, there, inl (rose, sound)) = s rose
run-not-refused i problem k s l refusal.ReadFault (c, words, there, inr (n, set, name, named, before, is, rose)) = l rose
run-not-refused i problem k s l (refusal.Absent name) (c, p, set, reads, before, is, lacks, rose, sound) =
    let b = run-name-there i problem k p (named-run i problem k c p reads) set name is in
    never-lacks k.library name b.0 b.1 (rw k.tells at lacks)
run-not-refused i problem k s l (refusal.TooLong set) (c, p, name, reads, before, is, many, all) =
    let b = run-name-there i problem k p (named-run i problem k c p reads) set name is in
    let t = has-run-table i problem k set b.0 b.2 in
    never-many k.library name b.0 b.1 (table-short b.0 t.0 t.1) (rw k.tells at many)
run-not-refused i problem k s l (refusal.NoTable set fault) (c, sets, bytes, fetched, before, is, e) =
    let t = has-run-table i problem k set bytes (sym (run-sets-same i problem k sets (fetched-run i problem k c sets fetched) set) ∙ sym is) in
    never-both table_read bytes bytes fault t.0 refl e t.1
run-not-refused i problem k s l (refusal.NoRoles set fault) (c, sets, fetched, t, tables, e) = run-refused-none i problem k c sets fetched (OfRoles set fault) e
run-not-refused i problem k s l (refusal.NoNetwork fault) (c, sets, fetched, t, tables, e) = run-refused-none i problem k c sets fetched (OfData fault) e
run-not-refused i problem k s l (refusal.NoCertificate fault) (sets, q, poses, table, is, e) = not-both i.words poses.fetches.named.reads.words k.words
run-not-refused i problem k s l (refusal.NotValid told) (q, x, why, reads, answered, is) = not-both i.words reads.poses.fetches.named.reads.words k.words
run-not-refused i problem k s l (refusal.Range passed) (q, x, reads, passes) = not-both i.words reads.poses.fetches.named.reads.words k.words

-- an accepted program is run if nothing fails
pub runs-accepted : (c : Call) (s : Status) → Comes c s → RunsTheAccepted c s
runs-accepted c status.Finished h = λ p n w k. inl refl
runs-accepted c status.Usage h = λ p n w k. absurd (run-not-refused c.input p k n.source n.library refusal.Usage h.0)
runs-accepted c status.ProgramRefused (inl (fault, (h, l, kept))) = λ p n w k. absurd (run-not-refused c.input p k n.source n.library (refusal.NoProgram fault) h)
runs-accepted c status.ProgramRefused (inr (h, l, kept)) = λ p n w k. absurd (run-not-refused c.input p k n.source n.library refusal.NotStanding h)
runs-accepted c status.DataRefused (inl (set, (h, l, kept))) = λ p n w k. absurd (run-not-refused c.input p k n.source n.library (refusal.TooLong set) h)
runs-accepted c status.DataRefused (inr (inl (set, fault, (h, l, kept)))) = λ p n w k. absurd (run-not-refused c.input p k n.source n.library (refusal.NoTable set fault) h)
runs-accepted c status.DataRefused (inr (inr (inl (set, fault, (h, l, kept))))) = λ p n w k. absurd (run-not-refused c.input p k n.source n.library (refusal.NoRoles set fault) h)
runs-accepted c status.DataRefused (inr (inr (inr (fault, (h, l, kept))))) = λ p n w k. absurd (run-not-refused c.input p k n.source n.library (refusal.NoNetwork fault) h)
runs-accepted c status.ReadFault h = λ p n w k. absurd (run-not-refused c.input p k n.source n.library refusal.ReadFault h.0)
runs-accepted c status.WriteFault (inl h) = λ p n w k. absurd (n.listing h.0)
runs-accepted c status.WriteFault (inr h) = λ p n w k. absurd (w h.0)
runs-accepted c status.Absent (name, (h, l, kept)) = λ p n w k. absurd (run-not-refused c.input p k n.source n.library (refusal.Absent name) h)
runs-accepted c status.RangePassed (inl (passed, (h, l, kept))) = λ p n w k. absurd (run-not-refused c.input p k n.source n.library (refusal.Range passed) h)
runs-accepted c status.RangePassed (inr (program, problem, runs, front, stage, pivots, passed, cut, of_two, listed, kept)) =
    λ p n w k. inr (inl (refl, subst (λ q. is_some q.proc.condata ≡ true) (run-program-same c.input p k program runs.reads) (run_names c.input program problem runs of_two.exists)))
runs-accepted c status.CheckRefused (inl (fault, (h, l, kept))) = λ p n w k. absurd (run-not-refused c.input p k n.source n.library (refusal.NoCertificate fault) h)
runs-accepted c status.CheckRefused (inr (why, (h, l, kept))) = λ p n w k. absurd (run-not-refused c.input p k n.source n.library (refusal.NotValid why) h)
runs-accepted c status.NoMemory h = λ p n w k. inr (inr refl)
runs-accepted c status.WarmRefused h = absurd h
