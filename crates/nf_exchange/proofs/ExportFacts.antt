-- What `export` promises, from how it ends: what it takes in is told in one way.
use Rattle.std.proofs.Common.{◌≡◌, ◌∙◌, ◌<◌, ◌⊎◌, ℕ, List, [], Option, None, Some, Result, Ok, Err, inl, inr, length, arith, ap, refl, sym, subst}
use Rattle.std.specs.Io.KnownBytes.{Consumes, IsAtEnd}
use Rattle.nf_io.specs.Causes.{Rose}
use Rattle.nf_io.specs.Held.{Held, HasName}
use Rattle.nf_model.specs.Program.{LinearProgram}
use Rattle.nf_program.specs.declared.program.Command.TheVariants.{Export}
use Rattle.nf_program.specs.declared.program.Program.{Program}
use Rattle.nf_program.specs.declared.program.SetName.{SetName}
use Rattle.nf_program.specs.declared.program.SetName.TheVariants as set
use Rattle.nf_program.specs.declared.program.StmtFault.{StmtFault}
use Rattle.nf_program.specs.Grammar.{HasProgram}
use Rattle.nf_reader.specs.Faults.{HasFault}
use Rattle.nf_reader.proofs.Answered.{one_program, never_both}
use Rattle.nf_table.specs.Grid.{Grid}
use Rattle.nf_table.specs.Reading.{table_read}
use Rattle.nf_dimacs_writer.specs.Refusal.{refusal_of}
use Rattle.nf_dimacs_writer.specs.declared.fault.ExportFault.{ExportFault}
use Rattle.nf_top.specs.declared.status.Status.{Status}
use Rattle.nf_top.specs.declared.status.Status.TheVariants as status
use Rattle.nf_top.specs.Data.{IsTable, Sets, bytes_of, data_of}
use Rattle.nf_top.specs.Headline.{NothingFails}
use Rattle.nf_top.specs.Outcome.{Call, Input, IsHeldOrNone, Lists, name_of}
use Rattle.nf_top.specs.ProblemOf.{Refusal as ProblemRefusal, OfData, OfRoles, problem_of}
use Rattle.nf_top.specs.Standing.{SetNames, most_program}
use Rattle.nf_top.proofs.CompleteFacts.{all-consumed, data-same, front-consumed, has-set, held-same, held-there, never-both, never-lacks, never-many, never-posed, some-same, table-short}
use Rattle.nf_top.proofs.PlainFacts.{arcs_table, cons_table, nodes_table}
use Rattle.nf_exchange.specs.declared.refusal.Refusal.{Refusal}
use Rattle.nf_exchange.specs.declared.refusal.Refusal.TheVariants as refusal
use Rattle.nf_exchange.specs.Ending.{Concludes}
use Rattle.nf_exchange.specs.Export.{ComesToFetch, ExportEnds, FetchesSets, IsDue, IsExportable, IsExported, IsRefused, NamesSets, PosesProblem, ReadsProgram}
use Rattle.nf_exchange.specs.Lines.{refusal_status}
use Rattle.nf_exchange.specs.Promises.{ExportsTheProblem, HasExported, IsAccepted, IsNotTaken, MayEndExport, RefusesNoProblem, RefusesNoProgram}
use Rattle.nf_exchange.proofs.EndFacts.{never-finished, refusal-ends}

-- ---- what a finish means
pub has-exported : (c : Call) (s : Status) → ExportEnds c s → s ≡ status.Finished → HasExported c
has-exported c s h e = go h.ends
  where
    go : ((text : List ℕ) × (due : Status) × IsDue c.input text due × Concludes text due c s) ⊎ ((s ≡ status.NoMemory) × Lists c []) → HasExported c
    go (inl (text, due, inl (exported, is), inl (same, listed))) = record { text = text; exported = exported; listed = listed }
    go (inl (text, due, inr (r, refused, line, is), inl (same, listed))) = absurd (never-finished r (sym is ∙ (sym same ∙ e)))
    go (inl (text, due, why, inr (inl (is, rose, put)))) = absurd (cc (e, is))
    go (inl (text, due, why, inr (inr (is, put)))) = absurd (cc (e, is))
    go (inr (is, rest)) = absurd (cc (e, is))

-- ---- its statuses
pub may-end : (c : Call) (s : Status) → ExportEnds c s → MayEndExport s
may-end c s h = go h.ends
  where
    go : ((text : List ℕ) × (due : Status) × IsDue c.input text due × Concludes text due c s) ⊎ ((s ≡ status.NoMemory) × Lists c []) → MayEndExport s
    go (inl (text, due, inl (exported, is), inl (same, listed))) = subst MayEndExport (sym (same ∙ is)) tt
    go (inl (text, due, inr (r, refused, line, is), inl (same, listed))) = subst MayEndExport (sym (same ∙ is)) (refusal-ends r)
    go (inl (text, due, why, inr (inl (is, rose, put)))) = subst MayEndExport (sym is) tt
    go (inl (text, due, why, inr (inr (is, put)))) = subst MayEndExport (sym is) tt
    go (inr (is, rest)) = subst MayEndExport (sym is) tt

-- ---- one program, one list of names, one problem
posed-twice : {P S N E : Type 0} (f : P → S → Result N E) (p q : P) (a b : S) (m n : N) → p ≡ q → a ≡ b → f p a ≡ Ok m → f q b ≡ Ok n → m ≡ n
posed-twice f p q a b m n e g x y = cc

one-names : (p q : Program) (m n : SetNames) → p ≡ q → IsExportable p m → IsExportable q n → m ≡ n
one-names p q m n e h k = λ i. record {
  arcdata = some-same p.proc.arcdata q.proc.arcdata m.arcdata n.arcdata (ap (λ r. r.proc.arcdata) e) h.arcdata k.arcdata i;
  nodedata = (sym h.nodedata ∙ (ap (λ r. r.proc.nodedata) e ∙ k.nodedata)) i;
  condata = (sym h.condata ∙ (ap (λ r. r.proc.condata) e ∙ k.condata)) i;
  certdata = (h.certdata ∙ sym k.certdata) i;
}

-- a set without a name has no bytes
none-held : (m : Option Held) (n o : Option (List ℕ)) (b : List ℕ) → n ≡ None → IsHeldOrNone m n o → o ≡ Some b → ⊥
none-held m None None b e h k = cc k
none-held m None (Some d) b e h k = h
none-held m (Some a) o b e h k = cc e

stands-here : (p q : Program) → p ≡ q → (n : SetNames) → IsExportable q n → IsExportable p n
stands-here p q e n h = rw e h

module _ (i : Input) (problem : LinearProgram) (k : IsAccepted i problem) where
  program-same : (q : Program) → ReadsProgram i q → q ≡ k.program
  program-same q h =
      let t : k.text ≡ h.text = all-consumed i.rest k.text h.text (rw k.told at h.taken) h.ended in
      one_program Export h.text q k.program h.spelled (rw t at k.spelled)

  names-same : (n : SetNames) → NamesSets i n → n ≡ k.names
  names-same n h = one-names h.program k.program n k.names (program-same h.program h.reads) h.stands k.stands

  name-same : (n : SetNames) → NamesSets i n → (s : SetName) → IsHeldOrNone i.held (name_of n s) (bytes_of k.sets s)
  name-same n h s = rw (names-same n h) (has-set i.held k.names k.sets k.holds s)

  sets-same : (sets : Sets) → FetchesSets i sets → (s : SetName) → bytes_of sets s ≡ bytes_of k.sets s
  sets-same sets h s = held-same k.library (name_of h.names s) _ _ (rw k.tells at (has-set i.held h.names sets h.held s)) (rw k.tells at (name-same h.names h.named s))

  name-there : (s : SetName) (name : List ℕ) → ComesToFetch i s name → (b : List ℕ) × HasName (Some k.library) name b × (bytes_of k.sets s ≡ Some b)
  name-there s name h = held-there (Some k.library) name (bytes_of k.sets s) (rw k.tells at (rw (sym h.is) at (name-same h.names h.named s)))

  has-table : (s : SetName) (b : List ℕ) → bytes_of k.sets s ≡ Some b → (g : Grid) × IsTable b g
  has-table set.Arcdata b e = let t = arcs_table k.program (data_of k.sets) k.posed.network k.posed.posed in (t.0, subst (λ v. IsTable v t.0) (cc e) t.1)
  has-table set.Nodedata b e = nodes_table k.program (data_of k.sets) k.posed.network k.posed.posed b e
  has-table set.Condata b e = cons_table k.program (data_of k.sets) k.posed.network k.posed.posed b e
  has-table set.Certdata b e = absurd (none-held i.held k.names.certdata k.sets.certdata b k.stands.certdata k.holds.certdata e)
  has-table set.Conin b e = cc e
  has-table set.Dualin b e = cc e
  has-table set.Sessiondata b e = cc e
  has-table set.Proc b e = cc e

  never-refused : (sets : Sets) (f : FetchesSets i sets) (r : ProblemRefusal) → problem_of f.named.program (data_of sets) ≡ Err r → ⊥
  never-refused sets f r h =
      never-posed problem_of f.named.program k.program (data_of sets) (data_of k.sets) r k.posed.network
      (program-same f.named.program f.named.reads) (data-same sets k.sets (sets-same sets f)) h k.posed.posed

  problem-same : (q : LinearProgram) → PosesProblem i q → q ≡ problem
  problem-same q h =
      let network = posed-twice problem_of h.fetches.named.program k.program (data_of h.sets) (data_of k.sets) h.posed.network k.posed.network
      (program-same h.fetches.named.program h.fetches.named.reads) (data-same h.sets k.sets (sets-same h.sets h.fetches)) h.posed.posed k.posed.posed in
      h.posed.is ∙ (ap (λ n. n.program) network ∙ sym k.posed.is)

  no-text : (text : List ℕ) (f : StmtFault) → Consumes i.left i.rest text → HasFault Export text f → (most_program < length text) ⊎ IsAtEnd i.rest → ⊥
  no-text text f h fault (inl long) =
      let within = front-consumed i.rest k.text text (rw k.told at h) in
      omega (arith, long, within, k.spelled.0)
  no-text text f h fault (inr ended) = never_both Export text k.program f (rw (all-consumed i.rest k.text text (rw k.told at h) ended) at k.spelled) fault

  -- only a problem without a text is refused
  only-without-text : (Rose i.source_faults i.source_faults_after → ⊥) → (Rose i.fetch_faults i.fetch_faults_after → ⊥) → (r : Refusal) → IsRefused i r
      → (refusal_status r ≡ status.DataRefused) × (fault : ExportFault) × (refusal_of problem ≡ Some fault)
  only-without-text s l (refusal.NoProgram fault) (text, taken, found, why, all) = absurd (no-text text fault taken found why)
  only-without-text s l refusal.NotStanding (p, reads, none, all) = absurd (none k.names (stands-here p k.program (program-same p reads) k.names k.stands))
  only-without-text s l refusal.ReadFault (there, inl (rose, sound)) = absurd (s rose)
  only-without-text s l refusal.ReadFault (there, inr (set, name, comes, rose)) = absurd (l rose)
  only-without-text s l (refusal.Absent name) (set, comes, lacks, rose, sound) = let b = name-there set name comes in absurd (never-lacks k.library name b.0 b.1 (rw k.tells at lacks))
  only-without-text s l (refusal.TooLong set) (name, comes, many, all) =
      let b = name-there set name comes in
      let t = has-table set b.0 b.2 in
      absurd (never-many k.library name b.0 b.1 (table-short b.0 t.0 t.1) (rw k.tells at many))
  only-without-text s l (refusal.NoTable set fault) (sets, bytes, fetches, before, is, e) =
      let t = has-table set bytes (sym (sets-same sets fetches set) ∙ sym is) in
      absurd (never-both table_read bytes bytes fault t.0 refl e t.1)
  only-without-text s l (refusal.NoRoles set fault) (sets, fetches, t, tables, e) = absurd (never-refused sets fetches (OfRoles set fault) e)
  only-without-text s l (refusal.NoNetwork fault) (sets, fetches, t, tables, e) = absurd (never-refused sets fetches (OfData fault) e)
  only-without-text s l (refusal.NoText fault) (q, poses, e) = (refl, fault, subst (λ p. refusal_of p ≡ Some fault) (problem-same q poses) e)
  only-without-text s l (refusal.NoDimacs fault) h = absurd h

  has-text : (text : List ℕ) → IsExported i text → refusal_of problem ≡ None
  has-text text h = subst (λ p. refusal_of p ≡ None) (problem-same h.problem h.poses) h.has_text

-- ---- when it must finish
none-or-some : (o : Option ExportFault) (f : ExportFault) → o ≡ None → o ≡ Some f → ⊥
none-or-some o f h k = cc (h, k)

pub exports-problem : (c : Call) (s : Status) → ExportEnds c s → ExportsTheProblem c s
exports-problem c s h = λ problem n k none. go problem n k none h.ends
  where
    go : (problem : LinearProgram) → NothingFails c → IsAccepted c.input problem → refusal_of problem ≡ None
        → ((text : List ℕ) × (due : Status) × IsDue c.input text due × Concludes text due c s) ⊎ ((s ≡ status.NoMemory) × Lists c []) → (s ≡ status.Finished) ⊎ (s ≡ status.NoMemory)
    go problem n k none (inl (text, due, inl (exported, is), inl (same, listed))) = inl (same ∙ is)
    go problem n k none (inl (text, due, inr (r, refused, line, is), inl (same, listed))) =
        let without = only-without-text c.input problem k n.source n.library r refused in
        absurd (none-or-some (refusal_of problem) without.1 none without.2)
    go problem n k none (inl (text, due, why, inr (inl (is, rose, put)))) = absurd (n.listing rose)
    go problem n k none (inl (text, due, why, inr (inr (is, put)))) = inr is
    go problem n k none (inr (is, rest)) = inr is

pub refuses-problem : (c : Call) (s : Status) → ExportEnds c s → RefusesNoProblem c s
refuses-problem c s h = λ problem fault n k some. go problem fault n k some h.ends
  where
    go : (problem : LinearProgram) (fault : ExportFault) → NothingFails c → IsAccepted c.input problem → refusal_of problem ≡ Some fault
        → ((text : List ℕ) × (due : Status) × IsDue c.input text due × Concludes text due c s) ⊎ ((s ≡ status.NoMemory) × Lists c []) → (s ≡ status.DataRefused) ⊎ (s ≡ status.NoMemory)
    go problem fault n k some (inl (text, due, inl (exported, is), ends)) =
        absurd (none-or-some (refusal_of problem) fault (has-text c.input problem k text exported) some)
    go problem fault n k some (inl (text, due, inr (r, refused, line, is), inl (same, listed))) =
        let without = only-without-text c.input problem k n.source n.library r refused in
        inl (same ∙ is ∙ without.0)
    go problem fault n k some (inl (text, due, inr why, inr (inl (is, rose, put)))) = absurd (n.listing rose)
    go problem fault n k some (inl (text, due, inr why, inr (inr (is, put)))) = inr is
    go problem fault n k some (inr (is, rest)) = inr is

-- ---- a text without a program
not-taken : (text : List ℕ) (p : Program) (n : SetNames) → HasProgram Export text p → IsExportable p n → IsNotTaken text → ⊥
not-taken text p n has stands (inl (f, fault)) = never_both Export text p f has fault
not-taken text p n has stands (inr (q, other, none)) = none n (stands-here q p (one_program Export text q p other has) n stands)

module _ (i : Input) (text : List ℕ) (told : i.left ≡ Some text) (none : IsNotTaken text) where
  no-names : (n : SetNames) → NamesSets i n → ⊥
  no-names n h =
      let same : text ≡ h.reads.text = all-consumed i.rest text h.reads.text (rw told at h.reads.taken) h.reads.ended in
      not-taken text h.program n (rw same h.reads.spelled) h.stands none

  only-no-program : (Rose i.source_faults i.source_faults_after → ⊥) → (r : Refusal) → IsRefused i r → (refusal_status r ≡ status.ProgramRefused)
  only-no-program s (refusal.NoProgram fault) h = refl
  only-no-program s refusal.NotStanding h = refl
  only-no-program s refusal.ReadFault (there, inl (rose, sound)) = absurd (s rose)
  only-no-program s refusal.ReadFault (there, inr (set, name, comes, rose)) = absurd (no-names comes.names comes.named)
  only-no-program s (refusal.Absent name) (set, comes, lacks, rose, sound) = absurd (no-names comes.names comes.named)
  only-no-program s (refusal.TooLong set) (name, comes, many, all) = absurd (no-names comes.names comes.named)
  only-no-program s (refusal.NoTable set fault) (sets, bytes, fetches, before, is, e) = absurd (no-names fetches.names fetches.named)
  only-no-program s (refusal.NoRoles set fault) (sets, fetches, t, tables, e) = absurd (no-names fetches.names fetches.named)
  only-no-program s (refusal.NoNetwork fault) (sets, fetches, t, tables, e) = absurd (no-names fetches.names fetches.named)
  only-no-program s (refusal.NoText fault) (q, poses, e) = absurd (no-names poses.fetches.names poses.fetches.named)
  only-no-program s (refusal.NoDimacs fault) h = absurd h

pub refuses-program : (c : Call) (s : Status) → ExportEnds c s → RefusesNoProgram c s
refuses-program c s h = λ text n told none. go text n told none h.ends
  where
    go : (text : List ℕ) → NothingFails c → c.input.left ≡ Some text → IsNotTaken text
        → ((text : List ℕ) × (due : Status) × IsDue c.input text due × Concludes text due c s) ⊎ ((s ≡ status.NoMemory) × Lists c []) → (s ≡ status.ProgramRefused) ⊎ (s ≡ status.NoMemory)
    go text n told none (inl (listed, due, inl (exported, is), ends)) =
        absurd (no-names c.input text told none exported.poses.fetches.names exported.poses.fetches.named)
    go text n told none (inl (listed, due, inr (r, refused, line, is), inl (same, put))) = inl (same ∙ is ∙ only-no-program c.input text told none n.source r refused)
    go text n told none (inl (listed, due, inr why, inr (inl (is, rose, put)))) = absurd (n.listing rose)
    go text n told none (inl (listed, due, inr why, inr (inr (is, put)))) = inr is
    go text n told none (inr (is, rest)) = inr is
