-- What a call takes in is told in one way, so a valid certificate is not refused.
use Rattle.std.proofs.Common.{◌≡◌, ◌∙◌, ◌<◌, ◌≤◌, ◌++◌, ◌⊎◌, Bool, true, false, ℕ, List, Option, Some, None, Result, Ok, Err, if◌then◌else◌, inl, inr, length, arith, append-nil, length-append, refl, sym, ap, subst}
use Rattle.std.proofs.lemmas.Bool.Decides.{nat_tests}
use Rattle.std.specs.Bool.{nat_lt}
use Rattle.std.specs.Io.KnownBytes.{Consumes, IsAtEnd}
use Rattle.nf_num.specs.Rational.{ℚ}
use Rattle.nf_io.specs.Causes.{Rose}
use Rattle.nf_io.specs.Held.{Held, HasName, HasTooMany, LacksName, found, most_bytes}
use Rattle.nf_table.specs.Grid.{Grid}
use Rattle.nf_table.specs.Reading.{table_read}
use Rattle.nf_model.specs.Program.{LinearProgram}
use Rattle.nf_prob.specs.declared.cert.Cert.{Cert}
use Rattle.nf_prob.specs.declared.cert.Cert.TheVariants as cert
use Rattle.nf_prob.specs.declared.cert.Checked.TheVariants as checked
use Rattle.nf_prob.specs.declared.cert.Why.{Why}
use Rattle.nf_prob.specs.Verdict.{IsAnswer}
use Rattle.nf_top.specs.ProblemOf.{Refusal as ProblemRefusal, OfData, OfRoles, problem_of}
use Rattle.nf_top.proofs.PlainFacts.{arcs_table, cons_table, nodes_table}
use Rattle.nf_cert.specs.Reading.{cert_read}
use Rattle.nf_program.specs.declared.program.SetName.{SetName}
use Rattle.nf_program.specs.declared.program.SetName.TheVariants as set
use Rattle.nf_top.specs.declared.refusal.Refusal.{Refusal}
use Rattle.nf_top.specs.declared.refusal.Refusal.TheVariants as refusal
use Rattle.nf_top.specs.declared.status.Status.{Status}
use Rattle.nf_top.specs.declared.status.Status.TheVariants as status
use Rattle.nf_top.specs.Data.{Sets, IsTable, IsTableOrNone, bytes_of, data_of}
use Rattle.nf_top.specs.Headline.{AcceptsTheValid, ClaimIsProved, Claims, Proves}
use Rattle.nf_certify.specs.Certificates.{IsValid}
use Rattle.nf_top.specs.Lines.{accepted_lines}
use Rattle.nf_program.specs.declared.program.Command.{Command}
use Rattle.nf_program.specs.declared.program.Command.TheVariants.{Run, Check, Again, Export}
use Rattle.nf_program.specs.declared.program.Program.{Program}
use Rattle.nf_program.specs.declared.program.StmtFault.{StmtFault}
use Rattle.nf_reader.specs.Faults.{HasFault}
use Rattle.nf_reader.proofs.Answered.{one_program, never_both}
use Rattle.nf_top.specs.Outcome.{AreHeld, Call, Comes, FetchesSets, Input, IsHeldOrNone, Lists, NamesSets, PosesProblem, ReadsCertificate, ReadsProgram, Refuses, name_of}
use Rattle.nf_top.specs.Standing.{SetNames, StandsForCheck, IsStanding, most_program}
use Rattle.nf_top.specs.Words.{IsCommand}
use Rattle.nf_top.proofs.WordFacts.{not-both}

-- the headline of a check
proves-of : (p : LinearProgram) (c : Cert) (number : ℚ) → IsAnswer p c (checked.Yes number) → Proves p c number
proves-of p (cert.Best flows duals) number h = (h.1, h.2)
proves-of p (cert.Farkas duals) number h = (h.1, h.2)
proves-of p (cert.Ray flows ray) number h = (h.1, h.2)

pub claim-proved : (c : Call) → IsCommand Check c.input.words → Comes c status.Finished → ClaimIsProved c
claim-proved c words (inl (line, a, l, kept)) = record {
  problem = a.problem;
  certificate = a.certificate;
  reads = a.reads;
  number = a.number;
  proves = proves-of a.problem a.certificate a.number a.valid;
  listed = subst (λ v. Lists c (accepted_lines v)) a.told l;
}
claim-proved c words (inr (program, problem, runs, (stored, text, listing, listed, kept))) = absurd (not-both c.input.words words runs.reads.words)

-- a told source gives the front of its text, and at its end the whole
pub front-consumed : (rest : Option (List ℕ)) (text taken : List ℕ) → Consumes (Some text) rest taken → length taken ≤ length text
front-consumed None text taken h = absurd h
front-consumed (Some more) text taken h = rw h (simp length-append (omega arith))

pub all-consumed : (rest : Option (List ℕ)) (text taken : List ℕ) → Consumes (Some text) rest taken → IsAtEnd rest → text ≡ taken
all-consumed None text taken h k = absurd h
all-consumed (Some more) text taken h k = h ∙ (ap (λ m. taken ++ m) k ∙ append-nil taken)

-- a told library has one answer for a name
one-some : (o : Option (List ℕ)) (b d : List ℕ) → o ≡ Some b → o ≡ Some d → b ≡ d
one-some o b d h k = cc

no-some : (o : Option (List ℕ)) (b : List ℕ) → o ≡ Some b → o ≡ None → ⊥
no-some o b h k = cc (h, k)

bytes-same : (m : Held) (n b d : List ℕ) → HasName (Some m) n b → HasName (Some m) n d → b ≡ d
bytes-same m n b d h k = one-some (found m n) b d h k

pub never-lacks : (m : Held) (n b : List ℕ) → HasName (Some m) n b → LacksName (Some m) n → ⊥
never-lacks m n b h k = no-some (found m n) b h k

pub never-many : (m : Held) (n b : List ℕ) → HasName (Some m) n b → length b ≤ most_bytes → HasTooMany (Some m) n → ⊥
never-many m n b h short (bytes, is, many) =
    let same = ap length (one-some (found m n) b bytes h is) in
    omega (arith, short, many, same)

-- a set that may be left out
pub held-there : (m : Option Held) (name : List ℕ) (o : Option (List ℕ)) → IsHeldOrNone m (Some name) o → (b : List ℕ) × HasName m name b × (o ≡ Some b)
held-there m name None h = absurd h
held-there m name (Some b) h = (b, h.0, refl)

pub held-same : (m : Held) (n b d : Option (List ℕ)) → IsHeldOrNone (Some m) n b → IsHeldOrNone (Some m) n d → b ≡ d
held-same m None None None h k = refl
held-same m None None (Some d) h k = absurd k
held-same m None (Some b) d h k = absurd h
held-same m (Some n) None d h k = absurd h
held-same m (Some n) (Some b) None h k = absurd k
held-same m (Some n) (Some b) (Some d) h k = ap Some (bytes-same m n b d h.0 k.0)

-- the text of a table is not too long
if-ok : {A E : Type 0} (b : Bool) (e : E) (r : Result A E) (x : A) → (if b then Err e else r) ≡ Ok x → b ≡ false
if-ok true e r x h = cc h
if-ok false e r x h = refl

not-longer : (m n : ℕ) → nat_lt m n ≡ false → n ≤ m
not-longer m n h = grind (arith, nat_tests)

pub table-short : (bytes : List ℕ) (g : Grid) → table_read bytes ≡ Ok g → length bytes ≤ most_bytes
table-short bytes g h = not-longer most_bytes (length bytes) (if-ok (nat_lt most_bytes (length bytes)) _ _ g h)

-- ---- what a call takes in is what its source and library tell
pub has-set : (held : Option Held) (p : SetNames) (sets : Sets) → AreHeld held p sets → (s : SetName) → IsHeldOrNone held (name_of p s) (bytes_of sets s)
has-set held p sets h set.Arcdata = h.arcdata
has-set held p sets h set.Nodedata = h.nodedata
has-set held p sets h set.Condata = h.condata
has-set held p sets h set.Certdata = h.certdata
has-set held p sets h set.Conin = tt
has-set held p sets h set.Dualin = tt
has-set held p sets h set.Sessiondata = tt
has-set held p sets h set.Proc = tt

program-same : (i : Input) (problem : LinearProgram) (certificate : Cert) (k : Claims i problem certificate) (q : Program) → ReadsProgram i Check q → q ≡ k.program
program-same i problem certificate k q h =
    let t : k.text ≡ h.text = all-consumed i.rest k.text h.text (rw k.told at h.taken) h.ended in
    one_program Check h.text q k.program h.spelled (rw t at k.spelled)

-- one program names its data sets in one way
pub some-same : (a b : Option (List ℕ)) (m n : List ℕ) → a ≡ b → a ≡ Some m → b ≡ Some n → m ≡ n
some-same a b m n e h k = cc

one-names : (p q : Program) (m n : SetNames) → p ≡ q → StandsForCheck p m → StandsForCheck q n → m ≡ n
one-names p q m n e h k = λ i. record {
  arcdata = some-same p.proc.arcdata q.proc.arcdata m.arcdata n.arcdata (ap (λ r. r.proc.arcdata) e) h.arcdata k.arcdata i;
  nodedata = (sym h.nodedata ∙ (ap (λ r. r.proc.nodedata) e ∙ k.nodedata)) i;
  condata = (sym h.condata ∙ (ap (λ r. r.proc.condata) e ∙ k.condata)) i;
  certdata = (sym h.certdata ∙ (ap (λ r. r.proc.certdata) e ∙ k.certdata)) i;
}

names-same : (i : Input) (problem : LinearProgram) (certificate : Cert) (k : Claims i problem certificate) (n : SetNames) → NamesSets i Check n → n ≡ k.names
names-same i problem certificate k n h = one-names h.program k.program n k.names (program-same i problem certificate k h.program h.reads) h.stands k.stands

name-same : (i : Input) (problem : LinearProgram) (certificate : Cert) (k : Claims i problem certificate) (n : SetNames) → NamesSets i Check n
    → (s : SetName) → IsHeldOrNone i.held (name_of n s) (bytes_of k.sets s)
name-same i problem certificate k n h s = rw (names-same i problem certificate k n h) (has-set i.held k.names k.sets k.holds s)

sets-same : (i : Input) (problem : LinearProgram) (certificate : Cert) (k : Claims i problem certificate) (sets : Sets) → FetchesSets i Check sets
    → (s : SetName) → bytes_of sets s ≡ bytes_of k.sets s
sets-same i problem certificate k sets h s =
    held-same k.library (name_of h.names s) _ _ (rw k.tells at (has-set i.held h.names sets h.held s)) (rw k.tells at (name-same i problem certificate k h.names h.named s))

-- a set that a program names is there, and is a table
name-there : (i : Input) (problem : LinearProgram) (certificate : Cert) (k : Claims i problem certificate) (n : SetNames) → NamesSets i Check n
    → (s : SetName) (name : List ℕ) → Some name ≡ name_of n s → (b : List ℕ) × HasName (Some k.library) name b × (bytes_of k.sets s ≡ Some b)
name-there i problem certificate k n h s name is =
    held-there (Some k.library) name (bytes_of k.sets s) (rw k.tells at (rw (sym is) at (name-same i problem certificate k n h s)))

has-table : (i : Input) (problem : LinearProgram) (certificate : Cert) (k : Claims i problem certificate) (s : SetName) (b : List ℕ) → bytes_of k.sets s ≡ Some b → (g : Grid) × IsTable b g
has-table i problem certificate k set.Arcdata b e = let t = arcs_table k.program (data_of k.sets) k.posed.network k.posed.posed in (t.0, subst (λ v. IsTable v t.0) (cc e) t.1)
has-table i problem certificate k set.Nodedata b e = nodes_table k.program (data_of k.sets) k.posed.network k.posed.posed b e
has-table i problem certificate k set.Condata b e = cons_table k.program (data_of k.sets) k.posed.network k.posed.posed b e
has-table i problem certificate k set.Certdata b e = (k.claimed.table, subst (λ o. IsTableOrNone o (Some k.claimed.table)) e k.claimed.table_is)
has-table i problem certificate k set.Conin b e = cc e
has-table i problem certificate k set.Dualin b e = cc e
has-table i problem certificate k set.Sessiondata b e = cc e
has-table i problem certificate k set.Proc b e = cc e

-- two readings of the same bytes
read-twice : {G E : Type 0} (f : List ℕ → Result G E) (a b : List ℕ) (g h : G) → a ≡ b → f a ≡ Ok g → f b ≡ Ok h → g ≡ h
read-twice f a b g h e x y = cc

pub never-both : {G E : Type 0} (f : List ℕ → Result G E) (a b : List ℕ) (g : E) (h : G) → a ≡ b → f a ≡ Err g → f b ≡ Ok h → ⊥
never-both f a b g h e x y = cc (e, x, y)

posed-twice : {P S N E : Type 0} (f : P → S → Result N E) (p q : P) (a b : S) (m n : N) → p ≡ q → a ≡ b → f p a ≡ Ok m → f q b ≡ Ok n → m ≡ n
posed-twice f p q a b m n e g x y = cc

pub never-posed : {P S N E : Type 0} (f : P → S → Result N E) (p q : P) (a b : S) (x : E) (n : N) → p ≡ q → a ≡ b → f p a ≡ Err x → f q b ≡ Ok n → ⊥
never-posed f p q a b x n e g h k = cc (e, g, h, k)

claimed-twice : {E : Type 0} (f : Grid → LinearProgram → Result Cert E) (a b : Grid) (p q : LinearProgram) (x y : Cert) → a ≡ b → p ≡ q → f a p ≡ Ok x → f b q ≡ Ok y → x ≡ y
claimed-twice f a b p q x y e g h k = cc

never-claimed : {E : Type 0} (f : Grid → LinearProgram → Result Cert E) (a b : Grid) (p q : LinearProgram) (x : E) (y : Cert) → a ≡ b → p ≡ q → f a p ≡ Err x → f b q ≡ Ok y → ⊥
never-claimed f a b p q x y e g h k = cc (e, g, h, k)

bytes-are : (a b : List ℕ) → Some a ≡ Some b → a ≡ b
bytes-are a b h = cc

table-twice : (a b : Option (List ℕ)) (g h : Grid) → a ≡ b → IsTableOrNone a (Some g) → IsTableOrNone b (Some h) → g ≡ h
table-twice None b g h e x y = absurd x
table-twice (Some a) None g h e x y = absurd y
table-twice (Some a) (Some b) g h e x y = read-twice table_read a b g h (bytes-are a b e) x y

pub data-same : (a b : Sets) → ((s : SetName) → bytes_of a s ≡ bytes_of b s) → data_of a ≡ data_of b
data-same a b same = λ i. record { arcdata = bytes-are a.arcdata b.arcdata (same set.Arcdata) i; nodedata = same set.Nodedata i; condata = same set.Condata i }

problem-same : (i : Input) (problem : LinearProgram) (certificate : Cert) (k : Claims i problem certificate) (sets : Sets) (q : LinearProgram) → PosesProblem i Check sets q → q ≡ problem
problem-same i problem certificate k sets q h =
    let network = posed-twice problem_of h.fetches.named.program k.program (data_of sets) (data_of k.sets) h.posed.network k.posed.network
    (program-same i problem certificate k h.fetches.named.program h.fetches.named.reads) (data-same sets k.sets (sets-same i problem certificate k sets h.fetches))
    h.posed.posed k.posed.posed in
    h.posed.is ∙ (ap (λ n. n.program) network ∙ sym k.posed.is)

never-refused : (i : Input) (problem : LinearProgram) (certificate : Cert) (k : Claims i problem certificate) (sets : Sets) (f : FetchesSets i Check sets) (r : ProblemRefusal)
    → problem_of f.named.program (data_of sets) ≡ Err r → ⊥
never-refused i problem certificate k sets f r h =
    never-posed problem_of f.named.program k.program (data_of sets) (data_of k.sets) r k.posed.network
    (program-same i problem certificate k f.named.program f.named.reads) (data-same sets k.sets (sets-same i problem certificate k sets f)) h k.posed.posed

certificate-same : (i : Input) (problem : LinearProgram) (certificate : Cert) (k : Claims i problem certificate) (q : LinearProgram) (x : Cert) → ReadsCertificate i q x → x ≡ certificate
certificate-same i problem certificate k q x h =
    let same = sets-same i problem certificate k h.sets h.poses.fetches in
    claimed-twice (λ t p. cert_read t (length p.columns) (length p.rows)) h.claimed.table k.claimed.table q problem x certificate
    (table-twice h.sets.certdata k.sets.certdata h.claimed.table k.claimed.table (same set.Certdata) h.claimed.table_is k.claimed.table_is)
    (problem-same i problem certificate k h.sets q h.poses) h.claimed.claimed k.claimed.claimed

never-answered : (p : LinearProgram) (c : Cert) (w : Why) → IsValid p c → IsAnswer p c (checked.No w) → ⊥
never-answered p (cert.Best flows duals) w v h = h.0 v
never-answered p (cert.Farkas duals) w v h = h.0 v
never-answered p (cert.Ray flows ray) w v h = h.0 v

not-valid : (p q : LinearProgram) (c d : Cert) (w : Why) → q ≡ p → c ≡ d → IsValid p d → IsAnswer q c (checked.No w) → ⊥
not-valid p q c d w e f v h = never-answered p d w v (rw (e, f) at h)

-- the one refusal of a valid certificate
abbrev IsRange : Refusal → Type 0
IsRange (refusal.Range passed) = Unit {0}
IsRange _ = ⊥

no-text : (i : Input) (problem : LinearProgram) (certificate : Cert) (k : Claims i problem certificate) (c : Command) (text : List ℕ) (f : StmtFault) → IsCommand c i.words
    → Consumes i.left i.rest text → HasFault c text f → (most_program < length text) ⊎ IsAtEnd i.rest → ⊥
no-text i problem certificate k Run text f words h fault why = not-both i.words k.words words
no-text i problem certificate k Again text f words h fault why = words
no-text i problem certificate k Export text f words h fault why = words
no-text i problem certificate k Check text f words h fault (inl long) =
    let within = front-consumed i.rest k.text text (rw k.told at h) in
    omega (arith, long, within, k.spelled.0)
no-text i problem certificate k Check text f words h fault (inr ended) =
    never_both Check text k.program f (rw (all-consumed i.rest k.text text (rw k.told at h) ended) at k.spelled) fault

stands-to-check : (p q : Program) → p ≡ q → (n : SetNames) → StandsForCheck q n → IsStanding Check p
stands-to-check p q e n h = rw e (n, h)

not-taken : (i : Input) (problem : LinearProgram) (certificate : Cert) (k : Claims i problem certificate) (c : Command) (p : Program) → ReadsProgram i c p → (IsStanding c p → ⊥) → ⊥
not-taken i problem certificate k Run p reads none = not-both i.words k.words reads.words
not-taken i problem certificate k Again p reads none = reads.words
not-taken i problem certificate k Export p reads none = reads.words
not-taken i problem certificate k Check p reads none = none (stands-to-check p k.program (program-same i problem certificate k p reads) k.names k.stands)

refused-range : (i : Input) (problem : LinearProgram) (certificate : Cert) (k : Claims i problem certificate) → IsValid problem certificate
    → (Rose i.source_faults i.source_faults_after → ⊥) → (Rose i.fetch_faults i.fetch_faults_after → ⊥) → (r : Refusal) → Refuses i r → IsRange r
refused-range i problem certificate k v s l refusal.Usage (other, none) = other Check k.words
refused-range i problem certificate k v s l (refusal.NoProgram fault) (c, words, text, taken, found, why, all) = no-text i problem _ k c text fault words taken found why
refused-range i problem certificate k v s l refusal.NotStanding (c, p, reads, none, all) = not-taken i problem _ k c p reads none
refused-range i problem certificate k v s l refusal.ReadFault (c, words, there, inl (rose, sound)) = s rose
refused-range i problem certificate k v s l refusal.ReadFault (c, words, there, inr (n, set, name, named, before, is, rose)) = l rose
refused-range i problem certificate k v s l (refusal.Absent name) (Run, p, set, reads, before, is, lacks, rose, sound) = not-both i.words k.words reads.reads.words
refused-range i problem certificate k v s l (refusal.Absent name) (Again, p, set, reads, before, is, lacks, rose, sound) = absurd reads.reads.words
refused-range i problem certificate k v s l (refusal.Absent name) (Export, p, set, reads, before, is, lacks, rose, sound) = absurd reads.reads.words
refused-range i problem certificate k v s l (refusal.Absent name) (Check, p, set, reads, before, is, lacks, rose, sound) =
    let b = name-there i problem _ k p reads set name is in
    never-lacks k.library name b.0 b.1 (rw k.tells at lacks)
refused-range i problem certificate k v s l (refusal.TooLong set) (Run, p, name, reads, before, is, many, all) = not-both i.words k.words reads.reads.words
refused-range i problem certificate k v s l (refusal.TooLong set) (Again, p, name, reads, before, is, many, all) = absurd reads.reads.words
refused-range i problem certificate k v s l (refusal.TooLong set) (Export, p, name, reads, before, is, many, all) = absurd reads.reads.words
refused-range i problem certificate k v s l (refusal.TooLong set) (Check, p, name, reads, before, is, many, all) =
    let b = name-there i problem _ k p reads set name is in
    let t = has-table i problem _ k set b.0 b.2 in
    never-many k.library name b.0 b.1 (table-short b.0 t.0 t.1) (rw k.tells at many)
refused-range i problem certificate k v s l (refusal.NoTable set fault) (Run, sets, bytes, fetches, before, is, e) = not-both i.words k.words fetches.named.reads.words
refused-range i problem certificate k v s l (refusal.NoTable set fault) (Again, sets, bytes, fetches, before, is, e) = absurd fetches.named.reads.words
refused-range i problem certificate k v s l (refusal.NoTable set fault) (Export, sets, bytes, fetches, before, is, e) = absurd fetches.named.reads.words
refused-range i problem certificate k v s l (refusal.NoTable set fault) (Check, sets, bytes, fetches, before, is, e) =
    let t = has-table i problem _ k set bytes (sym (sets-same i problem _ k sets fetches set) ∙ sym is) in
    never-both table_read bytes bytes fault t.0 refl e t.1
refused-range i problem certificate k v s l (refusal.NoRoles set fault) (Run, sets, fetches, t, tables, e) = not-both i.words k.words fetches.named.reads.words
refused-range i problem certificate k v s l (refusal.NoRoles set fault) (Again, sets, fetches, t, tables, e) = absurd fetches.named.reads.words
refused-range i problem certificate k v s l (refusal.NoRoles set fault) (Export, sets, fetches, t, tables, e) = absurd fetches.named.reads.words
refused-range i problem certificate k v s l (refusal.NoRoles set fault) (Check, sets, fetches, t, tables, e) = never-refused i problem _ k sets fetches (OfRoles set fault) e
refused-range i problem certificate k v s l (refusal.NoNetwork fault) (Run, sets, fetches, t, tables, e) = not-both i.words k.words fetches.named.reads.words
refused-range i problem certificate k v s l (refusal.NoNetwork fault) (Again, sets, fetches, t, tables, e) = absurd fetches.named.reads.words
refused-range i problem certificate k v s l (refusal.NoNetwork fault) (Export, sets, fetches, t, tables, e) = absurd fetches.named.reads.words
refused-range i problem certificate k v s l (refusal.NoNetwork fault) (Check, sets, fetches, t, tables, e) = never-refused i problem _ k sets fetches (OfData fault) e
refused-range i problem certificate k v s l (refusal.NoCertificate fault) (sets, q, poses, table, is, e) =
    let same = sets-same i problem _ k sets poses.fetches in
    never-claimed (λ t p. cert_read t (length p.columns) (length p.rows)) table k.claimed.table q problem fault _
    (table-twice sets.certdata k.sets.certdata table k.claimed.table (same set.Certdata) is k.claimed.table_is) (problem-same i problem _ k sets q poses) e k.claimed.claimed
refused-range i problem certificate k v s l (refusal.NotValid told) (q, x, why, reads, answered, is) =
    not-valid problem q x certificate why (problem-same i problem _ k reads.sets q reads.poses) (certificate-same i problem _ k q x reads) v answered
refused-range i problem certificate k v s l (refusal.Range passed) h = tt

-- a valid certificate is accepted where nothing fails
pub accepts-valid : (c : Call) (s : Status) → Comes c s → AcceptsTheValid c s
accepts-valid c status.Finished h = λ p x n k v. inl refl
accepts-valid c status.Usage h = λ p x n k v. absurd (refused-range c.input p x k v n.source n.library refusal.Usage h.0)
accepts-valid c status.ProgramRefused (inl (fault, (h, l, kept))) = λ p x n k v. absurd (refused-range c.input p x k v n.source n.library (refusal.NoProgram fault) h)
accepts-valid c status.ProgramRefused (inr (h, l, kept)) = λ p x n k v. absurd (refused-range c.input p x k v n.source n.library refusal.NotStanding h)
accepts-valid c status.DataRefused (inl (set, (h, l, kept))) = λ p x n k v. absurd (refused-range c.input p x k v n.source n.library (refusal.TooLong set) h)
accepts-valid c status.DataRefused (inr (inl (set, fault, (h, l, kept)))) = λ p x n k v. absurd (refused-range c.input p x k v n.source n.library (refusal.NoTable set fault) h)
accepts-valid c status.DataRefused (inr (inr (inl (set, fault, (h, l, kept))))) = λ p x n k v. absurd (refused-range c.input p x k v n.source n.library (refusal.NoRoles set fault) h)
accepts-valid c status.DataRefused (inr (inr (inr (fault, (h, l, kept))))) = λ p x n k v. absurd (refused-range c.input p x k v n.source n.library (refusal.NoNetwork fault) h)
accepts-valid c status.ReadFault h = λ p x n k v. absurd (refused-range c.input p x k v n.source n.library refusal.ReadFault h.0)
accepts-valid c status.WriteFault (inl h) = λ p x n k v. absurd (n.listing h.0)
accepts-valid c status.WriteFault (inr (rose, (program, problem, runs, stops))) = λ p x n k v. absurd (not-both c.input.words k.words runs.reads.words)
accepts-valid c status.Absent (name, (h, l, kept)) = λ p x n k v. absurd (refused-range c.input p x k v n.source n.library (refusal.Absent name) h)
accepts-valid c status.RangePassed h = λ p x n k v. inr (inl refl)
accepts-valid c status.CheckRefused (inl (fault, (h, l, kept))) = λ p x n k v. absurd (refused-range c.input p x k v n.source n.library (refusal.NoCertificate fault) h)
accepts-valid c status.CheckRefused (inr (why, (h, l, kept))) = λ p x n k v. absurd (refused-range c.input p x k v n.source n.library (refusal.NotValid why) h)
accepts-valid c status.NoMemory h = λ p x n k v. inr (inr refl)
accepts-valid c status.WarmRefused h = absurd h
