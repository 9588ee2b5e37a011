-- What a call saw, from one step to the next, and the status of each refusal.
use Rattle.std.proofs.Common.{Bool, true, false, if◌then◌else◌, Result, Ok, Err, IfErr, IfOk, IfSome, IsErrOf, OnOk, MatchResult, is_some, ◌≡◌, ◌∙◌, ◌<◌, ◌⊎◌, ℕ, List, [], Option, None, Some, ap, append-nil, length, inl, inr, refl, subst, subst₂, sym}
use Rattle.std.specs.Borrow.{Bor}
use Rattle.std.specs.Option.{option_copied}
use Rattle.nf_model.specs.Program.{LinearProgram}
use Rattle.nf_prob.specs.declared.cert.Cert.{Cert}
use Rattle.nf_cert.specs.Reading.{cert_read}
use Rattle.nf_labels.specs.Labels.{LabelList}
use Rattle.nf_network.specs.Network.{Network, network_due}
use Rattle.nf_top.specs.ProblemOf.{Refusal as ProblemRefusal, OfData, OfRoles, OfTable, header_in, in_data, in_roles, in_size, layout, most_rows, problem_in, problem_of, then_with, with_cons, with_constraints, with_nodes}
use Rattle.nf_roles.specs.declared.columns.SetKind.TheVariants.{Arcs}
use Rattle.nf_roles.specs.declared.fault.DataFault.{DataFault}
use Rattle.nf_roles.specs.declared.fault.DataKind.TheVariants as kind
use Rattle.nf_roles.specs.declared.fault.RoleFault.{RoleFault}
use Rattle.nf_roles.specs.declared.fault.RoleFault.TheVariants as fault
use Rattle.nf_roles.specs.Assigned.{header_of, roles_due}
use Rattle.nf_roles.specs.Faults.{out_of_memory}
use Rattle.nf_roles.specs.Roles.{RoleColumns}
use Rattle.nf_program.specs.declared.program.SetName.{SetName}
use Rattle.nf_program.specs.declared.program.SetName.TheVariants.{Arcdata, Condata}
use Rattle.nf_program.specs.declared.program.Program.{Program}
use Rattle.nf_program.specs.declared.program.Command.{Command}
use Rattle.nf_program.specs.declared.program.Command.TheVariants.{Run, Check}
use Rattle.nf_top.specs.Data.{AreTables, Grids, IsProblemOf, IsTableOrNone, Sets, data_of}
use Rattle.nf_top.proofs.PlainFacts.{no-table, posed_by_tables, then_step, then_stop, too-many}
use Rattle.nf_table.specs.Grid.{Grid}
use Rattle.nf_top.specs.Standing.{SetNames}
use Rattle.nf_io.specs.Causes.{HasFetchCause, Rose}
use Rattle.nf_io.specs.Held.{Held, HasTooMany, LacksName}
use Rattle.nf_io.specs.declared.faults.FetchFault.{FetchFault}
use Rattle.nf_io.specs.declared.faults.FetchFault.TheVariants as fetch
use Rattle.nf_top.specs.declared.refusal.Refusal.{Refusal}
use Rattle.nf_top.specs.declared.refusal.Refusal.TheVariants as refusal
use Rattle.nf_top.specs.declared.refusal.Stop.{Stop}
use Rattle.nf_top.specs.declared.refusal.Stop.TheVariants as stop
use Rattle.nf_top.specs.Lines.{refusal_line}
use Rattle.nf_top.specs.Outcome.{AllFetched, AreHeld, AreHeldBefore, Call, Comes, FetchesSets, Input, IsHeld, IsHeldOrNone, KeepsLibrary, Lists, NamesSets, NoneMissed, PosesProblem, ReadsCertificate, Refuses, RunsOn, name_of}
use Rattle.std.specs.Io.KnownBytes.{Appends, Consumes, IsAtEnd}
use Rattle.nf_top.specs.Status.{refusal_status}
use Rattle.nf_top.specs.Words.{IsCommand}
use Rattle.nf_top.specs.Steps.{IsPosed, IsStopOf, IsStopOfFetch, SawLibrary, Stops, is_no_memory, stop_of_data, stop_of_roles, too_large}

-- nothing is appended where nothing was written
pub appends_nothing : (o : Option (List ℕ)) → Appends o o []
appends_nothing None = tt
appends_nothing (Some x) = sym (append-nil x)

-- a run of what the call saw earlier
pub runs-later : (i j : Input) (program : Program) (problem : LinearProgram) → i.words ≡ j.words → i.left ≡ j.left → i.rest ≡ j.rest → i.held ≡ j.held → AllFetched j → RunsOn i program problem → RunsOn j program problem
runs-later i j program problem words left rest held fetched r = record {
  reads = record {
    words = subst (IsCommand Run) words r.reads.words;
    text = r.reads.text;
    taken = subst₂ (λ l m. Consumes l m r.reads.text) left rest r.reads.taken;
    ended = subst IsAtEnd rest r.reads.ended;
    spelled = r.reads.spelled;
  };
  names = r.names;
  stands = r.stands;
  sets = r.sets;
  held = subst (λ h. AreHeld h r.names r.sets) held r.held;
  fetched = fetched;
  posed = r.posed;
}

-- what comes after fetches that returned bytes
pub saw-later : (i : Input) (holds held : Option Held) (before mid after : ℕ) (missed mids misses : List ℕ → ℕ) → SawLibrary i holds before after missed misses
    → held ≡ holds → NoneMissed before mid missed mids → SawLibrary i held mid after mids misses
saw-later i holds held before mid after missed mids misses h e none = record {
  held = h.held ∙ sym e;
  since = h.since ∙ sym none.sound;
  until = h.until;
  missed_since = λ q. h.missed_since q ∙ sym (none.there q);
  missed_until = h.missed_until;
}

-- a library that was not called reported nothing
pub nothing-fetched : (faults : ℕ) (misses : List ℕ → ℕ) → NoneMissed faults faults misses misses
nothing-fetched faults misses = record { sound = refl; there = λ q. refl }

-- if each of these fetches returned bytes, so did each of the call
pub saw-none-missed : (i : Input) (holds : Option Held) (before after : ℕ) (missed misses : List ℕ → ℕ) → SawLibrary i holds before after missed misses → NoneMissed before after missed misses → AllFetched i
saw-none-missed i holds before after missed misses h none = record {
  sound = h.until ∙ none.sound ∙ sym h.since;
  there = λ q. h.missed_until q ∙ none.there q ∙ sym (h.missed_since q);
}

-- how a fetch ends the call
module _ (i : Input) (c : Command) (n : SetNames) (s : SetName) (name : List ℕ) (holds : Option Held) (before after : ℕ) (missed misses : List ℕ → ℕ)
    (saw : SawLibrary i holds before after missed misses) (named : NamesSets i c n) (prior : AreHeldBefore i.held n s) (is : Some name ≡ name_of n s) where
  pub failed-refuses : Rose before after → ((q : List ℕ) → misses q ≡ missed q) → Refuses i refusal.ReadFault
  failed-refuses rose there = (
    c,
    named.reads.words,
    λ q. saw.missed_until q ∙ there q ∙ sym (saw.missed_since q),
    inr (n, s, name, named, prior, is, subst₂ Rose (sym saw.since) (sym saw.until) rose),
  )

  pub absent-refuses : LacksName holds name → Rose (missed name) (misses name) → after ≡ before → Refuses i (refusal.Absent name)
  absent-refuses lacks rose sound = (
    c,
    n,
    s,
    named,
    prior,
    is,
    subst (λ h. LacksName h name) (sym saw.held) lacks,
    subst₂ Rose (sym (saw.missed_since name)) (sym (saw.missed_until name)) rose,
    saw.until ∙ sound ∙ sym saw.since,
  )

  pub long-refuses : HasTooMany holds name → NoneMissed before after missed misses → Refuses i (refusal.TooLong s)
  long-refuses many none = (c, n, name, named, prior, is, subst (λ h. HasTooMany h name) (sym saw.held) many, saw-none-missed i holds before after missed misses saw none)

  pub fetch-stops : {T : Type 0} (r : Result T FetchFault) (f : FetchFault) (end : Stop) → r ≡ Err f → IsStopOfFetch s name f end → HasFetchCause before after (missed name) (misses name) r
      → (¬ IsErrOf r fetch.Absent → (q : List ℕ) → misses q ≡ missed q) → (¬ IsErrOf r fetch.Failed → after ≡ before)
      → (IsErrOf r fetch.Absent → LacksName holds name) → (IsErrOf r fetch.TooLong → HasTooMany holds name) → Stops i end
  fetch-stops r fetch.Failed end e k cause there sound lacks many = subst (Stops i) (sym k) (failed-refuses (cause.failed e) (there (λ h. cc (e, h))))
  fetch-stops r fetch.Absent end e (inl k) cause there sound lacks many = subst (Stops i) (sym k) (absent-refuses (lacks e) (cause.absent e) (sound (λ h. cc (e, h))))
  fetch-stops r fetch.Absent end e (inr k) cause there sound lacks many = subst (Stops i) (sym k) tt
  fetch-stops r fetch.TooLong end e k cause there sound lacks many =
      subst (Stops i) (sym k) (long-refuses (many e) (record { sound = sound (λ h. cc (e, h)); there = there (λ h. cc (e, h)) }))
  fetch-stops r fetch.NoMemory end e k cause there sound lacks many = subst (Stops i) (sym k) tt

-- no fetch of two parts failed or missed a name
pub none-missed-then : (before mid after : ℕ) (missed mids misses : List ℕ → ℕ) → NoneMissed before mid missed mids → NoneMissed mid after mids misses → NoneMissed before after missed misses
none-missed-then before mid after missed mids misses h k = record { sound = k.sound ∙ h.sound; there = λ q. k.there q ∙ h.there q }

-- the bytes of a name in the library that the call saw
pub saw-held : (i : Input) (held : Option Held) (name bytes : List ℕ) → i.held ≡ held → IsHeld held name bytes → IsHeld i.held name bytes
saw-held i held name bytes e h = rw e h

pub saw-or-none : (i : Input) (held : Option Held) (name bytes : Option (List ℕ)) → i.held ≡ held → IsHeldOrNone held name bytes → IsHeldOrNone i.held name bytes
saw-or-none i held name bytes e h = rw e h

-- a result by both its clauses
pub both-cases : {A B : Type 0} (r : Result A B) {P P' : A → Type 0} {Q Q' : B → Type 0} → IfOk r P → IfErr r Q
    → ((x : A) → P x → P' x) → ((y : B) → Q y → Q' y) → MatchResult r P' Q'
both-cases (Ok x) h k f g = f x h
both-cases (Err y) h k f g = g y k

-- the sets that the call saw are held
pub held-there : (i : Input) (held : Option Held) (n : SetNames) (s : Sets) → i.held ≡ held → AreHeld held n s → AreHeld i.held n s
held-there i held n s e h = rw e h

-- the table of CERTDATA is there if the program names it
pub held-some : (held : Option Held) (n o : Option (List ℕ)) → IsHeldOrNone held n o → is_some n ≡ is_some o
held-some held None None h = refl
held-some held None (Some b) h = absurd h
held-some held (Some a) None h = absurd h
held-some held (Some a) (Some b) h = refl

pub table-some : (o : Option (List ℕ)) (t : Option Grid) → IsTableOrNone o t → is_some o ≡ is_some t
table-some None None h = refl
table-some None (Some t) h = absurd h
table-some (Some b) None h = absurd h
table-some (Some b) (Some t) h = refl

-- the problem that is posed is that of the program
pub poses : (s : Sets) (t : Grids) (p q : Program) (problem : LinearProgram) → AreTables s t → q ≡ p → IsPosed (problem_in p t.arcdata t.nodedata t.condata) problem → IsProblemOf q s problem
poses s t p q problem h e (n, due, is) =
    record { network = n; posed = subst (λ r. problem_of r (data_of s) ≡ Ok n) (sym e) (posed_by_tables s t p h ∙ due); is = is }

-- and where it is refused, so is the call
pub refuses : (i : Input) (c : Command) (s : Sets) (t : Grids) (p : Program) (f : FetchesSets i c s) → AreTables s t → f.named.program ≡ p
    → (stop : Stop) → IsStopOf (problem_in p t.arcdata t.nodedata t.condata) stop → Stops i stop
refuses i c s t p f h e (stop.Refused r) (OfTable set fault, due, is) = absurd (no-table p t.arcdata t.nodedata t.condata set fault due)
refuses i c s t p f h e (stop.Refused r) (OfRoles set fault, due, is) =
    subst (Refuses i) (sym is) (c, s, f, t, h, subst (λ q. problem_of q (data_of s) ≡ Err (OfRoles set fault)) (sym e) (posed_by_tables s t p h ∙ due))
refuses i c s t p f h e (stop.Refused r) (OfData fault, due, is) =
    subst (Refuses i) (sym is) (c, s, f, t, h, subst (λ q. problem_of q (data_of s) ≡ Err (OfData fault)) (sym e) (posed_by_tables s t p h ∙ due))
refuses i c s t p f h e stop.NoMemory k = tt

-- a certificate was read, of the tables of a check
pub reads-of : (i : Input) (s : Sets) (t : Grid) (problem : LinearProgram) (certificate : Cert) → PosesProblem i Check s problem → IsTableOrNone s.certdata (Some t)
    → cert_read t (length problem.columns) (length problem.rows) ≡ Ok certificate → ReadsCertificate i problem certificate
reads-of i s t problem certificate posed table claimed = record { sets = s; poses = posed; claimed = record { table = t; table_is = table; claimed = claimed } }

-- a refusal whose line was written has its status
pub refused-comes : (c : Call) (r : Refusal) → Refuses c.input r → Lists c (refusal_line r) → KeepsLibrary c → Comes c (refusal_status r)
refused-comes c refusal.Usage h l k = (h, l, k)
refused-comes c (refusal.NoProgram fault) h l k = inl (fault, (h, l, k))
refused-comes c refusal.NotStanding h l k = inr (h, l, k)
refused-comes c refusal.ReadFault h l k = (h, l, k)
refused-comes c (refusal.Absent name) h l k = (name, (h, l, k))
refused-comes c (refusal.TooLong set) h l k = inl (set, (h, l, k))
refused-comes c (refusal.NoTable set fault) h l k = inr (inl (set, fault, (h, l, k)))
refused-comes c (refusal.NoRoles set fault) h l k = inr (inr (inl (set, fault, (h, l, k))))
refused-comes c (refusal.NoNetwork fault) h l k = inr (inr (inr (fault, (h, l, k))))
refused-comes c (refusal.NoCertificate fault) h l k = inl (fault, (h, l, k))
refused-comes c (refusal.NotValid why) h l k = inr (why, (h, l, k))
refused-comes c (refusal.Range passed) h l k = inl (passed, (h, l, k))

-- what holds of an answer, of what held of it before
pub ok-then : {A B : Type 0} (r : Result A B) {P Q : A → Type 0} → IfOk r P → ((x : A) → P x → Q x) → IfOk r Q
ok-then (Ok x) h f = f x h
ok-then (Err y) h f = h

pub on-ok : {A B : Type 0} (r : Result A B) {P : Type 0} → P → OnOk r P
on-ok (Ok x) h = h
on-ok (Err y) h = tt

pub err-then : {A B : Type 0} (r : Result A B) {P Q : B → Type 0} → IfErr r P → ((y : B) → P y → Q y) → IfErr r Q
err-then (Ok x) h f = h
err-then (Err y) h f = f y h

-- what may be left out, of what holds where it is there
pub some-holds : {A : Type 0} (o : Option A) {P : A → Type 0} → ((x : A) → o ≡ Some x → P x) → IfSome o P
some-holds None f = tt
some-holds (Some x) f = f x refl

-- ---- how the problem is refused
pub roles-stop : (s : SetName) (r due : Result RoleColumns RoleFault) (f : RoleFault) → r ≡ Err f → (r ≡ Err fault.NoMemory) ⊎ (r ≡ due) → IsStopOf (in_roles s due) (stop_of_roles s f)
roles-stop s r due fault.NoMemory e h = tt
roles-stop s r due (fault.NoColumn n) e (inl h) = absurd (cc (e, h))
roles-stop s r due (fault.NoColumn n) e (inr h) = (OfRoles s (fault.NoColumn n), ap (in_roles s) (sym h ∙ e), refl)
roles-stop s r due (fault.TwoRoles n) e (inl h) = absurd (cc (e, h))
roles-stop s r due (fault.TwoRoles n) e (inr h) = (OfRoles s (fault.TwoRoles n), ap (in_roles s) (sym h ∙ e), refl)
roles-stop s r due (fault.MissingRole q) e (inl h) = absurd (cc (e, h))
roles-stop s r due (fault.MissingRole q) e (inr h) = (OfRoles s (fault.MissingRole q), ap (in_roles s) (sym h ∙ e), refl)

pub data-stop : (r : Result Network DataFault) (f : DataFault) → (f.kind ≡ kind.NoMemory) ⊎ (r ≡ Err f) → IsStopOf (in_data r) (stop_of_data f)
data-stop r f h = by (is_no_memory f.kind) refl h
  where
    by : (b : Bool) → is_no_memory f.kind ≡ b → (f.kind ≡ kind.NoMemory) ⊎ (r ≡ Err f) → IsStopOf (in_data r) (if b then stop.NoMemory else stop.Refused (refusal.NoNetwork f))
    by true e k = tt
    by false e (inl k) = let t = ap is_no_memory k in absurd cc
    by false e (inr k) = (OfData f, ap in_data k, refl)

pub memory-or-data-stop : (r : Result Network DataFault) (f : DataFault) → (f ≡ out_of_memory) ⊎ (r ≡ Err f) → IsStopOf (in_data r) (stop_of_data f)
memory-or-data-stop r f (inl e) = data-stop r f (inl (ap (λ g. g.kind) e))
memory-or-data-stop r f (inr e) = data-stop r f (inr e)

pub size-stop : (n : Network) (s : Stop) → most_rows < length n.program.rows → IsStopOf too_large s → IsStopOf (in_size n) s
size-stop n s many h = subst (λ d. IsStopOf d s) (sym (too-many n many)) h

-- what is refused first is refused; and what follows an answer
pub first-stop : {A B : Type 0} (r : Result A ProblemRefusal) (next : A → Result B ProblemRefusal) (s : Stop) → IsStopOf r s → IsStopOf (then_with r next) s
first-stop r next (stop.Refused q) (f, due, is) = (f, then_stop r f next due, is)
first-stop r next stop.NoMemory h = tt

pub next-stop : {A B : Type 0} (r : Result A ProblemRefusal) (x : A) (next : A → Result B ProblemRefusal) (s : Stop) → r ≡ Ok x → IsStopOf (next x) s → IsStopOf (then_with r next) s
next-stop r x next s h k = subst (λ d. IsStopOf d s) (sym (then_step r x next h)) k

pub next-posed : {A : Type 0} (r : Result A ProblemRefusal) (x : A) (next : A → Result Network ProblemRefusal) (p : LinearProgram) → r ≡ Ok x → IsPosed (next x) p → IsPosed (then_with r next) p
next-posed r x next p h k = subst (λ d. IsPosed d p) (sym (then_step r x next h)) k

-- the header of CONDATA, where it is lent
lent-header : (o : Option (Bor Grid)) → header_of o ≡ header_in (option_copied o)
lent-header None = refl
lent-header (Some t) = refl

-- the problem of its tables, behind the roles of ARCDATA
module _ (p : Program) (a : Grid) (nodes : Option Grid) (o : Option (Bor Grid)) where
  abbrev arc-roles : Result RoleColumns ProblemRefusal
  arc-roles = in_roles Arcdata (roles_due Arcs a.header (header_of o) p.roles)

  here-then : (P : Result Network ProblemRefusal → Type 0) → P (then_with arc-roles (λ x. with_nodes p x a nodes (option_copied o))) → P (problem_in p a nodes (option_copied o))
  unfolding problem_in
  here-then P h = subst (λ c. P (then_with (in_roles Arcdata (roles_due Arcs a.header c p.roles)) (λ x. with_nodes p x a nodes (option_copied o)))) (lent-header o) h

  pub problem-posed : (cons : Option Grid) (r : RoleColumns) (q : LinearProgram) → option_copied o ≡ cons → arc-roles ≡ Ok r → IsPosed (with_nodes p r a nodes (option_copied o)) q → IsPosed (problem_in p a nodes cons) q
  problem-posed cons r q e h k = subst (λ c. IsPosed (problem_in p a nodes c) q) e (here-then (λ d. IsPosed d q) (next-posed arc-roles r (λ x. with_nodes p x a nodes (option_copied o)) q h k))

  pub problem-stops : (cons : Option Grid) (r : RoleColumns) (s : Stop) → option_copied o ≡ cons → arc-roles ≡ Ok r → IsStopOf (with_nodes p r a nodes (option_copied o)) s → IsStopOf (problem_in p a nodes cons) s
  problem-stops cons r s e h k = subst (λ c. IsStopOf (problem_in p a nodes c) s) e (here-then (λ d. IsStopOf d s) (next-stop arc-roles r (λ x. with_nodes p x a nodes (option_copied o)) s h k))

  pub problem-stops-first : (cons : Option Grid) (s : Stop) → option_copied o ≡ cons → IsStopOf arc-roles s → IsStopOf (problem_in p a nodes cons) s
  problem-stops-first cons s e k = subst (λ c. IsStopOf (problem_in p a nodes c) s) e (here-then (λ d. IsStopOf d s) (first-stop arc-roles (λ x. with_nodes p x a nodes (option_copied o)) s k))

-- the network of its tables, once it is built
pub sized-stop : (d : Result Network ProblemRefusal) (b : LinearProgram) (s : Stop) → IsPosed d b → ((labels : LabelList) → IsStopOf (in_size (record { program = b; labels = labels })) s) → IsStopOf (then_with d in_size) s
sized-stop d b s (n, due, is) h = next-stop d n in_size s due (subst (λ q. IsStopOf (in_size (record { program = q; labels = n.labels })) s) is (h n.labels))

pub sized-posed : (d : Result Network ProblemRefusal) (b q : LinearProgram) → IsPosed d b → (q ≡ b) × ((labels : LabelList) → in_size (record { program = b; labels = labels }) ≡ Ok (record { program = b; labels = labels })) → IsPosed (then_with d in_size) q
sized-posed d b q (n, due, is) (same, fits) =
    next-posed d n in_size q due
    (n, subst (λ x. in_size (record { program = x; labels = n.labels }) ≡ Ok (record { program = x; labels = n.labels })) is (fits n.labels), same ∙ is)

pub same-posed : (d : Result Network ProblemRefusal) (b q : LinearProgram) → IsPosed d b → q ≡ b → IsPosed d q
same-posed d b q (n, due, is) same = (n, due, same ∙ is)

-- want of memory stops each call
pub starved-stop : (d : Result Network ProblemRefusal) (s : Stop) → s ≡ stop.NoMemory → IsStopOf d s
starved-stop d s h = subst (IsStopOf d) (sym h) tt

-- the network that was built, as a problem that is posed
pub network-posed : (r : Result Network DataFault) (n : Network) → r ≡ Ok n → IsPosed (in_data r) n.program
network-posed r n h = (n, ap in_data h, refl)

-- the problem with CONDATA, behind the roles of ARCDATA and NODEDATA
module _ (p : Program) (ar : RoleColumns) (a : Grid) (nr : RoleColumns) (t cons : Grid) where
  abbrev cons-roles : Result RoleColumns ProblemRefusal
  cons-roles = in_roles Condata (roles_due (layout p.proc) cons.header [] p.roles)

  abbrev network : Result Network DataFault
  network = network_due p.proc ar a nr t

  abbrev added : RoleColumns → Network → Result Network ProblemRefusal
  added r n = in_data (with_constraints p.proc n r cons)

  abbrev behind : RoleColumns → Result Network ProblemRefusal
  behind r = then_with (in_data network) (λ n. then_with (added r n) in_size)

  pub cons-stops-first : (s : Stop) → IsStopOf cons-roles s → IsStopOf (with_cons p ar a nr t (Some cons)) s
  cons-stops-first s h = first-stop cons-roles behind s h

  pub cons-stops-network : (r : RoleColumns) (s : Stop) → cons-roles ≡ Ok r → IsStopOf (in_data network) s → IsStopOf (with_cons p ar a nr t (Some cons)) s
  cons-stops-network r s h k = next-stop cons-roles r behind s h (first-stop (in_data network) (λ n. then_with (added r n) in_size) s k)

  pub cons-stops : (r : RoleColumns) (n : Network) (s : Stop) → cons-roles ≡ Ok r → network ≡ Ok n → IsStopOf (then_with (added r n) in_size) s → IsStopOf (with_cons p ar a nr t (Some cons)) s
  cons-stops r n s h k l = next-stop cons-roles r behind s h (next-stop (in_data network) n (λ m. then_with (added r m) in_size) s (ap in_data k) l)

  pub cons-posed : (r : RoleColumns) (n : Network) (q : LinearProgram) → cons-roles ≡ Ok r → network ≡ Ok n → IsPosed (then_with (added r n) in_size) q → IsPosed (with_cons p ar a nr t (Some cons)) q
  cons-posed r n q h k l = next-posed cons-roles r behind q h (next-posed (in_data network) n (λ m. then_with (added r m) in_size) q (ap in_data k) l)
