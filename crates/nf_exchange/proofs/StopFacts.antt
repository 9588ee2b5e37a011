-- How a step of `export` ends it.
use Rattle.std.proofs.Common.{Bool, true, false, if◌then◌else◌, Result, Ok, Err, IsErrOf, ◌≡◌, ◌∙◌, ◌<◌, ◌⊎◌, ℕ, List, [], Option, None, Some, ap, length, inl, inr, refl, subst, subst₂, sym}
use Rattle.std.specs.Borrow.{Bor}
use Rattle.std.specs.Option.{option_copied}
use Rattle.nf_io.specs.Causes.{HasFetchCause, Rose}
use Rattle.nf_io.specs.Held.{Held, HasTooMany, LacksName}
use Rattle.nf_io.specs.declared.faults.FetchFault.{FetchFault}
use Rattle.nf_io.specs.declared.faults.FetchFault.TheVariants as fetch
use Rattle.nf_labels.specs.Labels.{LabelList}
use Rattle.nf_model.specs.Program.{LinearProgram}
use Rattle.nf_network.specs.Network.{Network, network_due}
use Rattle.nf_program.specs.declared.program.Program.{Program}
use Rattle.nf_program.specs.declared.program.SetName.{SetName}
use Rattle.nf_program.specs.declared.program.SetName.TheVariants.{Arcdata, Condata}
use Rattle.nf_roles.specs.Assigned.{header_of, roles_due}
use Rattle.nf_roles.specs.Faults.{out_of_memory}
use Rattle.nf_roles.specs.Roles.{RoleColumns}
use Rattle.nf_roles.specs.declared.columns.SetKind.TheVariants.{Arcs}
use Rattle.nf_roles.specs.declared.fault.DataFault.{DataFault}
use Rattle.nf_roles.specs.declared.fault.DataKind.TheVariants as kind
use Rattle.nf_roles.specs.declared.fault.RoleFault.{RoleFault}
use Rattle.nf_roles.specs.declared.fault.RoleFault.TheVariants as fault
use Rattle.nf_table.specs.Grid.{Grid}
use Rattle.nf_top.specs.Data.{AreTables, Grids, Sets, data_of}
use Rattle.nf_top.specs.Outcome.{Input, NoneMissed}
use Rattle.nf_top.specs.ProblemOf.{Refusal as ProblemRefusal, OfData, OfRoles, OfTable, header_in, in_data, in_roles, in_size, layout, most_rows, problem_in, problem_of, then_with, with_cons, with_constraints, with_nodes}
use Rattle.nf_top.specs.Steps.{IsPosed, SawLibrary, is_no_memory, too_large}
use Rattle.nf_top.proofs.PlainFacts.{no-table, posed_by_tables, then_step, then_stop, too-many}
use Rattle.nf_top.proofs.StopFacts as top
use Rattle.nf_exchange.specs.declared.refusal.Refusal.TheVariants as refusal
use Rattle.nf_exchange.specs.declared.refusal.Stop.{Stop}
use Rattle.nf_exchange.specs.declared.refusal.Stop.TheVariants as stop
use Rattle.nf_exchange.specs.Export.{ComesToFetch, FetchesSets, IsRefused}
use Rattle.nf_exchange.specs.Steps.{IsStopOf, IsStopOfFetch, Stops, stop_of_data, stop_of_roles}

-- how a fetch ends the command
module _ (i : Input) (s : SetName) (name : List ℕ) (holds : Option Held) (before after : ℕ) (missed misses : List ℕ → ℕ)
    (saw : SawLibrary i holds before after missed misses) (comes : ComesToFetch i s name) where
  pub failed-refuses : Rose before after → ((q : List ℕ) → misses q ≡ missed q) → IsRefused i refusal.ReadFault
  failed-refuses rose there = (
    λ q. saw.missed_until q ∙ there q ∙ sym (saw.missed_since q),
    inr (s, name, comes, subst₂ Rose (sym saw.since) (sym saw.until) rose),
  )

  pub absent-refuses : LacksName holds name → Rose (missed name) (misses name) → after ≡ before → IsRefused i (refusal.Absent name)
  absent-refuses lacks rose sound = (
    s,
    comes,
    subst (λ h. LacksName h name) (sym saw.held) lacks,
    subst₂ Rose (sym (saw.missed_since name)) (sym (saw.missed_until name)) rose,
    saw.until ∙ sound ∙ sym saw.since,
  )

  pub long-refuses : HasTooMany holds name → NoneMissed before after missed misses → IsRefused i (refusal.TooLong s)
  long-refuses many none = (name, comes, subst (λ h. HasTooMany h name) (sym saw.held) many, top.saw-none-missed i holds before after missed misses saw none)

  pub fetch-stops : {T : Type 0} (r : Result T FetchFault) (f : FetchFault) (end : Stop) → r ≡ Err f → IsStopOfFetch s name f end → HasFetchCause before after (missed name) (misses name) r
      → (¬ IsErrOf r fetch.Absent → (q : List ℕ) → misses q ≡ missed q) → (¬ IsErrOf r fetch.Failed → after ≡ before)
      → (IsErrOf r fetch.Absent → LacksName holds name) → (IsErrOf r fetch.TooLong → HasTooMany holds name) → Stops i end
  fetch-stops r fetch.Failed end e k cause there sound lacks many = subst (Stops i) (sym k) (failed-refuses (cause.failed e) (there (λ h. cc (e, h))))
  fetch-stops r fetch.Absent end e (inl k) cause there sound lacks many = subst (Stops i) (sym k) (absent-refuses (lacks e) (cause.absent e) (sound (λ h. cc (e, h))))
  fetch-stops r fetch.Absent end e (inr k) cause there sound lacks many = subst (Stops i) (sym k) tt
  fetch-stops r fetch.TooLong end e k cause there sound lacks many =
      subst (Stops i) (sym k) (long-refuses (many e) (record { sound = sound (λ h. cc (e, h)); there = there (λ h. cc (e, h)) }))
  fetch-stops r fetch.NoMemory end e k cause there sound lacks many = subst (Stops i) (sym k) tt

-- if the problem is refused, so is the command
pub refuses : (i : Input) (s : Sets) (t : Grids) (p : Program) (f : FetchesSets i s) → AreTables s t → f.named.program ≡ p
    → (end : Stop) → IsStopOf (problem_in p t.arcdata t.nodedata t.condata) end → Stops i end
refuses i s t p f h e (stop.Refused r) (OfTable set fault, due, is) = absurd (no-table p t.arcdata t.nodedata t.condata set fault due)
refuses i s t p f h e (stop.Refused r) (OfRoles set fault, due, is) =
    subst (IsRefused i) (sym is) (s, f, t, h, subst (λ q. problem_of q (data_of s) ≡ Err (OfRoles set fault)) (sym e) (posed_by_tables s t p h ∙ due))
refuses i s t p f h e (stop.Refused r) (OfData fault, due, is) =
    subst (IsRefused i) (sym is) (s, f, t, h, subst (λ q. problem_of q (data_of s) ≡ Err (OfData fault)) (sym e) (posed_by_tables s t p h ∙ due))
refuses i s t p f h e stop.NoMemory k = tt

-- ---- how the problem is refused
pub roles-stop : (s : SetName) (r due : Result RoleColumns RoleFault) (f : RoleFault) → r ≡ Err f → (r ≡ Err fault.NoMemory) ⊎ (r ≡ due) → IsStopOf (in_roles s due) (stop_of_roles s f)
roles-stop s r due fault.NoMemory e h = tt
roles-stop s r due (fault.NoColumn n) e (inl h) = absurd (cc (e, h))
roles-stop s r due (fault.NoColumn n) e (inr h) = (OfRoles s (fault.NoColumn n), ap (in_roles s) (sym h ∙ e), refl)
roles-stop s r due (fault.TwoRoles n) e (inl h) = absurd (cc (e, h))
roles-stop s r due (fault.TwoRoles n) e (inr h) = (OfRoles s (fault.TwoRoles n), ap (in_roles s) (sym h ∙ e), refl)
roles-stop s r due (fault.MissingRole q) e (inl h) = absurd (cc (e, h))
roles-stop s r due (fault.MissingRole q) e (inr h) = (OfRoles s (fault.MissingRole q), ap (in_roles s) (sym h ∙ e), refl)

pub data-stop : (r : Result Network DataFault) (f : DataFault) → (f.kind ≡ kind.NoMemory) ⊎ (r ≡ Err f) → IsStopOf (in_data r) (stop_of_data f)
data-stop r f h = by (is_no_memory f.kind) refl h
  where
    by : (b : Bool) → is_no_memory f.kind ≡ b → (f.kind ≡ kind.NoMemory) ⊎ (r ≡ Err f) → IsStopOf (in_data r) (if b then stop.NoMemory else stop.Refused (refusal.NoNetwork f))
    by true e k = tt
    by false e (inl k) = let t = ap is_no_memory k in absurd cc
    by false e (inr k) = (OfData f, ap in_data k, refl)

pub memory-or-data-stop : (r : Result Network DataFault) (f : DataFault) → (f ≡ out_of_memory) ⊎ (r ≡ Err f) → IsStopOf (in_data r) (stop_of_data f)
memory-or-data-stop r f (inl e) = data-stop r f (inl (ap (λ g. g.kind) e))
memory-or-data-stop r f (inr e) = data-stop r f (inr e)

pub size-stop : (n : Network) (s : Stop) → most_rows < length n.program.rows → IsStopOf too_large s → IsStopOf (in_size n) s
size-stop n s many h = subst (λ d. IsStopOf d s) (sym (too-many n many)) h

-- what is refused first is refused; and what follows an answer
pub first-stop : {A B : Type 0} (r : Result A ProblemRefusal) (next : A → Result B ProblemRefusal) (s : Stop) → IsStopOf r s → IsStopOf (then_with r next) s
first-stop r next (stop.Refused q) (f, due, is) = (f, then_stop r f next due, is)
first-stop r next stop.NoMemory h = tt

pub next-stop : {A B : Type 0} (r : Result A ProblemRefusal) (x : A) (next : A → Result B ProblemRefusal) (s : Stop) → r ≡ Ok x → IsStopOf (next x) s → IsStopOf (then_with r next) s
next-stop r x next s h k = subst (λ d. IsStopOf d s) (sym (then_step r x next h)) k

-- the header of CONDATA, where it is lent
lent-header : (o : Option (Bor Grid)) → header_of o ≡ header_in (option_copied o)
lent-header None = refl
lent-header (Some t) = refl

-- the problem of its tables, behind the roles of ARCDATA
module _ (p : Program) (a : Grid) (nodes : Option Grid) (o : Option (Bor Grid)) where
  abbrev arc-roles : Result RoleColumns ProblemRefusal
  arc-roles = in_roles Arcdata (roles_due Arcs a.header (header_of o) p.roles)

  here-then : (P : Result Network ProblemRefusal → Type 0) → P (then_with arc-roles (λ x. with_nodes p x a nodes (option_copied o))) → P (problem_in p a nodes (option_copied o))
  unfolding problem_in
  here-then P h = subst (λ c. P (then_with (in_roles Arcdata (roles_due Arcs a.header c p.roles)) (λ x. with_nodes p x a nodes (option_copied o)))) (lent-header o) h

  pub problem-stops : (cons : Option Grid) (r : RoleColumns) (s : Stop) → option_copied o ≡ cons → arc-roles ≡ Ok r → IsStopOf (with_nodes p r a nodes (option_copied o)) s → IsStopOf (problem_in p a nodes cons) s
  problem-stops cons r s e h k = subst (λ c. IsStopOf (problem_in p a nodes c) s) e (here-then (λ d. IsStopOf d s) (next-stop arc-roles r (λ x. with_nodes p x a nodes (option_copied o)) s h k))

  pub problem-stops-first : (cons : Option Grid) (s : Stop) → option_copied o ≡ cons → IsStopOf arc-roles s → IsStopOf (problem_in p a nodes cons) s
  problem-stops-first cons s e k = subst (λ c. IsStopOf (problem_in p a nodes c) s) e (here-then (λ d. IsStopOf d s) (first-stop arc-roles (λ x. with_nodes p x a nodes (option_copied o)) s k))

-- the network of its tables, once it is built
pub sized-stop : (d : Result Network ProblemRefusal) (b : LinearProgram) (s : Stop) → IsPosed d b → ((labels : LabelList) → IsStopOf (in_size (record { program = b; labels = labels })) s) → IsStopOf (then_with d in_size) s
sized-stop d b s (n, due, is) h = next-stop d n in_size s due (subst (λ q. IsStopOf (in_size (record { program = q; labels = n.labels })) s) is (h n.labels))

-- out of memory
pub starved-stop : (d : Result Network ProblemRefusal) (s : Stop) → s ≡ stop.NoMemory → IsStopOf d s
starved-stop d s h = subst (IsStopOf d) (sym h) tt

-- the problem with CONDATA, behind the roles of ARCDATA and NODEDATA
module _ (p : Program) (ar : RoleColumns) (a : Grid) (nr : RoleColumns) (t cons : Grid) where
  abbrev cons-roles : Result RoleColumns ProblemRefusal
  cons-roles = in_roles Condata (roles_due (layout p.proc) cons.header [] p.roles)

  abbrev network : Result Network DataFault
  network = network_due p.proc ar a nr t

  abbrev added : RoleColumns → Network → Result Network ProblemRefusal
  added r n = in_data (with_constraints p.proc n r cons)

  abbrev behind : RoleColumns → Result Network ProblemRefusal
  behind r = then_with (in_data network) (λ n. then_with (added r n) in_size)

  pub cons-stops-first : (s : Stop) → IsStopOf cons-roles s → IsStopOf (with_cons p ar a nr t (Some cons)) s
  cons-stops-first s h = first-stop cons-roles behind s h

  pub cons-stops-network : (r : RoleColumns) (s : Stop) → cons-roles ≡ Ok r → IsStopOf (in_data network) s → IsStopOf (with_cons p ar a nr t (Some cons)) s
  cons-stops-network r s h k = next-stop cons-roles r behind s h (first-stop (in_data network) (λ n. then_with (added r n) in_size) s k)

  pub cons-stops : (r : RoleColumns) (n : Network) (s : Stop) → cons-roles ≡ Ok r → network ≡ Ok n → IsStopOf (then_with (added r n) in_size) s → IsStopOf (with_cons p ar a nr t (Some cons)) s
  cons-stops r n s h k l = next-stop cons-roles r behind s h (next-stop (in_data network) n (λ m. then_with (added r m) in_size) s (ap in_data k) l)
