-- What `import` promises, from how it ends.
use Rattle.std.proofs.Common.{◌≡◌, ◌∙◌, ◌<◌, ◌⊎◌, true, ℕ, List, [], Option, None, Some, inl, inr, length, codes, arith, refl, sym, subst}
use Rattle.std.proofs.lemmas.Bool.Decides.{nat_tests}
use Rattle.std.specs.Bool.{nat_lt}
use Rattle.nf_io.specs.Causes.{Rose}
use Rattle.nf_io.specs.Held.{Held, Stored, most_bytes}
use Rattle.nf_table.specs.Writing.{table_text}
use Rattle.nf_dimacs.specs.Faults.{fault_at}
use Rattle.nf_dimacs.specs.Text.{fault_of}
use Rattle.nf_dimacs.specs.declared.fault.DimacsFault.{DimacsFault}
use Rattle.nf_dimacs.specs.declared.fault.DimacsKind.TheVariants as kind
use Rattle.nf_dimacs.specs.declared.tables.DimacsTables.{DimacsTables}
use Rattle.nf_top.specs.declared.status.Status.{Status}
use Rattle.nf_top.specs.declared.status.Status.TheVariants as status
use Rattle.nf_top.specs.Headline.{NothingFails}
use Rattle.nf_top.specs.Outcome.{Call, KeepsLibrary, Lists}
use Rattle.nf_top.proofs.CompleteFacts.{all-consumed, front-consumed}
use Rattle.nf_exchange.specs.declared.refusal.Refusal.{Refusal}
use Rattle.nf_exchange.specs.declared.refusal.Refusal.TheVariants as refusal
use Rattle.nf_exchange.specs.Import.{EndsRefused, EndsStoring, ImportEnds, IsRefused, ReadsTables}
use Rattle.nf_exchange.specs.declared.from_text.TableTexts.{TableTexts}
use Rattle.nf_exchange.specs.Steps.{AreTexts, StoresTexts}
use Rattle.nf_exchange.specs.Promises.{HasImported, ImportsTheText, MayEndImport, RefusesNoText}
use Rattle.nf_exchange.specs.Lines.{refusal_status}
use Rattle.nf_exchange.proofs.EndFacts.{never-finished}

-- ---- the stores
pub stores-both : (t : DimacsTables) (x : TableTexts) (had old now : Option Held) → AreTexts t x → old ≡ had → StoresTexts x old now
    → (mid : Option Held) × Stored had mid (codes "arcs") (table_text t.arcs) × Stored mid now (codes "nodes") (table_text t.nodes)
stores-both t x had old now texts e (mid, arcs, nodes) = (
  mid,
  subst (λ b. Stored had mid (codes "arcs") b) texts.arcs (subst (λ h. Stored h mid (codes "arcs") x.arcs) e arcs),
  subst (λ b. Stored mid now (codes "nodes") b) texts.nodes nodes,
)

-- ---- what a finish means
pub has-imported : (c : Call) (s : Status) → ImportEnds c s → s ≡ status.Finished → HasImported c
has-imported c s h e = go h.ends
  where
    go : EndsRefused c s ⊎ ((t : DimacsTables) × ReadsTables c.input t × EndsStoring c t s) ⊎ ((s ≡ status.NoMemory) × Lists c [] × KeepsLibrary c) → HasImported c
    go (inl (r, refused, inl (due, listed), kept, stores)) = absurd (never-finished r (sym due ∙ e))
    go (inl (r, refused, inr (inl (is, rose, put)), kept, stores)) = absurd (cc (e, is))
    go (inl (r, refused, inr (inr (is, put)), kept, stores)) = absurd (cc (e, is))
    go (inr (inl (t, reads, inl (stored, inl (due, listed))))) = record { tables = t; reads = reads; stores = stored; listed = listed }
    go (inr (inl (t, reads, inl (stored, inr (inl (is, rose, put)))))) = absurd (cc (e, is))
    go (inr (inl (t, reads, inl (stored, inr (inr (is, put)))))) = absurd (cc (e, is))
    go (inr (inl (t, reads, inr (inl (inl (is, rose, stays, listed)))))) = absurd (cc (e, is))
    go (inr (inl (t, reads, inr (inl (inr (is, kept, listed)))))) = absurd (cc (e, is))
    go (inr (inl (t, reads, inr (inr (mid, arcs, inl (is, rose, stays, listed)))))) = absurd (cc (e, is))
    go (inr (inl (t, reads, inr (inr (mid, arcs, inr (is, kept, listed)))))) = absurd (cc (e, is))
    go (inr (inr (is, listed, kept))) = absurd (cc (e, is))

-- ---- its statuses
refused-ends : (c : Call) (r : Refusal) → IsRefused c.input r → MayEndImport (refusal_status r)
refused-ends c refusal.ReadFault h = tt
refused-ends c (refusal.NoDimacs fault) h = tt
refused-ends c (refusal.NoProgram fault) h = absurd h
refused-ends c refusal.NotStanding h = absurd h
refused-ends c (refusal.Absent name) h = absurd h
refused-ends c (refusal.TooLong s) h = absurd h
refused-ends c (refusal.NoTable s fault) h = absurd h
refused-ends c (refusal.NoRoles s fault) h = absurd h
refused-ends c (refusal.NoNetwork fault) h = absurd h
refused-ends c (refusal.NoText fault) h = absurd h

pub may-end : (c : Call) (s : Status) → ImportEnds c s → MayEndImport s
may-end c s h = go h.ends
  where
    go : EndsRefused c s ⊎ ((t : DimacsTables) × ReadsTables c.input t × EndsStoring c t s) ⊎ ((s ≡ status.NoMemory) × Lists c [] × KeepsLibrary c) → MayEndImport s
    go (inl (r, refused, inl (due, listed), kept, stores)) = subst MayEndImport (sym due) (refused-ends c r refused)
    go (inl (r, refused, inr (inl (is, rose, put)), kept, stores)) = subst MayEndImport (sym is) tt
    go (inl (r, refused, inr (inr (is, put)), kept, stores)) = subst MayEndImport (sym is) tt
    go (inr (inl (t, reads, inl (stored, inl (due, listed))))) = subst MayEndImport (sym due) tt
    go (inr (inl (t, reads, inl (stored, inr (inl (is, rose, put)))))) = subst MayEndImport (sym is) tt
    go (inr (inl (t, reads, inl (stored, inr (inr (is, put)))))) = subst MayEndImport (sym is) tt
    go (inr (inl (t, reads, inr (inl (inl (is, rose, stays, listed)))))) = subst MayEndImport (sym is) tt
    go (inr (inl (t, reads, inr (inl (inr (is, kept, listed)))))) = subst MayEndImport (sym is) tt
    go (inr (inl (t, reads, inr (inr (mid, arcs, inl (is, rose, stays, listed)))))) = subst MayEndImport (sym is) tt
    go (inr (inl (t, reads, inr (inr (mid, arcs, inr (is, kept, listed)))))) = subst MayEndImport (sym is) tt
    go (inr (inr (is, listed, kept))) = subst MayEndImport (sym is) tt

-- ---- when it must finish
-- a text that is too long has a fault
pub too-long : (text : List ℕ) → most_bytes < length text → fault_of text ≡ Some (fault_at 0 kind.TooLong)
too-long text long =
    let e : nat_lt most_bytes (length text) ≡ true = grind (arith, nat_tests, long) in
    rw e refl

never-both-faults : (o : Option DimacsFault) (f : DimacsFault) → o ≡ None → o ≡ Some f → ⊥
never-both-faults o f h k = cc (h, k)

-- a sound text is not refused
sound-not-refused : (c : Call) (text : List ℕ) (r : Refusal) → NothingFails c → c.input.left ≡ Some text → fault_of text ≡ None → IsRefused c.input r → ⊥
sound-not-refused c text refusal.ReadFault n told sound rose = n.source rose
sound-not-refused c text (refusal.NoDimacs fault) n told sound (taken, h, found, inl long) =
    let within = front-consumed c.input.rest text taken (rw told at h) in
    never-both-faults (fault_of text) (fault_at 0 kind.TooLong) sound (too-long text (omega (arith, long, within)))
sound-not-refused c text (refusal.NoDimacs fault) n told sound (taken, h, found, inr ended) =
    let same = all-consumed c.input.rest text taken (rw told at h) ended in
    never-both-faults (fault_of taken) fault (subst (λ t. fault_of t ≡ None) same sound) found
sound-not-refused c text (refusal.NoProgram fault) n told sound h = h
sound-not-refused c text refusal.NotStanding n told sound h = h
sound-not-refused c text (refusal.Absent name) n told sound h = h
sound-not-refused c text (refusal.TooLong s) n told sound h = h
sound-not-refused c text (refusal.NoTable s fault) n told sound h = h
sound-not-refused c text (refusal.NoRoles s fault) n told sound h = h
sound-not-refused c text (refusal.NoNetwork fault) n told sound h = h
sound-not-refused c text (refusal.NoText fault) n told sound h = h

pub imports-text : (c : Call) (s : Status) → ImportEnds c s → ImportsTheText c s
imports-text c s h = λ text n w told sound. go text n w told sound h.ends
  where
    go : (text : List ℕ) → NothingFails c → (Rose c.store_faults c.store_faults_after → ⊥) → c.input.left ≡ Some text → fault_of text ≡ None
        → EndsRefused c s ⊎ ((t : DimacsTables) × ReadsTables c.input t × EndsStoring c t s) ⊎ ((s ≡ status.NoMemory) × Lists c [] × KeepsLibrary c) → (s ≡ status.Finished) ⊎ (s ≡ status.NoMemory)
    go text n w told sound (inl (r, refused, ends, kept, stores)) = absurd (sound-not-refused c text r n told sound refused)
    go text n w told sound (inr (inl (t, reads, inl (stored, inl (due, listed))))) = inl due
    go text n w told sound (inr (inl (t, reads, inl (stored, inr (inl (is, rose, put)))))) = absurd (n.listing rose)
    go text n w told sound (inr (inl (t, reads, inl (stored, inr (inr (is, put)))))) = inr is
    go text n w told sound (inr (inl (t, reads, inr (inl (inl (is, rose, stays, listed)))))) = absurd (w rose)
    go text n w told sound (inr (inl (t, reads, inr (inl (inr (is, kept, listed)))))) = inr is
    go text n w told sound (inr (inl (t, reads, inr (inr (mid, arcs, inl (is, rose, stays, listed)))))) = absurd (w rose)
    go text n w told sound (inr (inl (t, reads, inr (inr (mid, arcs, inr (is, kept, listed)))))) = inr is
    go text n w told sound (inr (inr (is, listed, kept))) = inr is

-- a text with a fault has no tables
faulty-not-read : (c : Call) (text : List ℕ) (fault : DimacsFault) (t : DimacsTables) → c.input.left ≡ Some text → fault_of text ≡ Some fault → ReadsTables c.input t → ⊥
faulty-not-read c text fault t told found reads =
    let same = all-consumed c.input.rest text reads.text (rw told at reads.taken) reads.ended in
    never-both-faults (fault_of reads.text) fault reads.tables.sound (subst (λ u. fault_of u ≡ Some fault) same found)

pub refuses-text : (c : Call) (s : Status) → ImportEnds c s → RefusesNoText c s
refuses-text c s h = λ text fault n told found. go text fault n told found h.ends
  where
    go : (text : List ℕ) (fault : DimacsFault) → NothingFails c → c.input.left ≡ Some text → fault_of text ≡ Some fault
        → EndsRefused c s ⊎ ((t : DimacsTables) × ReadsTables c.input t × EndsStoring c t s) ⊎ ((s ≡ status.NoMemory) × Lists c [] × KeepsLibrary c) → (s ≡ status.DataRefused) ⊎ (s ≡ status.NoMemory)
    go text fault n told found (inl (refusal.NoDimacs f, refused, inl (due, listed), kept, stores)) = inl due
    go text fault n told found (inl (refusal.NoDimacs f, refused, inr (inl (is, rose, put)), kept, stores)) = absurd (n.listing rose)
    go text fault n told found (inl (refusal.NoDimacs f, refused, inr (inr (is, put)), kept, stores)) = inr is
    go text fault n told found (inl (refusal.ReadFault, rose, ends, kept, stores)) = absurd (n.source rose)
    go text fault n told found (inl (refusal.NoProgram f, refused, ends, kept, stores)) = absurd refused
    go text fault n told found (inl (refusal.NotStanding, refused, ends, kept, stores)) = absurd refused
    go text fault n told found (inl (refusal.Absent name, refused, ends, kept, stores)) = absurd refused
    go text fault n told found (inl (refusal.TooLong set, refused, ends, kept, stores)) = absurd refused
    go text fault n told found (inl (refusal.NoTable set f, refused, ends, kept, stores)) = absurd refused
    go text fault n told found (inl (refusal.NoRoles set f, refused, ends, kept, stores)) = absurd refused
    go text fault n told found (inl (refusal.NoNetwork f, refused, ends, kept, stores)) = absurd refused
    go text fault n told found (inl (refusal.NoText f, refused, ends, kept, stores)) = absurd refused
    go text fault n told found (inr (inl (t, reads, rest))) = absurd (faulty-not-read c text fault t told found reads)
    go text fault n told found (inr (inr (is, listed, kept))) = inr is
