-- How `import` ends: what it read, what it stored and what it listed. The contract of `import` rests on it.
use Rattle.std.specs.Prelude.{◌≡◌, ◌<◌, ◌⊎◌, ℕ, List, [], Option, Some, length, codes}
use Rattle.std.specs.Io.KnownBytes.{Consumes, IsAtEnd}
use Rattle.nf_io.specs.Causes.{Rose}
use Rattle.nf_io.specs.Held.{Held, OthersStay, Stored, most_bytes}
use Rattle.nf_table.specs.Writing.{table_text}
use Rattle.nf_dimacs.specs.Text.{AreTables, fault_of}
use Rattle.nf_dimacs.specs.declared.tables.DimacsTables.{DimacsTables}
use Rattle.nf_top.specs.declared.status.Status.{Status}
use Rattle.nf_top.specs.declared.status.Status.TheVariants as status
use Rattle.nf_top.specs.Outcome.{AllFetched, Call, Input, KeepsLibrary, Lists}
use Rattle.nf_exchange.specs.declared.refusal.Refusal.{Refusal}
use Rattle.nf_exchange.specs.declared.refusal.Refusal.TheVariants as refusal
use Rattle.nf_exchange.specs.Ending.{Concludes}
use Rattle.nf_exchange.specs.Lines.{imported_line, refusal_line, refusal_status}

-- The whole source is a text without fault, and these are its tables.
pub record ReadsTables (i : Input) (t : DimacsTables) : Type 0 where
  pub text : List ℕ
  pub taken : Consumes i.left i.rest text
  pub ended : IsAtEnd i.rest
  pub tables : AreTables text t

-- The cause of each refusal of `import`.
abbrev pub IsRefused : Input → Refusal → Type 0
-- the count of the source's faults rose
IsRefused i refusal.ReadFault = Rose i.source_faults i.source_faults_after
-- the source gave a text with this first fault: all of its text, or one that is too long
IsRefused i (refusal.NoDimacs fault) =
    (text : List ℕ) × Consumes i.left i.rest text × (fault_of text ≡ Some fault) × ((most_bytes < length text) ⊎ IsAtEnd i.rest)
IsRefused i _ = ⊥

-- `import` was refused, its line was due, and nothing was stored.
abbrev pub EndsRefused : Call → Status → Type 0
EndsRefused c s = (r : Refusal) × IsRefused c.input r × Concludes (refusal_line r) (refusal_status r) c s × (c.held ≡ c.input.held) × (c.store_faults_after ≡ c.store_faults)

-- A store under this name fails, or there is no memory for it. Every other name then has what it had, and nothing is listed.
abbrev pub EndsAtStore : Call → Option Held → List ℕ → Status → Type 0
EndsAtStore c held name s =
    ((s ≡ status.WriteFault) × Rose c.store_faults c.store_faults_after × OthersStay held c.held name × Lists c [])
    ⊎ ((s ≡ status.NoMemory) × (c.held ≡ held) × Lists c [])

-- The table of the arcs is stored as `arcs` in a library that then holds this.
abbrev pub StoresArcs : Call → DimacsTables → Option Held → Type 0
StoresArcs c t held = Stored c.input.held held (codes "arcs") (table_text t.arcs)

-- Both tables are stored, `arcs` and then `nodes`.
abbrev pub StoresBoth : Call → DimacsTables → Type 0
StoresBoth c t = (mid : Option Held) × StoresArcs c t mid × Stored mid c.held (codes "nodes") (table_text t.nodes)

-- The line that counts the nodes and arcs.
abbrev pub line_of : DimacsTables → List ℕ
line_of t = imported_line (length t.nodes.rows) (length t.arcs.rows)

-- Tables are stored, `arcs` and then `nodes`, and then their line is due; or the first store that fails ends the command.
abbrev pub EndsStoring : Call → DimacsTables → Status → Type 0
EndsStoring c t s =
    (StoresBoth c t × Concludes (line_of t) status.Finished c s)
    ⊎ EndsAtStore c c.input.held (codes "arcs") s
    ⊎ ((mid : Option Held) × StoresArcs c t mid × EndsAtStore c mid (codes "nodes") s)

-- How `import` ends: refused; or storing the tables of the source's text; or there is no memory to come so far. Nothing is
-- fetched.
pub record ImportEnds (c : Call) (s : Status) : Type 0 where
  pub fetched : AllFetched c.input
  pub ends : EndsRefused c s ⊎ ((t : DimacsTables) × ReadsTables c.input t × EndsStoring c t s) ⊎ ((s ≡ status.NoMemory) × Lists c [] × KeepsLibrary c)
