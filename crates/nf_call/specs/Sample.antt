-- What a sample is and how it ends: its tables, the run on them, and the check of the certificate that the run stored.
-- The clauses of `netflow` on `sample` rest on it.
use Rattle.std.specs.Prelude.{◌≡◌, ◌≢◌, ◌⊎◌, ◌∷◌, ◌++◌, ℕ, List, [], Option, Some, None, codes}
use Rattle.std.specs.Option.{option_map}
use Rattle.std.specs.Io.KnownBytes.{Appends}
use Rattle.nf_io.specs.Causes.{Rose}
use Rattle.nf_io.specs.Held.{Held, found}
use Rattle.nf_io.specs.Progress.{PutPrefix}
use Rattle.nf_table.specs.Writing.{table_text}
use Rattle.nf_sample.specs.Sample.{IsSample}
use Rattle.nf_sample.specs.declared.tables.SampleTables.{SampleTables}
use Rattle.nf_top.specs.declared.status.Status.{Status}
use Rattle.nf_top.specs.declared.status.Status.TheVariants as status
use Rattle.nf_top.specs.Headline.{ClaimIsProved, NothingFails, RunIsExplained, StoresProof}
use Rattle.nf_top.specs.Outcome.{Call, Comes}
use Rattle.nf_command.specs.declared.size.SampleSize.{SampleSize}
use Rattle.nf_call.specs.Lines.{but_last_line, check_lines, check_text, run_lines, run_text, sample_line}

-- The library has the tables of a sample under the names `arcs`, `nodes` and `cons`, each as a text; `cons` only if there are
-- constraints.
pub record HoldsSample (n : SampleSize) (held : Held) : Type 0 where
  pub tables : SampleTables
  pub made : IsSample n.seed n.nodes n.arcs n.cons tables
  pub arcs : found held (codes "arcs") ≡ Some (table_text tables.arcs)
  pub nodes : found held (codes "nodes") ≡ Some (table_text tables.nodes)
  pub cons : found held (codes "cons") ≡ option_map table_text tables.cons

-- A call of one word over a source, a library and a listing in memory, none of which fails: the source has this text, the
-- library has these sets before and those after it, and this is listed.
pub record IsInMemory (c : Call) (word text : List ℕ) (held after : Held) (listed : List ℕ) : Type 0 where
  pub words : c.input.words ≡ word ∷ []
  pub source : c.input.left ≡ Some text
  pub library : c.input.held ≡ Some held
  pub library_after : c.held ≡ Some after
  pub empty : c.written ≡ Some []
  pub listing : c.put ≡ Some listed
  pub calm : NothingFails c
  pub stores_calm : Rose c.store_faults c.store_faults_after → ⊥

-- The run of a sample on its tables: it ended so, listed this, and left this under the name `k`.
pub record RunsSample (n : SampleSize) (ended : Status) (listed : List ℕ) (certificate : Option (List ℕ)) : Type 0 where
  pub call : Call
  pub held : Held
  pub after : Held
  pub holds : HoldsSample n held
  pub runs : IsInMemory call (codes "run") (run_text n) held after listed
  pub ends : Comes call ended
  pub left : found after (codes "k") ≡ certificate
  pub explained : ended ≡ status.Finished → RunIsExplained call
  pub proved : ended ≡ status.Finished → StoresProof call

-- The check of a certificate on the same tables: it ended so, and listed this.
pub record ChecksSample (n : SampleSize) (certificate : List ℕ) (ended : Status) (listed : List ℕ) : Type 0 where
  pub call : Call
  pub held : Held
  pub after : Held
  pub holds : HoldsSample n held
  pub certificate_is : found held (codes "k") ≡ Some certificate
  pub checks : IsInMemory call (codes "check") (check_text n) held after listed
  pub ends : Comes call ended
  pub proved : ended ≡ status.Finished → ClaimIsProved call

-- What follows the first line of a summary, and how the sample ends: what it has of a run that did not finish, or stored no
-- certificate; or the lines of the RUN, and what the check of the stored certificate says.
abbrev pub Follows : SampleSize → List ℕ → Status → Type 0
Follows n rest ended =
    ((listed : List ℕ) × (certificate : Option (List ℕ)) × RunsSample n ended listed certificate × ((certificate ≡ None) ⊎ (ended ≢ status.Finished)) × (rest ≡ run_lines ended listed))
    ⊎ ((listed certificate checked : List ℕ) × RunsSample n status.Finished listed (Some certificate) × ChecksSample n certificate ended checked
    × (rest ≡ but_last_line listed ++ check_lines ended checked))

-- The summary of a sample, and how it ends.
abbrev pub IsSummary : SampleSize → List ℕ → Status → Type 0
IsSummary n text ended = (rest : List ℕ) × Follows n rest ended × (text ≡ sample_line n ++ rest)

-- A first part of a summary is written.
abbrev pub WritesPart : SampleSize → Option (List ℕ) → Option (List ℕ) → Type 0
WritesPart n old new = (text : List ℕ) × (ended : Status) × IsSummary n text ended × PutPrefix old new text

-- How a sample ends, by its listing before and after and the counts of its faults: with its summary; or the listing fails
-- in it; or memory runs out, before the summary is due or within it.
abbrev pub SampleEnds : SampleSize → Option (List ℕ) → Option (List ℕ) → ℕ → ℕ → Status → Type 0
SampleEnds n old new before after ended =
    ((text : List ℕ) × IsSummary n text ended × Appends old new text)
    ⊎ ((ended ≡ status.WriteFault) × Rose before after × WritesPart n old new)
    ⊎ ((ended ≡ status.NoMemory) × (Appends old new [] ⊎ WritesPart n old new))
