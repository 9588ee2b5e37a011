-- What the parts of a sample say of one another: its tables as texts, a library of them, and a command that was done in
-- memory. The clauses of the functions that a sample is made of rest on it.
use Rattle.std.specs.Prelude.{◌≡◌, ℕ, List, [], Option, Some, None, codes}
use Rattle.std.specs.Option.{option_map}
use Rattle.nf_io.specs.Calls.{untouched}
use Rattle.nf_io.specs.Held.{Given, Held, found}
use Rattle.nf_io.specs.Memory.{LibraryState}
use Rattle.nf_table.specs.Writing.{table_text}
use Rattle.nf_sample.specs.Sample.{IsSample}
use Rattle.nf_sample.specs.declared.tables.SampleTables.{SampleTables}
use Rattle.nf_program.specs.declared.program.Command.TheVariants.{Run, Check}
use Rattle.nf_top.specs.declared.status.Status.{Status}
use Rattle.nf_top.specs.declared.status.Status.TheVariants as status
use Rattle.nf_top.specs.Headline.{ClaimIsProved, RunIsExplained, StoresProof}
use Rattle.nf_top.specs.Outcome.{Call, Comes}
use Rattle.nf_top.specs.Words.{IsCommand}
use Rattle.nf_command.specs.declared.size.SampleSize.{SampleSize}
use Rattle.nf_call.specs.declared.trial.SampleTexts.{SampleTexts}
use Rattle.nf_call.specs.Sample.{IsInMemory}

-- The texts are those of the tables of the sample.
pub record AreTexts (n : SampleSize) (t : SampleTexts) : Type 0 where
  pub tables : SampleTables
  pub made : IsSample n.seed n.nodes n.arcs n.cons tables
  pub arcs : t.arcs ≡ table_text tables.arcs
  pub nodes : t.nodes ≡ table_text tables.nodes
  pub cons : t.cons ≡ option_map table_text tables.cons

-- The library has these texts, each under its name.
pub record HoldsTexts (t : SampleTexts) (held : Held) : Type 0 where
  pub arcs : found held (codes "arcs") ≡ Some t.arcs
  pub nodes : found held (codes "nodes") ≡ Some t.nodes
  pub cons : found held (codes "cons") ≡ t.cons

-- No call was made of the library, and none is to fail.
pub record IsUntouched (l : LibraryState) : Type 0 where
  pub fetches : l.fetches ≡ untouched []
  pub stores : l.stores ≡ untouched []

-- A name has these bytes, if there are any; each other name has what it had.
abbrev pub GivenIfAny : Held → Held → List ℕ → Option (List ℕ) → Type 0
GivenIfAny m n name None = n ≡ m
GivenIfAny m n name (Some bytes) = Given m n name bytes

-- A command was done in memory: it ended so, listed this, and left this under the name `k`.
pub record IsTrial (word text : List ℕ) (held : Held) (ended : Status) (listed : List ℕ) (certificate : Option (List ℕ)) : Type 0 where
  pub call : Call
  pub after : Held
  pub in_memory : IsInMemory call word text held after listed
  pub ends : Comes call ended
  pub left : found after (codes "k") ≡ certificate
  pub explained : ended ≡ status.Finished → IsCommand Run call.input.words → RunIsExplained call
  pub stored : ended ≡ status.Finished → IsCommand Run call.input.words → StoresProof call
  pub accepted : ended ≡ status.Finished → IsCommand Check call.input.words → ClaimIsProved call
