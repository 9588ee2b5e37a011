-- When each status comes, of a call of any words. The contract of the program rests on it.
use Rattle.std.specs.Prelude.{◌≡◌, ◌⊎◌, ℕ, List, []}
use Rattle.nf_program.specs.declared.program.Command.{Command}
use Rattle.nf_top.specs.declared.status.Status.{Status}
use Rattle.nf_top.specs.declared.status.Status.TheVariants as status
use Rattle.nf_top.specs.Outcome.{AllFetched, Call, KeepsLibrary, Lists}
use Rattle.nf_top.specs.Outcome as top
use Rattle.nf_top.specs.Words.{IsCommand}
use Rattle.nf_command.specs.Words.{AsksPlain, AsksSample}
use Rattle.nf_command.specs.declared.plain.PlainCommand.{PlainCommand}
use Rattle.nf_command.specs.declared.plain.PlainCommand.TheVariants.{Run, Import, Export}
use Rattle.nf_command.specs.declared.size.SampleSize.{SampleSize}
use Rattle.nf_exchange.specs.Ending.{Concludes}
use Rattle.nf_exchange.specs.Export.{ExportEnds}
use Rattle.nf_exchange.specs.Import.{ImportEnds}
use Rattle.nf_call.specs.Lines.{usage_line}
use Rattle.nf_call.specs.Sample.{SampleEnds}

-- The words ask for no sample.
abbrev pub AsksNone : List (List ℕ) → Type 0
AsksNone words = (n : SampleSize) → AsksSample n words → ⊥

-- The words are none that the usage line names: not the one word of a command, and not `sample` with the numbers of a sample.
abbrev pub IsUnknown : List (List ℕ) → Type 0
IsUnknown words = ((c : PlainCommand) → AsksPlain c words → ⊥) × AsksNone words

-- The words are those of no command that stores: not `run`, and not `import`.
abbrev pub StoresNothing : List (List ℕ) → Type 0
StoresNothing words = (AsksPlain Run words → ⊥) × (AsksPlain Import words → ⊥)

-- The words ask for this sample, which ends so.
abbrev pub EndsSample : Call → Status → Type 0
EndsSample c s = (n : SampleSize) × AsksSample n c.input.words × SampleEnds n c.written c.put c.sink_faults c.sink_faults_after s × KeepsLibrary c

-- The words are `import`, which ends so.
abbrev pub EndsImport : Call → Status → Type 0
EndsImport c s = AsksPlain Import c.input.words × ImportEnds c s

-- The words are `export`, which ends so.
abbrev pub EndsExport : Call → Status → Type 0
EndsExport c s = AsksPlain Export c.input.words × ExportEnds c s

-- The words are `run` or `check`, which ends so.
abbrev pub EndsCommand : Call → Status → Type 0
EndsCommand c s = (d : Command) × IsCommand d c.input.words × top.Comes c s

-- The words are no command, and the usage line was due.
abbrev pub EndsUsage : Call → Status → Type 0
EndsUsage c s = IsUnknown c.input.words × Concludes usage_line status.Usage c s × KeepsLibrary c × AllFetched c.input

-- When each status comes: the words are those of a command, and it comes as it does of that; or they are no command; or there
-- is no memory to read them.
abbrev pub Comes : Call → Status → Type 0
Comes c s =
    EndsSample c s ⊎ EndsImport c s ⊎ EndsExport c s ⊎ EndsCommand c s ⊎ EndsUsage c s
    ⊎ ((s ≡ status.NoMemory) × Lists c [] × KeepsLibrary c)
