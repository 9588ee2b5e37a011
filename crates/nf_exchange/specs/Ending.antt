-- How a command ends once the last text of its listing is due. How `import` and `export` end rests on it.
use Rattle.std.specs.Prelude.{◌≡◌, ◌⊎◌, ℕ, List, Option}
use Rattle.std.specs.Io.KnownBytes.{Appends}
use Rattle.nf_io.specs.Causes.{Rose}
use Rattle.nf_io.specs.Progress.{PutPrefix}
use Rattle.nf_top.specs.declared.status.Status.{Status}
use Rattle.nf_top.specs.declared.status.Status.TheVariants as status
use Rattle.nf_top.specs.Outcome.{Call}

-- By the listing before and after and the counts of its faults: the text is written, and the command ends with the status
-- that it is due with; or the listing failed in it; or memory ran out, before it or within it.
abbrev pub EndsWith : List ℕ → Status → Option (List ℕ) → Option (List ℕ) → ℕ → ℕ → Status → Type 0
EndsWith text due old new before after s =
    ((s ≡ due) × Appends old new text)
    ⊎ ((s ≡ status.WriteFault) × Rose before after × PutPrefix old new text)
    ⊎ ((s ≡ status.NoMemory) × PutPrefix old new text)

-- The same of a call.
abbrev pub Concludes : List ℕ → Status → Call → Status → Type 0
Concludes text due c s = EndsWith text due c.written c.put c.sink_faults c.sink_faults_after s
