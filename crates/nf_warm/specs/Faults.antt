-- Which fault is reported of what is due: the first fault of the tables, or that there is no memory.
-- The promise of `read_saved` says it of the session that is read.
use Rattle.std.specs.Prelude.{◌≡◌, Result, Err}
use Rattle.nf_saved.specs.declared.fault.SavedFault.{SavedFault}
use Rattle.nf_warm.specs.declared.fault.WarmFault.{WarmFault}
use Rattle.nf_warm.specs.declared.fault.WarmFault.TheVariants as fault

-- Where this is due, the fault is the one that is due, or out of memory.
abbrev pub IsFaultOf : {A : Type 0} → Result A SavedFault → WarmFault → Type 0
IsFaultOf due (fault.Saved f) = due ≡ Err f
IsFaultOf due fault.NoMemory = Unit {0}
