-- When a call to the outside may answer that it failed: only where a count of its faults rose in that call. Every
-- status of a program that blames its outside rests on it.
use Rattle.std.specs.Prelude.{◌+◌, ◌-◌, ◌^◌, ◌≤◌, ℕ, min, Result, OnErr, IsErrOf}
use Rattle.nf_io.specs.declared.faults.FetchFault.{FetchFault}
use Rattle.nf_io.specs.declared.faults.FetchFault.TheVariants as fetch
use Rattle.nf_io.specs.declared.faults.PutFault.{PutFault}
use Rattle.nf_io.specs.declared.faults.PutFault.TheVariants as put
use Rattle.nf_io.specs.declared.faults.ReadAllFault.{ReadAllFault}
use Rattle.nf_io.specs.declared.faults.ReadAllFault.TheVariants as all

-- A count has risen, or stands at the end of its type.
abbrev pub Rose : ℕ → ℕ → Type 0
Rose before now = min (before + 1) (2 ^ 64 - 1) ≤ now

-- A count of faults never falls, and an error comes only where it rose.
pub record HasCause {T E : Type 0} (before now : ℕ) (result : Result T E) : Type 0 where
  pub later : before ≤ now
  pub failed : OnErr result (Rose before now)

-- The same of a put or a store, where an error may also be want of memory.
pub record HasPutCause {T : Type 0} (before now : ℕ) (result : Result T PutFault) : Type 0 where
  pub later : before ≤ now
  pub failed : IsErrOf result put.Failed → Rose before now

-- The same of a fetch, which answers that a name is absent only where the count of its misses rose.
pub record HasFetchCause {T : Type 0} (before now missed misses : ℕ) (result : Result T FetchFault) : Type 0 where
  pub later : before ≤ now
  pub failed : IsErrOf result fetch.Failed → Rose before now
  pub missed_later : missed ≤ misses
  pub absent : IsErrOf result fetch.Absent → Rose missed misses

-- The same of a read of a whole source, where an error may also be its length or want of memory.
pub record HasReadAllCause {T : Type 0} (before now : ℕ) (result : Result T ReadAllFault) : Type 0 where
  pub later : before ≤ now
  pub failed : IsErrOf result all.Failed → Rose before now
