-- For a proof alone: where the reader of a text stands, and what it meets next.
-- The promises of `Records` rest on it, and by them that of `read_table`.
use Rattle.std.specs.Prelude.{◌≡◌, ◌≢◌, ◌+◌, ℕ, List, [], Bool, Option, Some, None, length, false, IfSome}
use Rattle.csv.specs.Machine.{Read, next_record}
use Rattle.csv.specs.Reading.{default_config, records_from}
use Rattle.csv.specs.declared.parser.State.{State}
use Rattle.nf_table.specs.declared.records.Step.{Step}
use Rattle.nf_table.specs.declared.records.Step.TheVariants as step

-- A cursor in a text: whether no record follows, the state of the machine that reads, the bytes that are left, how many
-- cells a record must have, and the cells of the last record.
pub record Cursor : Type 0 where
  pub ended : Bool
  pub state : State
  pub left : List ℕ
  pub expected : Option ℕ
  pub cells : List (List ℕ)

-- The next record, with the state and the bytes after it.
abbrev pub next_of : Cursor → Option Read
next_of p = next_record default_config p.state [] [] p.left

-- The next record was read, and the reader stands after it.
pub record ReadRow (old new : Cursor) : Type 0 where
  pub going : new.ended ≡ false
  pub next : next_of old ≡ Some (new.cells, new.state, new.left)
  pub expected : new.expected ≡ Some (length new.cells)
  pub same : IfSome old.expected (λ e. new.expected ≡ Some e)

-- The next record has not as many cells as the first.
pub record ReadOther (old : Cursor) : Type 0 where
  pub next : Read
  pub is : next_of old ≡ Some next
  pub first : ℕ
  pub expected : old.expected ≡ Some first
  pub differs : first ≢ length next.0

-- What each answer of a step says of the cursors before and after it.
abbrev pub StepGives : Cursor → Cursor → Step → Type 0
StepGives old new step.Row = ReadRow old new
StepGives old new step.OtherLength = ReadOther old
StepGives old new step.End = next_of old ≡ None

-- The records that are to come.
abbrev pub records_at : Cursor → List (List (List ℕ))
records_at p = records_from default_config (length p.left + 1) p.state p.left
