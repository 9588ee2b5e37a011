-- What a caller sees of the outside in memory. What a program does to its outside is said of these where the outside
-- is in memory.
use Rattle.std.specs.Prelude.{ℕ, List}
use Rattle.nf_io.specs.Calls.{CallCount}
use Rattle.nf_io.specs.Held.{Held}

-- A source: the bytes that are left, and its takes.
pub record SourceState : Type 0 where
  pub left : List ℕ
  pub takes : CallCount

-- A sink: the bytes that were written, and its puts.
pub record SinkState : Type 0 where
  pub written : List ℕ
  pub puts : CallCount

-- A library: the names and their bytes, its fetches and stores, and how often a name was missed.
pub record LibraryState : Type 0 where
  pub held : Held
  pub fetches : CallCount
  pub stores : CallCount
  pub misses : ℕ
