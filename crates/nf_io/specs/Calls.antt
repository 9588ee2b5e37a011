-- Calls that are numbered from 1, some of which are to fail. What the implementations in memory promise of their
-- faults rests on it.
use Rattle.std.specs.Prelude.{Bool, ◌==◌, ◌+◌, ◌-◌, ◌^◌, ℕ, List, length, min, if◌then◌else◌}
use Rattle.std.specs.List.{list_any}

-- How many calls were made, how many of them failed, and the numbers of those that are to fail.
pub record CallCount : Type 0 where
  pub made : ℕ
  pub faults : ℕ
  pub failing : List ℕ

-- No call was made yet.
abbrev pub untouched : List ℕ → CallCount
untouched failing = record { made = 0; faults = 0; failing = failing }

-- A count with one more, which stays at the end of its type.
abbrev pub one_more : ℕ → ℕ
one_more n = min (n + 1) (2 ^ 64 - 1)

-- The next call is to fail where its number is listed.
abbrev pub next_fails : CallCount → Bool
next_fails c = list_any (λ k. k == one_more c.made) c.failing

-- A call is counted, and its fault where it was to fail.
abbrev pub after_call : CallCount → CallCount
after_call c = record { made = one_more c.made; faults = if next_fails c then one_more c.faults else c.faults; failing = c.failing }

-- No call is to fail.
abbrev pub none_fails : CallCount → Bool
none_fails c = length c.failing == 0
