use Rattle.std.proofs.Common.{◌≡◌, ◌++◌, ℕ, length, map, take}
use Rattle.nf_prob.specs.Lists.{list_at}
use Rattle.nf_prob.specs.Numbers.{entries_in, entry_of}
use Rattle.nf_prob.proofs.lists.push_column.Given as goal

abbrev pub invariant-loop-e : goal.invariant-loop-e
invariant-loop-e l = record {
  len : length l.by_row.items ≡ length l.initial.by_row.items;
  lists : (i : ℕ) → list_at l.by_row.items i ≡ list_at l.initial.by_row.items i ++ entries_in l.column i (take l.e-index (map entry_of l.entries));
}
