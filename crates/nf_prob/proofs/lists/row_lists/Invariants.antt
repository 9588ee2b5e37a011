use Rattle.std.proofs.Common.{◌≡◌, ℕ, length, map, take}
use Rattle.nf_prob.specs.Lists.{list_at}
use Rattle.nf_prob.specs.Numbers.{gathered}
use Rattle.nf_prob.specs.Stored.{column_of}
use Rattle.nf_prob.proofs.lists.row_lists.Given as goal

abbrev pub invariant-loop-j : goal.invariant-loop-j
invariant-loop-j l = record {
  len : length l.by_row.items ≡ l.fn.rows;
  lists : (i : ℕ) → list_at l.by_row.items i ≡ gathered 1 i (take l.j (map column_of l.columns));
}
