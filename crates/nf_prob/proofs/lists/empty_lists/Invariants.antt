use Rattle.std.proofs.Common.{◌≡◌, ℕ, length, []}
use Rattle.nf_prob.specs.Lists.{list_at}
use Rattle.nf_prob.proofs.lists.empty_lists.Given as goal

abbrev pub invariant-loop-count : goal.invariant-loop-count
invariant-loop-count l = record { len : length l.lists.items ≡ l.count-index; empty : (i : ℕ) → list_at l.lists.items i ≡ [] }
