use Rattle.std.proofs.Common.{◌≡◌, ◌⊎◌, ◌<◌, ◌≤◌, length}
use Rattle.nf_prob.specs.Stored.{stored_entry}
use Rattle.nf_prob.proofs.builder.insert_entry.Given as goal

abbrev pub invariant-loop-k : goal.invariant-loop-k
invariant-loop-k l = record { within : l.k ≤ length l.entries.items; after : (l.k ≡ length l.entries.items) ⊎ (l.e.row < (stored_entry l.entries.items l.k).row) }

abbrev pub decreases-loop-k : goal.decreases-loop-k
decreases-loop-k l = l.k
