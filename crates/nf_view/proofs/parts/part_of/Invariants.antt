use Rattle.std.proofs.Common.{◌≡◌, ℕ, ◌<◌, ◌≤◌, length, slice_index}
use Rattle.nf_view.specs.Parts.{IsUnion, LeadsDown}
use Rattle.nf_view.proofs.parts.part_of.Given as goal

abbrev pub invariant-loop-next : goal.invariant-loop-next
invariant-loop-next l = record {
  down : LeadsDown l.above.items;
  room : length l.above.items ≡ length l.fn.above.items;
  within : l.at ≤ l.v;
  inside : l.at < length l.above.items;
  next : l.next ≡ slice_index l.above.items l.at;
  named : (part : ℕ → ℕ) → IsUnion part l.fn.above.items → IsUnion part l.above.items × (part l.at ≡ part l.v);
}

abbrev pub decreases-loop-next : goal.decreases-loop-next
decreases-loop-next l = l.at
