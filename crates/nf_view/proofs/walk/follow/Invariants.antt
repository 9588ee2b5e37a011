use Rattle.std.proofs.Common.{◌≡◌, ℕ, ◌-◌, ◌<◌, ◌≤◌, length, slice_index}
use Rattle.nf_view.specs.Keys.{link_at}
use Rattle.nf_view.specs.Walk.{IsWalk, Keeps, begins}
use Rattle.nf_view.proofs.walk.follow.Given as goal

abbrev pub invariant-loop-cursor : goal.invariant-loop-cursor
invariant-loop-cursor l = record {
  walk : IsWalk l.n l.links l.walk;
  keeps : Keeps l.fn.walk l.walk;
  within : l.cursor ≤ length l.links;
  here : 0 < l.cursor → begins l.links (l.cursor - 1) ≡ l.v;
  followed : (q : ℕ) → l.cursor ≤ q → q < length l.links → begins l.links q ≡ l.v → 0 < slice_index l.walk.seat.items (link_at l.links q).to;
}

abbrev pub decreases-loop-cursor : goal.decreases-loop-cursor
decreases-loop-cursor l = l.cursor
