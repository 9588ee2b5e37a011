use Rattle.std.proofs.Common.{suc, ◌-◌, ◌≤◌}
use Rattle.nf_view.specs.Walk.{IsFollowed, IsWalk}
use Rattle.nf_view.proofs.walk.grow.Given as goal

abbrev pub invariant-loop-done : goal.invariant-loop-done
invariant-loop-done l = record {
  walk : IsWalk l.n l.links l.walk;
  within : l.done ≤ l.walk.met;
  followed : IsFollowed l.links l.walk.seat.items l.done;
}

abbrev pub decreases-loop-done : goal.decreases-loop-done
decreases-loop-done l = suc l.n - l.done
