use Rattle.std.proofs.Common.{◌≡◌, length}
use Rattle.nf_sample.specs.Draws.{state_after}
use Rattle.nf_sample.specs.Sample.{supplies}
use Rattle.nf_sample.proofs.nodes.draw_supplies.Given as goal

abbrev pub invariant-loop : goal.invariant-loop
invariant-loop l = record {
  drawn : l.drawn.items ≡ supplies l.fn.draws l.counter;
  count : length l.drawn.items ≡ l.counter;
  state : l.draws ≡ state_after l.fn.draws l.counter;
}
