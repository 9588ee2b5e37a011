use Rattle.std.proofs.Common.{◌≡◌, ◌≤◌, false, length, take}
use Rattle.std.specs.List.{list_any}
use Rattle.nf_network.specs.Excess.{is_met}
use Rattle.nf_network.proofs.excess.Balance.is_met_any.Given as goal

abbrev pub invariant-loop-i : goal.invariant-loop-i
invariant-loop-i l = (l.i-end ≡ length l.nodes.names) × (l.i ≤ l.i-end) × (list_any (is_met l.self) (take l.i l.nodes.given) ≡ false)
