use Rattle.std.proofs.Common.{◌≡◌, ◌≤◌, length, take}
use Rattle.nf_network.specs.Balanced.{IsWithin}
use Rattle.nf_network.specs.Excess.{balance_of}
use Rattle.nf_network.proofs.excess.Balance.of.Given as goal

abbrev pub invariant-loop-i : goal.invariant-loop-i
invariant-loop-i l = (l.i-end ≡ length l.nodes.names) × (l.i ≤ l.i-end) × (l.balance ≡ balance_of l.thrunet (take l.i l.nodes.given)) × IsWithin l.i l.balance.total
