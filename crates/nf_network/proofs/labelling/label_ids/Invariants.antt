use Rattle.std.proofs.Common.{◌≡◌, ◌≤◌, length, take}
use Rattle.std.specs.List.{flat_map}
use Rattle.nf_network.specs.Network.{cells_at}
use Rattle.nf_network.proofs.labelling.label_ids.Given as goal

abbrev pub invariant-loop-i : goal.invariant-loop-i
invariant-loop-i l =
    (l.i-end ≡ length l.table.rows) × (l.i ≤ l.i-end)
    × (l.labels ≡ record l.initial.labels { ids = flat_map (cells_at l.roles.ids) (take l.i l.table.rows) })
