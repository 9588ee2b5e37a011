use Rattle.std.proofs.Common.{◌≡◌, ◌++◌, ◌∷◌, [], take, get_or}
use Rattle.nf_network.specs.Network.{cells_at}
use Rattle.nf_network.proofs.labelling.label_row.Given as goal

abbrev pub invariant-loop-column : goal.invariant-loop-column
invariant-loop-column l =
    l.labels ≡ record l.initial.labels { ids = l.initial.labels.ids ++ cells_at (take l.column-index l.roles.ids) (get_or (l.table.header ∷ l.table.rows) l.row []) }
