use Rattle.std.proofs.Common.{◌≡◌, take}
use Rattle.nf_network.specs.Network.{cells_at}
use Rattle.nf_network.proofs.labelling.label_id_headers.Given as goal

abbrev pub invariant-loop-column : goal.invariant-loop-column
invariant-loop-column l =
    l.labels ≡ record l.initial.labels { id_headers = cells_at (take l.column-index l.roles.ids) l.table.header }
