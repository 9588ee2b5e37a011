use Rattle.nf_network.specs.Network.{no_roles, no_table}
use Rattle.nf_network.proofs.NodePassFacts.{read-none}
use Rattle.nf_network.proofs.ReadFacts.{alone-clear, rows-arc}
use Rattle.nf_network.proofs.data_sets.read_alone.Goals as goal

pub returns-in-Ok : goal.returns-in-Ok
returns-in-Ok c = (alone-clear c.args.defaults.now c.args.arc_roles.now c.args.arc_table.now no_roles c.in-Ok.ensures.0, read-none _ _ _ _ _ c.in-Ok.ensures.1)

pub returns-in-Err : goal.returns-in-Err
returns-in-Err c = rows-arc c.args.defaults.now c.args.arc_roles.now c.args.arc_table.now no_roles no_table _ c.in-Err.ensures
