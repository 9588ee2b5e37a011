use Rattle.nf_network.proofs.NodePassFacts.{row-gift-fault, row-name-fault}
use Rattle.nf_network.proofs.node_data.take_node_row.Goals as goal

pub returns-in-Err : goal.returns-in-Err
returns-in-Err c =
    row-name-fault c.args.nodes.now c.args.seen.now _ _ c.read_node_row-row.ensures c.in-Err.fault c.in-Err.ensures

pub returns-in-Err-give : goal.returns-in-Err-give
returns-in-Err-give c =
    row-gift-fault c.args.nodes.now c.args.seen.now _ _ c.read_node_row-row.ensures _ _ c.in-Ok.ensures.1 c.in-Err-give.fault c.in-Ok.ensures.0 c.in-Err-give.ensures
