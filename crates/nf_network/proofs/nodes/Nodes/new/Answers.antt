use Rattle.std.proofs.Common.{refl}
use Rattle.nf_network.proofs.nodes.Nodes.new.Goals as goal

pub returns : goal.returns
returns c = rw (c.new.ensures.empty, c.new-2.ensures.items) refl
