use Rattle.std.proofs.Common.{refl}
use Rattle.nf_num.proofs.Laws.{le_of_lt}
use Rattle.nf_num.proofs.Order.{le_of_eq}
use Rattle.nf_test_simplex.proofs.networks.capacity.Goals as goal

pub returns-in-Less : goal.returns-in-Less
returns-in-Less c = le_of_lt _ _ c.in-Less.ensures

pub returns-in-Equal : goal.returns-in-Equal
returns-in-Equal c = le_of_eq _ _ refl
