use Rattle.nf_amounts.proofs.Dense.{dense_has_amounts}
use Rattle.nf_amounts.proofs.Sparse.{sparse_has_amounts}
use Rattle.nf_amounts.proofs.data.constraints_have_amounts.Goals as goal

pub returns : goal.returns
returns c = record { dense = dense_has_amounts; sparse = sparse_has_amounts }
