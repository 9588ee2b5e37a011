use Rattle.std.proofs.Common.{◌≡◌, replicate, rules}
use Rattle.nf_certify.proofs.Listed.{zeros_at}
use Rattle.nf_certify.proofs.ray.zeros.Goals as goal

pub returns-clause-zeros : goal.returns-clause-zeros
returns-clause-zeros c =
    let same : c.in_ok-zeros.zeros.items ≡ replicate c.args.count c.zero.result = search rules in
    zeros_at c.args.count c.in_ok-zeros.zeros.items c.zero.result c.zero.ensures same
