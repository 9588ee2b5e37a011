use Rattle.std.proofs.Common.{◌≡◌, length, rules}
use Rattle.nf_model.specs.Program.{at}
use Rattle.nf_simplex.specs.Standing.{rows_of}
use Rattle.nf_certify.proofs.deciding.cost_in.Goals as goal

pub returns-clause-cost : goal.returns-clause-cost
returns-clause-cost g c =
    let s = g.B.Basis.standing c.args.basis.now in
    let long : length c.duals.new.out ≡ rows_of c.args.p.now s = search rules in
    (at c.duals.new.out, c.in_ok-duals.ensures.duals, c.in_ok-d.ensures.value s long)
