use Rattle.std.proofs.Common.{◌≡◌, true, refl, sym}
use Rattle.nf_cells.specs.Names.{has_name}
use Rattle.nf_cells.proofs.SeenFacts.{there}
use Rattle.nf_cells.proofs.names.Names.number.Goals as goal

pub returns-in-Some-clause-names : goal.returns-in-Some-clause-names
returns-in-Some-clause-names c =
    let here : has_name c.args.name.now c.args.self.now ≡ true = (there c.args.name.now c.args.self.now c.in-Some.i (sym c.in-Some.ensures.number)).1 in
    rw here refl
