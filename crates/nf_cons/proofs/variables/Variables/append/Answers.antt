use Rattle.std.proofs.Common.{arith}
use Rattle.nf_cons.proofs.NamingFacts.{absent-place, place-most}
use Rattle.nf_cons.proofs.variables.Variables.append.Goals as goal

pub overflow_add-result : goal.overflow_add-result
overflow_add-result c =
    let few = rw (← c.self.view_is) at c.requires.few_arcs in
    let nonarcs = rw (← c.self.view_is) at c.requires.few_nonarcs in
    let most = place-most c.args.name.now c.self.inside.nonarcs in
    omega (arith, few, nonarcs, most, c.in-Ok.ensures.place, c.len.ensures)

pub returns-in-Ok-clause-number : goal.returns-in-Ok-clause-number
returns-in-Ok-clause-number c =
    let end = absent-place c.args.name.now c.self.inside.nonarcs (rw (← c.self.view_is) at c.requires.new) in
    rw (← c.self.view_is) (omega (arith, c.len.ensures, c.in-Ok.ensures.place, end))
