use Rattle.std.proofs.Common.{◌≡◌, sym, subst, rules}
use Rattle.nf_basis.specs.Numbers.{AreDualsByRow}
use Rattle.nf_tree.proofs.duals.Duals.read.Goals as goal

pub returns-clause-duals : goal.returns-clause-duals
returns-clause-duals g c =
    let new = c.find.new.self in
    let same : c.copy_from_slice.new.self ≡ new.by_row.items = search rules in
    subst (AreDualsByRow c.args.p.now c.args.state.now.standing c.args.phase) (sym same) (c.in_ok-find.ensures.kept.are c.in_ok-find.ensures.known)
