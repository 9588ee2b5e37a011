use Rattle.nf_network.specs.Network.{roles_or_none, table_or_none}
use Rattle.nf_top.proofs.StopFacts.{cons-posed, err-then, ok-then, sized-posed}
use Rattle.nf_exchange.proofs.StopFacts.{cons-stops, sized-stop}
use Rattle.nf_exchange.proofs.problem.pose_all.Goals as goal

pub returns-clause-ok : goal.returns-clause-ok
returns-clause-ok c =
    let cons_roles = rw c.layout.ensures at c.in_ok-cons_roles.ensures.ok in
    ok-then c.sized.result c.sized.ensures.ok
    (λ q h. cons-posed c.args.program.now c.args.roles.now c.args.arcs.now (roles_or_none c.args.node_roles) (table_or_none c.args.nodes) c.args.cons.now c.in_ok-cons_roles.cons_roles _ q
    cons_roles c.in_ok-builder.ensures.ok (sized-posed _ c.in_ok-whole.whole q c.in_ok-whole.ensures.ok h))

pub returns-clause-stops : goal.returns-clause-stops
returns-clause-stops c =
    let cons_roles = rw c.layout.ensures at c.in_ok-cons_roles.ensures.ok in
    err-then c.sized.result c.sized.ensures.stops
    (λ s h. cons-stops c.args.program.now c.args.roles.now c.args.arcs.now (roles_or_none c.args.node_roles) (table_or_none c.args.nodes) c.args.cons.now c.in_ok-cons_roles.cons_roles _ s
    cons_roles c.in_ok-builder.ensures.ok (sized-stop _ c.in_ok-whole.whole s c.in_ok-whole.ensures.ok h))
