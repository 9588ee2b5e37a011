use Rattle.std.proofs.Common.{None, Some}
use Rattle.std.proofs.lemmas.Result.{err_from_is_err_and}
use Rattle.nf_top.proofs.StopFacts.{err-then, ok-then, problem-posed}
use Rattle.nf_exchange.proofs.StopFacts.{problem-stops, problem-stops-first}
use Rattle.nf_exchange.proofs.problem.pose.Goals as goal

pub returns-in_err-roles-clause-stops : goal.returns-in_err-roles-clause-stops
returns-in_err-roles-clause-stops c =
    let p = err_from_is_err_and c.from_residual.result c.from_residual.ensures.1 in
    rw (p.1, p.2) (problem-stops-first c.args.program.now c.args.tables.now.arcdata c.args.tables.now.nodedata c.as_ref-cons.result c.args.tables.now.condata _ c.as_ref-cons.ensures.value c.in_err-roles.ensures.stops)

pub returns-in-Some-clause-ok : goal.returns-in-Some-clause-ok
returns-in-Some-clause-ok c =
    rw c.in-Some.is (ok-then c.pose_both.result c.pose_both.ensures.ok
    (λ p h. problem-posed c.args.program.now c.args.tables.now.arcdata (Some c.in-Some.nodes) c.as_ref-cons.result c.args.tables.now.condata c.in_ok-roles.roles p c.as_ref-cons.ensures.value c.in_ok-roles.ensures.ok h))

pub returns-in-Some-clause-stops : goal.returns-in-Some-clause-stops
returns-in-Some-clause-stops c =
    rw c.in-Some.is (err-then c.pose_both.result c.pose_both.ensures.stops
    (λ s h. problem-stops c.args.program.now c.args.tables.now.arcdata (Some c.in-Some.nodes) c.as_ref-cons.result c.args.tables.now.condata c.in_ok-roles.roles s c.as_ref-cons.ensures.value c.in_ok-roles.ensures.ok h))

pub returns-clause-ok : goal.returns-clause-ok
returns-clause-ok c =
    rw c.in-None.is (ok-then c.pose_network.result c.pose_network.ensures.ok
    (λ p h. problem-posed c.args.program.now c.args.tables.now.arcdata None c.as_ref-cons.result c.args.tables.now.condata c.in_ok-roles.roles p c.as_ref-cons.ensures.value c.in_ok-roles.ensures.ok h))

pub returns-clause-stops : goal.returns-clause-stops
returns-clause-stops c =
    rw c.in-None.is (err-then c.pose_network.result c.pose_network.ensures.stops
    (λ s h. problem-stops c.args.program.now c.args.tables.now.arcdata None c.as_ref-cons.result c.args.tables.now.condata c.in_ok-roles.roles s c.as_ref-cons.ensures.value c.in_ok-roles.ensures.ok h))
