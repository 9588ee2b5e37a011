use Rattle.std.proofs.Common.{subst}
use Rattle.std.proofs.lemmas.Result.{err_from_is_err_and}
use Rattle.nf_program.specs.declared.program.Command.TheVariants.{Check}
use Rattle.nf_top.specs.Data.{IsTableOrNone}
use Rattle.nf_top.specs.Steps.{grids_of}
use Rattle.nf_top.proofs.StopFacts.{err-then, ok-then, poses, refuses}
use Rattle.nf_top.proofs.check.judge.Goals as goal

pub returns-in_err-problem-clause-stops : goal.returns-in_err-problem-clause-stops
returns-in_err-problem-clause-stops c =
    let p = err_from_is_err_and c.from_residual.result c.from_residual.ensures.1 in
    rw (p.1, p.2) (λ i s f e tables. refuses i Check s (grids_of c.args.tables.now) c.args.program.now f tables e _ c.in_err-problem.ensures.stops)

pub returns-clause-ok : goal.returns-clause-ok
returns-clause-ok c =
    ok-then c.judge_claim.result c.judge_claim.ensures.ok (λ line h i s f e tables. h i s
    (record { fetches = f; posed = poses s (grids_of c.args.tables.now) c.args.program.now f.named.program _ tables e c.in_ok-problem.ensures.ok })
    (subst (IsTableOrNone s.certdata) c.in-Some.is tables.certdata))

pub returns-clause-stops : goal.returns-clause-stops
returns-clause-stops c =
    err-then c.judge_claim.result c.judge_claim.ensures.stops (λ stop h i s f e tables. h i s
    (record { fetches = f; posed = poses s (grids_of c.args.tables.now) c.args.program.now f.named.program _ tables e c.in_ok-problem.ensures.ok })
    (subst (IsTableOrNone s.certdata) c.in-Some.is tables.certdata))
