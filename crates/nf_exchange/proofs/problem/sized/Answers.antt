use Rattle.std.proofs.Common.{◌<◌, length, subst, arith}
use Rattle.nf_top.specs.ProblemOf.{most_rows}
use Rattle.nf_exchange.proofs.StopFacts.{size-stop}
use Rattle.nf_exchange.proofs.problem.sized.Goals as goal

pub returns-then-rows-gt-MOST_ROWS-clause-stops : goal.returns-then-rows-gt-MOST_ROWS-clause-stops
returns-then-rows-gt-MOST_ROWS-clause-stops c =
    let many : most_rows < length c.in-Ok.problem.rows = omega (arith, c.if-rows-gt-MOST_ROWS.true, c.rows.ensures.number) in
    λ labels. size-stop (record { program = c.args.builder; labels = labels }) _ (subst (λ p. most_rows < length p.rows) c.in-Ok.ensures many) c.too_many_rows.ensures
