use Rattle.std.proofs.Common.{refl}
use Rattle.std.proofs.lemmas.Result.{err_from_is_err_and}
use Rattle.nf_top.proofs.StopFacts.{err-then, held-there, ok-then, on-ok, poses, saw-none-missed}
use Rattle.nf_exchange.specs.Steps.{grids_of}
use Rattle.nf_exchange.proofs.StopFacts.{refuses}
use Rattle.nf_exchange.proofs.to_text.load_problem.Goals as goal

pub returns-in_err-tables-clause-stops : goal.returns-in_err-tables-clause-stops
returns-in_err-tables-clause-stops g c =
    let p = err_from_is_err_and c.from_residual.result c.from_residual.ensures.1 in
    rw (p.1, p.2) (λ i saw named e. c.in_err-tables.ensures.stops i saw named)

pub returns-clause-all : goal.returns-clause-all
returns-clause-all g c = on-ok c.pose.result c.in_ok-tables.ensures.all

pub returns-clause-posed : goal.returns-clause-posed
returns-clause-posed g c =
    let t = c.in_ok-tables.ensures.ok in
    ok-then c.pose.result c.pose.ensures.ok (λ problem h. (t.0, t.1, poses t.0 (grids_of c.in_ok-tables.tables) c.args.program.now c.args.program.now problem t.2 refl h))

pub returns-clause-stops : goal.returns-clause-stops
returns-clause-stops g c =
    let t = c.in_ok-tables.ensures.ok in
    err-then c.pose.result c.pose.ensures.stops
    (λ stop h i saw named e.
    refuses i t.0 (grids_of c.in_ok-tables.tables) c.args.program.now
    (record { names = _; named = named; held = held-there i _ _ _ saw.held t.1; fetched = saw-none-missed i _ _ _ _ _ saw c.in_ok-tables.ensures.all }) t.2 e stop h)
