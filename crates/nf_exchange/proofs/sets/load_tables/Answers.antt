use Rattle.std.proofs.lemmas.Result.{err_from_is_err_and}
use Rattle.nf_top.proofs.StopFacts.{err-then, held-there, ok-then, on-ok, saw-none-missed}
use Rattle.nf_exchange.specs.Steps.{sets_of}
use Rattle.nf_exchange.proofs.sets.load_tables.Goals as goal

pub returns-in_err-sets-clause-stops : goal.returns-in_err-sets-clause-stops
returns-in_err-sets-clause-stops g c =
    let p = err_from_is_err_and c.from_residual.result c.from_residual.ensures.1 in
    rw (p.1, p.2) (λ i saw named. c.in_err-sets.ensures.stops i saw named)

pub returns-clause-all : goal.returns-clause-all
returns-clause-all g c = on-ok c.read_tables.result c.in_ok-sets.ensures.all

pub returns-clause-ok : goal.returns-clause-ok
returns-clause-ok g c = ok-then c.read_tables.result c.read_tables.ensures.ok (λ t h. (sets_of c.in_ok-sets.sets, c.in_ok-sets.ensures.ok, h))

pub returns-clause-stops : goal.returns-clause-stops
returns-clause-stops g c =
    err-then c.read_tables.result c.read_tables.ensures.stops
    (λ stop h i saw named. h i (record { names = _; named = named; held = held-there i _ _ _ saw.held c.in_ok-sets.ensures.ok; fetched = saw-none-missed i _ _ _ _ _ saw c.in_ok-sets.ensures.all }))
