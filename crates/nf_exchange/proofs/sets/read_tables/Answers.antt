use Rattle.std.proofs.Common.{refl}
use Rattle.std.proofs.lemmas.Result.{err_from_is_err_and}
use Rattle.nf_exchange.specs.Steps.{sets_of}
use Rattle.nf_exchange.proofs.sets.read_tables.Goals as goal

pub returns-in_err-arcdata-clause-stops : goal.returns-in_err-arcdata-clause-stops
returns-in_err-arcdata-clause-stops c =
    let p = err_from_is_err_and c.from_residual.result c.from_residual.ensures.1 in
    rw (p.1, p.2) (λ i fetched. c.in_err-arcdata.ensures.stops i (sets_of c.args.sets) fetched tt refl)

pub returns-in_err-nodedata-clause-stops : goal.returns-in_err-nodedata-clause-stops
returns-in_err-nodedata-clause-stops c =
    let p = err_from_is_err_and c.from_residual-in_err-nodedata.result c.from_residual-in_err-nodedata.ensures.1 in
    rw (p.1, p.2) (λ i fetched. c.in_err-nodedata.ensures.stops i (sets_of c.args.sets) fetched (c.in_ok-arcdata.arcdata, c.in_ok-arcdata.ensures.ok) refl)

pub returns-in_err-condata-clause-stops : goal.returns-in_err-condata-clause-stops
returns-in_err-condata-clause-stops c =
    let p = err_from_is_err_and c.from_residual-in_err-condata.result c.from_residual-in_err-condata.ensures.1 in
    rw (p.1, p.2) (λ i fetched. c.in_err-condata.ensures.stops i (sets_of c.args.sets) fetched
    (c.in_ok-arcdata.arcdata, c.in_ok-nodedata.nodedata, c.in_ok-arcdata.ensures.ok, c.in_ok-nodedata.ensures.ok) refl)
