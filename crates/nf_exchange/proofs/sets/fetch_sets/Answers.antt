use Rattle.std.proofs.Common.{refl}
use Rattle.std.proofs.lemmas.Result.{err_from_is_err_and}
use Rattle.nf_top.proofs.StopFacts.{none-missed-then, saw-held, saw-later, saw-or-none}
use Rattle.nf_top.specs.Steps.{bytes_in}
use Rattle.nf_exchange.proofs.sets.fetch_sets.Goals as goal

pub returns-in_err-arcdata-clause-stops : goal.returns-in_err-arcdata-clause-stops
returns-in_err-arcdata-clause-stops g c =
    let p = err_from_is_err_and c.from_residual.result c.from_residual.ensures.1 in
    rw (p.1, p.2) (λ i saw named. c.in_err-arcdata.ensures.stops i saw (record { names = _; named = named; before = tt; is = refl }))

pub returns-in_err-nodedata-clause-stops : goal.returns-in_err-nodedata-clause-stops
returns-in_err-nodedata-clause-stops g c =
    let p = err_from_is_err_and c.from_residual-in_err-nodedata.result c.from_residual-in_err-nodedata.ensures.1 in
    let one = c.in_ok-arcdata.ensures in
    rw (p.1, p.2) (λ i saw named.
    c.in_err-nodedata.ensures.stops i _ (saw-later i _ _ _ _ _ _ _ _ saw one.held one.all) named
    (c.in_ok-arcdata.arcdata.items, saw-held i _ _ _ saw.held one.ok) refl)

pub returns-in_err-condata-clause-stops : goal.returns-in_err-condata-clause-stops
returns-in_err-condata-clause-stops g c =
    let p = err_from_is_err_and c.from_residual-in_err-condata.result c.from_residual-in_err-condata.ensures.1 in
    let one = c.in_ok-arcdata.ensures in
    let two = c.in_ok-nodedata.ensures in
    rw (p.1, p.2) (λ i saw named.
    let later = saw-later i _ _ _ _ _ _ _ _ saw one.held one.all in
    c.in_err-condata.ensures.stops i _ (saw-later i _ _ _ _ _ _ _ _ later two.held two.all) named
    (c.in_ok-arcdata.arcdata.items, bytes_in c.in_ok-nodedata.nodedata, saw-held i _ _ _ saw.held one.ok, saw-or-none i _ _ _ later.held two.ok) refl)

pub returns-clause-all : goal.returns-clause-all
returns-clause-all g c =
    none-missed-then _ _ _ _ _ _ (none-missed-then _ _ _ _ _ _ c.in_ok-arcdata.ensures.all c.in_ok-nodedata.ensures.all) c.in_ok-condata.ensures.all
