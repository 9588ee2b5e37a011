use Rattle.std.proofs.Common.{refl}
use Rattle.std.proofs.lemmas.Result.{err_from_is_err_and}
use Rattle.nf_top.proofs.StopFacts.{none-missed-then, saw-held, saw-later, saw-or-none}
use Rattle.nf_top.specs.Steps.{bytes_in}
use Rattle.nf_top.proofs.sets.fetch_sets.Goals as goal

pub returns-in_err-arcdata-clause-stops : goal.returns-in_err-arcdata-clause-stops
returns-in_err-arcdata-clause-stops g c =
    let p = err_from_is_err_and c.from_residual.result c.from_residual.ensures.1 in
    rw (p.1, p.2) (λ i d saw reads. c.in_err-arcdata.ensures.stops i d _ saw reads tt refl)

pub returns-in_err-nodedata-clause-stops : goal.returns-in_err-nodedata-clause-stops
returns-in_err-nodedata-clause-stops g c =
    let p = err_from_is_err_and c.from_residual-in_err-nodedata.result c.from_residual-in_err-nodedata.ensures.1 in
    let one = c.in_ok-arcdata.ensures in
    rw (p.1, p.2) (λ i d saw reads.
    c.in_err-nodedata.ensures.stops i d _ (saw-later i _ _ _ _ _ _ _ _ saw one.held one.all) reads
    (c.in_ok-arcdata.arcdata.items, saw-held i _ _ _ saw.held one.ok) refl)

pub returns-in_err-condata-clause-stops : goal.returns-in_err-condata-clause-stops
returns-in_err-condata-clause-stops g c =
    let p = err_from_is_err_and c.from_residual-in_err-condata.result c.from_residual-in_err-condata.ensures.1 in
    let one = c.in_ok-arcdata.ensures in
    let two = c.in_ok-nodedata.ensures in
    rw (p.1, p.2) (λ i d saw reads.
    let later = saw-later i _ _ _ _ _ _ _ _ saw one.held one.all in
    c.in_err-condata.ensures.stops i d _ (saw-later i _ _ _ _ _ _ _ _ later two.held two.all) reads
    (c.in_ok-arcdata.arcdata.items, bytes_in c.in_ok-nodedata.nodedata, saw-held i _ _ _ saw.held one.ok, saw-or-none i _ _ _ later.held two.ok) refl)

pub returns-in_err-certdata-clause-stops : goal.returns-in_err-certdata-clause-stops
returns-in_err-certdata-clause-stops g c =
    let p = err_from_is_err_and c.from_residual-in_err-certdata.result c.from_residual-in_err-certdata.ensures.1 in
    let one = c.in_ok-arcdata.ensures in
    let two = c.in_ok-nodedata.ensures in
    let three = c.in_ok-condata.ensures in
    rw (p.1, p.2) (λ i d saw reads.
    let later = saw-later i _ _ _ _ _ _ _ _ saw one.held one.all in
    let last = saw-later i _ _ _ _ _ _ _ _ later two.held two.all in
    c.in_err-certdata.ensures.stops i d _ (saw-later i _ _ _ _ _ _ _ _ last three.held three.all) reads (
      c.in_ok-arcdata.arcdata.items,
      bytes_in c.in_ok-nodedata.nodedata,
      bytes_in c.in_ok-condata.condata,
      saw-held i _ _ _ saw.held one.ok,
      saw-or-none i _ _ _ later.held two.ok,
      saw-or-none i _ _ _ last.held three.ok,
    ) refl)

pub returns-clause-all : goal.returns-clause-all
returns-clause-all g c =
    let two = none-missed-then _ _ _ _ _ _ c.in_ok-arcdata.ensures.all c.in_ok-nodedata.ensures.all in
    let three = none-missed-then _ _ _ _ _ _ two c.in_ok-condata.ensures.all in
    none-missed-then _ _ _ _ _ _ three c.in_ok-certdata.ensures.all
