use Rattle.std.proofs.Common.{◌∙◌, sym}
use Rattle.std.proofs.lemmas.Result.{err_from_is_err_and}
use Rattle.nf_program.specs.declared.program.Command.TheVariants.{Check}
use Rattle.nf_top.proofs.StopFacts.{err-then, held-some, held-there, ok-then, saw-none-missed, table-some}
use Rattle.nf_top.proofs.top.judge_sets.Goals as goal

pub judge-requires-clause-certdata : goal.judge-requires-clause-certdata
judge-requires-clause-certdata g c =
    let t = c.in_ok-tables.ensures.ok in
    sym (table-some _ _ t.2.certdata) ∙ (sym (held-some _ _ _ t.1.certdata) ∙ c.requires.certdata)

pub returns-in_err-tables-clause-stops : goal.returns-in_err-tables-clause-stops
returns-in_err-tables-clause-stops g c =
    let p = err_from_is_err_and c.from_residual.result c.from_residual.ensures.1 in
    rw (p.1, p.2) (λ i saw named e. c.in_err-tables.ensures.stops i Check saw named)

pub returns-clause-ok : goal.returns-clause-ok
returns-clause-ok g c =
    let t = c.in_ok-tables.ensures.ok in
    ok-then c.judge.result c.judge.ensures.ok
    (λ line h i saw named e. h i t.0 (record { names = _; named = named; held = held-there i _ _ _ saw.held t.1; fetched = saw-none-missed i _ _ _ _ _ saw c.in_ok-tables.ensures.all }) e t.2)

pub returns-clause-stops : goal.returns-clause-stops
returns-clause-stops g c =
    let t = c.in_ok-tables.ensures.ok in
    err-then c.judge.result c.judge.ensures.stops
    (λ stop h i saw named e. h i t.0 (record { names = _; named = named; held = held-there i _ _ _ saw.held t.1; fetched = saw-none-missed i _ _ _ _ _ saw c.in_ok-tables.ensures.all }) e t.2)
