use Rattle.std.proofs.Common.{◌≡◌, ◌∙◌, ◌++◌, ap, inr, rules, subst}
use Rattle.std.specs.Io.KnownBytes.{Appends}
use Rattle.nf_io.specs.Causes.{Rose}
use Rattle.nf_io.specs.Progress.{PutPrefix}
use Rattle.nf_run.specs.Lines.{count_lines, halt_lines}
use Rattle.nf_run.specs.Runs.{event_lines}
use Rattle.nf_run.specs.Steps.{spot_at}
use Rattle.nf_run.proofs.statements.obey_run.Goals as goal

pub returns-in-Ok-write_all-clause-obeys : goal.returns-in-Ok-write_all-clause-obeys
returns-in-Ok-write_all-clause-obeys g c =
    let line = c.in_ok-line.line in
    let b = spot_at g.B.Basis.standing c.in_ok-line.session.stage in
    let lines : c.bytes.result.now ≡ event_lines line b = c.bytes.ensures ∙ (c.in-Ok.ensures ∙ ap (λ k. halt_lines line ++ count_lines k) c.counts.ensures) in
    (line, c.in_ok-line.ensures.gives, c.in_ok-line.ensures.says, c.in_ok-line.ensures.proof, subst (Appends (g.K.Sink.written c.args.listing.now) (g.K.Sink.written c.write_all.new.sink)) lines c.in-Ok-write_all.ensures.ok)

pub returns-in-Err-Failed-clause-fault : goal.returns-in-Err-Failed-clause-fault
returns-in-Err-Failed-clause-fault g c =
    let line = c.in_ok-line.line in
    let b = spot_at g.B.Basis.standing c.in_ok-line.session.stage in
    let rose : Rose (g.K.Sink.faults c.args.listing.now) (g.K.Sink.faults c.write_all.new.sink) = search rules in
    let lines : c.bytes.result.now ≡ event_lines line b = c.bytes.ensures ∙ (c.in-Ok.ensures ∙ ap (λ k. halt_lines line ++ count_lines k) c.counts.ensures) in
    (rose, (line, b, c.in_ok-line.ensures.gives, c.in_ok-line.ensures.says, subst (PutPrefix (g.K.Sink.written c.args.listing.now) (g.K.Sink.written c.write_all.new.sink)) lines c.in-Err-Failed.ensures.err))

pub returns-clause-fault : goal.returns-clause-fault
returns-clause-fault g c =
    let line = c.in_ok-line.line in
    let b = spot_at g.B.Basis.standing c.in_ok-line.session.stage in
    let lines : c.bytes.result.now ≡ event_lines line b = c.bytes.ensures ∙ (c.in-Ok.ensures ∙ ap (λ k. halt_lines line ++ count_lines k) c.counts.ensures) in
    inr (line, b, c.in_ok-line.ensures.gives, c.in_ok-line.ensures.says, subst (PutPrefix (g.K.Sink.written c.args.listing.now) (g.K.Sink.written c.write_all.new.sink)) lines c.in-Err-NoMemory.ensures.err)
