use Rattle.std.proofs.Common.{◌∙◌, refl, rules}
use Rattle.nf_io.specs.Causes.{Rose}
use Rattle.nf_top.specs.Outcome.{call_with}
use Rattle.nf_top.proofs.RunFacts.{range_failed, range_starved, range_told, range_untold}
use Rattle.nf_top.proofs.run.tell_range.Goals as goal

pub returns-in_default-clause-comes : goal.returns-in_default-clause-comes
returns-in_default-clause-comes g c = λ input program problem front written faults held stores stores_after runs cut of_two listed later kept.
    let w = g.K.Sink.written c.args.listing.now in
    range_untold (call_with input written w faults (g.K.Sink.faults c.args.listing.now) held stores stores_after) program problem front c.args.stage c.args.pivots c.args.passed w runs cut of_two listed kept refl

pub returns-in-Ok-write_all-clause-comes : goal.returns-in-Ok-write_all-clause-comes
returns-in-Ok-write_all-clause-comes g c = λ input program problem front written faults held stores stores_after runs cut of_two listed later kept.
    range_told (call_with input written (g.K.Sink.written c.write_all.new.sink) faults (g.K.Sink.faults c.write_all.new.sink) held stores stores_after) program problem front c.args.stage c.args.pivots c.args.passed (g.K.Sink.written c.args.listing.now) runs cut of_two listed kept
    c.bytes.result.now (c.bytes.ensures ∙ c.in-Ok.ensures) c.in-Ok-write_all.ensures.ok

pub returns-in-Err-Failed-clause-comes : goal.returns-in-Err-Failed-clause-comes
returns-in-Err-Failed-clause-comes g c =
    let rose : Rose (g.K.Sink.faults c.args.listing.now) (g.K.Sink.faults c.write_all.new.sink) = search rules in
    λ input program problem front written faults held stores stores_after runs cut of_two listed later kept.
    range_failed (call_with input written (g.K.Sink.written c.write_all.new.sink) faults (g.K.Sink.faults c.write_all.new.sink) held stores stores_after) program problem front c.args.stage c.args.pivots c.args.passed (g.K.Sink.written c.args.listing.now) runs cut of_two listed kept
    c.bytes.result.now (g.K.Sink.faults c.args.listing.now) (c.bytes.ensures ∙ c.in-Ok.ensures) later rose c.in-Err-Failed.ensures.err

pub returns-clause-comes : goal.returns-clause-comes
returns-clause-comes g c = λ input program problem front written faults held stores stores_after runs cut of_two listed later kept.
    range_starved (call_with input written (g.K.Sink.written c.write_all.new.sink) faults (g.K.Sink.faults c.write_all.new.sink) held stores stores_after) program problem front c.args.stage c.args.pivots c.args.passed (g.K.Sink.written c.args.listing.now) runs cut of_two listed kept
    c.bytes.result.now (c.bytes.ensures ∙ c.in-Ok.ensures) c.in-Err-NoMemory.ensures.err
