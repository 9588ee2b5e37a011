use Rattle.std.proofs.Common.{◌∙◌}
use Rattle.std.specs.Option.{option_copied}
use Rattle.nf_top.specs.Outcome.{call_with}
use Rattle.nf_top.proofs.RangeFacts.{range_of_two}
use Rattle.nf_top.proofs.RunFacts.{lent_is, run_all, run_cut, run_memory, run_write}
use Rattle.nf_top.proofs.run.run.Goals as goal

pub returns-in-Ok-clause-comes : goal.returns-in-Ok-clause-comes
returns-in-Ok-clause-comes g c = λ input stores runs from since.
    run_all (call_with input (g.K.Sink.written c.args.listing.now) (g.K.Sink.written c.run_program.new.listing) (g.K.Sink.faults c.args.listing.now) (g.K.Sink.faults c.run_program.new.listing) (g.L.Library.held c.run_program.new.library) stores (g.L.Library.store_faults c.run_program.new.library))
    c.args.program.now c.args.problem.now runs c.items-acts.result.now (option_copied c.text_of-certout.result) (g.L.Library.held c.args.library.now) (g.L.Library.store_faults c.args.library.now)
    c.items-acts.ensures (lent_is c.text_of-certout.result _ c.text_of-certout.ensures) from since c.in-Ok.ensures.ok

pub returns-in-Range-clause-calm : goal.returns-in-Range-clause-calm
returns-in-Range-clause-calm g c = λ h. c.tell_range.ensures.calm (c.run_program.ensures.quiet ∙ h) ∙ c.run_program.ensures.calm h

pub returns-in-Range-clause-comes : goal.returns-in-Range-clause-comes
returns-in-Range-clause-comes g c = λ input stores runs from since.
    let k = run_cut c.args.program.now c.args.problem.now c.items-acts.result.now _ (g.K.Sink.written c.args.listing.now) (g.K.Sink.written c.run_program.new.listing) (g.K.Sink.faults c.args.listing.now) (g.K.Sink.faults c.run_program.new.listing)
    (g.L.Library.held c.args.library.now) (g.L.Library.held c.run_program.new.library) (g.L.Library.store_faults c.args.library.now) (g.L.Library.store_faults c.run_program.new.library)
    c.in-Range.stage c.in-Range.pivots c.in-Range.passed c.in-Err.fault c.items-acts.ensures c.in-Err.ensures.stops c.in-Range.is in
    c.tell_range.ensures.comes input c.args.program.now c.args.problem.now k.0 (g.K.Sink.written c.args.listing.now) (g.K.Sink.faults c.args.listing.now) (g.L.Library.held c.run_program.new.library) stores (g.L.Library.store_faults c.run_program.new.library) runs k.1
    (range_of_two input c.args.program.now c.args.problem.now runs k.0 c.in-Range.stage c.in-Range.pivots c.in-Range.passed c.rows-rows.ensures.problem k.1) k.2 c.run_program.ensures.later (k.3 ∙ from)

pub returns-in-Write-clause-comes : goal.returns-in-Write-clause-comes
returns-in-Write-clause-comes g c = λ input stores runs from since.
    run_write (call_with input (g.K.Sink.written c.args.listing.now) (g.K.Sink.written c.run_program.new.listing) (g.K.Sink.faults c.args.listing.now) (g.K.Sink.faults c.run_program.new.listing) (g.L.Library.held c.run_program.new.library) stores (g.L.Library.store_faults c.run_program.new.library))
    c.args.program.now c.args.problem.now runs c.items-acts.result.now (option_copied c.text_of-certout.result) (g.L.Library.held c.args.library.now) (g.L.Library.store_faults c.args.library.now)
    c.items-acts.ensures (lent_is c.text_of-certout.result _ c.text_of-certout.ensures) from since c.in-Err.fault c.in-Write.is c.in-Err.ensures.stops

pub returns-in-NoMemory-clause-comes : goal.returns-in-NoMemory-clause-comes
returns-in-NoMemory-clause-comes g c = λ input stores runs from since.
    run_memory (call_with input (g.K.Sink.written c.args.listing.now) (g.K.Sink.written c.run_program.new.listing) (g.K.Sink.faults c.args.listing.now) (g.K.Sink.faults c.run_program.new.listing) (g.L.Library.held c.run_program.new.library) stores (g.L.Library.store_faults c.run_program.new.library))
    c.args.program.now c.args.problem.now runs c.items-acts.result.now (option_copied c.text_of-certout.result) (g.L.Library.held c.args.library.now) (g.L.Library.store_faults c.args.library.now)
    c.items-acts.ensures (lent_is c.text_of-certout.result _ c.text_of-certout.ensures) from since c.in-Err.fault c.in-NoMemory.is c.in-Err.ensures.stops
