use Rattle.std.proofs.Common.{inr}
use Rattle.nf_call.proofs.Summaries.{plain_summary}
use Rattle.nf_call.proofs.sample.summary_after.Goals as goal

pub after_finish-requires-clause-run : goal.after_finish-requires-clause-run
after_finish-requires-clause-run c = rw c.in-Finished.is at c.requires.run

pub after_finish-requires-clause-lines : goal.after_finish-requires-clause-lines
after_finish-requires-clause-lines c = rw c.in-Finished.is at c.in_ok-text.ensures

pub returns-in_default : goal.returns-in_default
returns-in_default c = plain_summary c.args.size c.args.run.now.listing.written c.args.run.now.certificate c.in_ok-text.text c.args.run.now.status c.requires.run (inr c.in_default.not-Finished) c.in_ok-text.ensures
