use Rattle.std.proofs.Common.{inl}
use Rattle.nf_top.specs.declared.status.Status.TheVariants as status
use Rattle.nf_top.proofs.StopFacts.{ok-then}
use Rattle.nf_call.proofs.Summaries.{checked_summary, plain_summary}
use Rattle.nf_call.proofs.sample.after_finish.Goals as goal

pub returns-in-Some : goal.returns-in-Some
returns-in-Some c = ok-then c.checked.result c.checked.ensures
    (λ s h. checked_summary c.args.size c.args.run.now.listing.written c.in-Some.certificate h.0 c.args.lines s.text s.status (rw c.in-Some.is at c.requires.run) (rw c.bytes.ensures at h.1) c.requires.lines h.2)

pub returns-in-None : goal.returns-in-None
returns-in-None c = plain_summary c.args.size c.args.run.now.listing.written c.args.run.now.certificate c.args.lines status.Finished c.requires.run (inl c.in-None.is) c.requires.lines
