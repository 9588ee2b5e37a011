use Rattle.nf_top.proofs.StopFacts.{ok-then}
use Rattle.nf_call.proofs.Trials.{runs}
use Rattle.nf_call.proofs.trial.run_sample.Goals as goal

pub returns : goal.returns
returns c = ok-then c.obey.result c.obey.ensures
    (λ t h. runs c.args.size c.args.texts.now c.in_ok-library.library.held t.status t.listing.written t.certificate c.requires.texts c.in_ok-library.ensures.holds (rw c.run_text.ensures at h))
