use Rattle.nf_top.proofs.StopFacts.{ok-then}
use Rattle.nf_call.proofs.Trials.{checks}
use Rattle.nf_call.proofs.trial.check_sample.Goals as goal

pub returns : goal.returns
returns c = ok-then c.obey.result c.obey.ensures
    (λ t h. checks c.args.size c.args.texts.now c.in_ok-library.library.held c.give.new.self.held c.args.certificate.now t.status t.listing.written t.certificate c.requires.texts c.in_ok-library.ensures.holds c.in_ok-give.ensures.ok
    (rw c.check_text.ensures at h))
