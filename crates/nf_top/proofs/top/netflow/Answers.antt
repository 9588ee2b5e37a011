use Rattle.nf_top.proofs.CompleteFacts.{accepts-valid, claim-proved}
use Rattle.nf_top.proofs.RangeFacts.{overflows-in-two}
use Rattle.nf_top.proofs.RanFacts.{runs-accepted}
use Rattle.nf_top.proofs.RefusedFacts.{refuses-none}
use Rattle.nf_top.proofs.RunFacts.{run-explained, stores-proof}
use Rattle.nf_top.proofs.top.netflow.Goals as goal

pub returns-clause-accepted : goal.returns-clause-accepted
returns-clause-accepted g c = λ e words. claim-proved _ words (rw e at c.obey.ensures.comes)

pub returns-clause-planned : goal.returns-clause-planned
returns-clause-planned g c = λ e words. run-explained _ words (rw e at c.obey.ensures.comes)

pub returns-clause-stored : goal.returns-clause-stored
returns-clause-stored g c = λ e words. stores-proof _ words (rw e at c.obey.ensures.comes)

pub returns-clause-range : goal.returns-clause-range
returns-clause-range g c = λ e words. overflows-in-two _ words (rw e at c.obey.ensures.comes)

pub returns-clause-complete : goal.returns-clause-complete
returns-clause-complete g c = accepts-valid _ _ c.obey.ensures.comes

pub returns-clause-ran : goal.returns-clause-ran
returns-clause-ran g c = runs-accepted _ _ c.obey.ensures.comes

pub returns-clause-refused : goal.returns-clause-refused
returns-clause-refused g c = refuses-none _ _ c.obey.ensures.comes
