use Rattle.nf_prob.proofs.ByRow.{pushed}
use Rattle.nf_prob.proofs.lists.push_entry.Goals as goal

pub returns-clause-lists : goal.returns-clause-lists
returns-clause-lists c = λ i. pushed _ _ _ _ _ i c.requires.within c.index_mut.ensures.value c.in_ok-push.ensures.items
