use Rattle.nf_top.proofs.StopFacts.{err-then, network-posed, ok-then, same-posed}
use Rattle.nf_exchange.proofs.StopFacts.{starved-stop}
use Rattle.nf_exchange.proofs.problem.pose_network.Goals as goal

pub returns-in_ok-builder-in-None-clause-ok : goal.returns-in_ok-builder-in-None-clause-ok
returns-in_ok-builder-in-None-clause-ok c =
    rw c.in-None.is (ok-then c.finished.result c.finished.ensures.ok (λ q h. same-posed _ c.in_ok-builder-in-None.builder q (network-posed _ _ c.in_ok-builder-in-None.ensures.ok) h))

pub returns-in_ok-builder-in-None-clause-stops : goal.returns-in_ok-builder-in-None-clause-stops
returns-in_ok-builder-in-None-clause-stops c =
    rw c.in-None.is (err-then c.finished.result c.finished.ensures.stops (λ s h. starved-stop _ s h))
