use Rattle.nf_engine.proofs.Determined.{run_once}
use Rattle.nf_engine.proofs.Once.{step_once}
use Rattle.nf_engine.proofs.laws.runs_are_determined.Goals as goal

pub returns : goal.returns
returns c = record { steps = λ p rule a b e x y ok f s t. step_once p ok rule a f x y b e s t; runs = λ p rule most pauses a b e h k ok f x y. run_once p ok rule most pauses a b e h k f x y }
