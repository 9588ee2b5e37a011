use Rattle.nf_simplex.specs.Moves.{IsEligibleBy}
use Rattle.nf_simplex.proofs.Queue.{front_of_tidied, tidied_once}
use Rattle.nf_simplex.proofs.queue_is_determined.Goals as goal

pub returns : goal.returns
returns c = record {
  tidied = λ p s n size at xs ys a b. tidied_once size at (IsEligibleBy p s n) xs ys a b;
  front = λ p s n size at j ys a. front_of_tidied size at (IsEligibleBy p s n) j ys a;
}
