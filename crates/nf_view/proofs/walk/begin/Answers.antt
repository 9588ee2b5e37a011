use Rattle.std.proofs.Common.{refl, ap}
use Rattle.std.proofs.Math.ListN.{set}
use Rattle.nf_view.proofs.Steps.{begun}
use Rattle.nf_view.proofs.walk.begin.Goals as goal

pub returns-clause-walk : goal.returns-clause-walk
returns-clause-walk c =
    begun c.args.n c.args.links.now _ c.requires.few (ap (λ l. set l 0 1) (c.in_ok-seat.ensures.items_if_clones_equal (λ y q. q))) (c.in_ok-vec.ensures.items_if_clones_equal (λ y q. q)) (c.in_ok-vec-2.ensures.items_if_clones_equal (λ y q. q)) (c.in_ok-vec-3.ensures.items_if_clones_equal (λ y q. q)) refl
