use Rattle.std.proofs.Common.{sym}
use Rattle.std.proofs.lemmas.List.{get_or-map}
use Rattle.nf_simplex.specs.Place as model
use Rattle.nf_basis.specs.Names.{place_of}
use Rattle.nf_warm.proofs.StateFacts.{placed-more}
use Rattle.nf_warm.proofs.state.put_places.Goals as goal

pub loop-at-preserved : goal.loop-at-preserved
loop-at-preserved c = placed-more c.args.p.now c.args.state.now c.loop-at.state c.put_place.new.state c.loop-at.at c.args.places.now _ c.loop-at.invariant c.put_place.ensures (sym (get_or-map place_of c.args.places.now c.loop-at.at _ model.Absent c.loop-at-test.true))
