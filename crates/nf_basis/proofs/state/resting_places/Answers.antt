use Rattle.std.proofs.Common.{slice_index_or, sym, subst, rules}
use Rattle.nf_basis.specs.declared.col.Place.TheVariants.{Absent}
use Rattle.nf_basis.specs.Resting.{IsRestingAt}
use Rattle.nf_basis.proofs.Named.{pushed_each}
use Rattle.nf_basis.proofs.state.resting_places.Goals as goal

pub loop-at-preserved : goal.loop-at-preserved
loop-at-preserved c = (
  search rules,
  λ j h. subst (λ ys. IsRestingAt c.args.p.now c.args.two (slice_index_or ys j Absent) j) (sym c.in_ok-push.ensures.items)
      (pushed_each (IsRestingAt c.args.p.now c.args.two) c.loop-at.places.items c.resting_place.result Absent c.loop-at.at c.loop-at.invariant.0 c.loop-at.invariant.1 c.resting_place.ensures j h),
)
