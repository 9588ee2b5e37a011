use Rattle.std.proofs.Common.{◌≡◌, ℕ, ◌+◌, ◌-◌, ◌<◌, ◌≤◌, ap, subst, sym, arith}
use Rattle.nf_simplex.specs.Standing.{Standing}
use Rattle.nf_basis.specs.declared.col.Col.TheVariants.{Given}
use Rattle.nf_basis.specs.Kept.{Kept, MayStand}
use Rattle.nf_stage_two.specs.Starting.{IsMidway}
use Rattle.nf_stage_two.proofs.Midway.{arc_told}
use Rattle.nf_stage_two.proofs.SideRests.{arc_present, may_there}
use Rattle.nf_stage_two.proofs.start.keep_arcs.Goals as goal

back : (n : ℕ) → n + 1 - 1 ≡ n
back n = omega arith

both : (i n m : ℕ) → i ≤ n → n ≤ i → n ≡ m → i ≡ m
both i n m a b e = omega arith

pub set_place-requires-clause-place : goal.set_place-requires-clause-place
set_place-requires-clause-place c =
    let p = c.args.p.now in
    let here = arc_present p c.args.first.now.standing c.loop-j.j c.requires.one (subst (λ n. c.loop-j.j < n) c.arcs-j-end.ensures.number c.loop-j-test.true) in
    subst (MayStand p (Given (c.loop-j.j + 1))) (sym (c.place.ensures.present p c.requires.first here)) (may_there p c.args.first.now (Given (c.loop-j.j + 1)) c.requires.first here)

pub loop-j-preserved : goal.loop-j-preserved
loop-j-preserved c =
    let p = c.args.p.now in
    let s = c.args.first.now.standing in
    let inside = subst (λ n. c.loop-j.j < n) c.arcs-j-end.ensures.number c.loop-j-test.true in (
      c.set_place.ensures.state,
      λ x. arc_told p c.requires.state.problem.arcs_within s x c.loop-j.state.standing c.set_place.new.self.standing c.loop-j.invariant.0.fits.one_place_each c.loop-j.j (c.loop-j.j + 1 - 1) _ inside (back c.loop-j.j)
          (c.place.ensures.present p c.requires.first (arc_present p s c.loop-j.j c.requires.one inside))
          (ap {A = Kept} {B = Standing} (λ k. k.standing) c.set_place.ensures.changed) (c.loop-j.invariant.1 x),
    )

pub returns-clause-midway : goal.returns-clause-midway
returns-clause-midway c x =
    subst (λ n. IsMidway c.args.p.now c.args.first.now.standing x n 0 0 c.loop-j.state.standing) (both _ _ _ c.loop-j.auto.j-end c.loop-j-test.false c.arcs-j-end.ensures.number) (c.loop-j.invariant.1 x)
