use Rattle.std.proofs.Common.{◌≡◌, ℕ, ◌+◌, ◌-◌, ◌<◌, ◌≤◌, ◌∙◌, ap, subst, sym, arith}
use Rattle.nf_simplex.specs.Layout.{layout_of}
use Rattle.nf_simplex.specs.StageOf.{StageTwo, rows_in}
use Rattle.nf_simplex.specs.Standing.{Standing}
use Rattle.nf_simplex.specs.Changes.{with_negative}
use Rattle.nf_basis.specs.declared.col.Col.TheVariants.{Artificial}
use Rattle.nf_basis.specs.Kept.{Kept, MayStand}
use Rattle.nf_stage_two.specs.Starting.{IsMidway}
use Rattle.nf_stage_two.proofs.Midway.{node_told}
use Rattle.nf_stage_two.proofs.SideRests.{node_present, may_there}
use Rattle.nf_stage_two.proofs.start.keep_nodes.Goals as goal

back : (n : ℕ) → n + 1 - 1 ≡ n
back n = omega arith

both : (i n m : ℕ) → i ≤ n → n ≤ i → n ≡ m → i ≡ m
both i n m a b e = omega arith

pub set_place-requires-clause-place : goal.set_place-requires-clause-place
set_place-requires-clause-place c =
    let p = c.args.p.now in
    let here = node_present p c.args.first.now.standing c.loop-i.i c.requires.one (subst (λ n. c.loop-i.i < n) c.nodes-i-end.ensures.number c.loop-i-test.true) in
    subst (MayStand p (Artificial (c.loop-i.i + 1))) (sym (c.place.ensures.present p c.requires.first here)) (may_there p c.args.first.now (Artificial (c.loop-i.i + 1)) c.requires.first here)

pub loop-i-preserved : goal.loop-i-preserved
loop-i-preserved c =
    let p = c.args.p.now in
    let s = c.args.first.now.standing in
    let t = c.loop-i.state.standing in
    let inside = subst (λ n. c.loop-i.i < n) c.nodes-i-end.ensures.number c.loop-i-test.true in
    let placed = ap {A = Kept} {B = Standing} (λ k. k.standing) c.set_place.ensures.changed in
    let signed = ap {A = Kept} {B = Standing} (λ k. k.standing) c.set_negative.ensures.changed in (
      c.set_negative.ensures.state p c.set_place.ensures.state,
      λ x. node_told p c.requires.state.problem.arcs_within s x t c.set_negative.new.self.standing c.loop-i.invariant.0.fits.one_place_each c.loop-i.i (c.loop-i.i + 1 - 1) _ c.negative.result inside
          (let n : c.loop-i.i < rows_in (layout_of p) StageTwo = omega (arith, inside) in subst (λ k. c.loop-i.i < k) (sym (c.loop-i.invariant.0.fits.one_sign_each ∙ ap (rows_in (layout_of p)) (c.loop-i.invariant.1 x).stage)) n)
          (back c.loop-i.i) (c.place.ensures.present p c.requires.first (node_present p s c.loop-i.i c.requires.one inside)) c.negative.ensures
          (signed ∙ ap (λ (u : Standing). with_negative u (c.loop-i.i + 1 - 1) c.negative.result) placed) (c.loop-i.invariant.1 x),
    )

pub returns-clause-midway : goal.returns-clause-midway
returns-clause-midway c x =
    subst (λ n. IsMidway c.args.p.now c.args.first.now.standing x c.args.p.now.arcs n 0 c.loop-i.state.standing) (both _ _ _ c.loop-i.auto.i-end c.loop-i-test.false c.nodes-i-end.ensures.number) (c.loop-i.invariant.1 x)
