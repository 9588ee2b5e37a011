use Rattle.std.proofs.Common.{◌≡◌, ℕ, ◌-◌, ◌≤◌, ◌∙◌, subst, sym, arith}
use Rattle.nf_simplex.proofs.Starting.{second_start}
use Rattle.nf_stage_two.specs.Starting.{IsMidway}
use Rattle.nf_stage_two.proofs.Midway.{midway_none, midway_all}
use Rattle.nf_stage_two.proofs.start.start_two.Goals as goal

both : (i r n l m : ℕ) → i ≤ r - n → r - n ≤ i → r ≡ l → n ≡ m → i ≡ l - m
both i r n l m a b e f = omega arith

pub keep_arcs-requires-clause-midway : goal.keep_arcs-requires-clause-midway
keep_arcs-requires-clause-midway g c x =
    midway_none c.args.p.now c.in_ok-state.ensures.state.problem.arcs_within c.in_ok-state.state.standing c.in_ok-state.ensures.resting c.state.result.now.standing x

pub keep_nodes-requires-clause-midway : goal.keep_nodes-requires-clause-midway
keep_nodes-requires-clause-midway g c x =
    subst (λ s. IsMidway c.args.p.now s x c.args.p.now.arcs 0 0 c.keep_arcs.new.state.standing) (c.state.ensures.standing ∙ sym c.state-2.ensures.standing) (c.keep_arcs.ensures.midway x)

pub loop-q-init : goal.loop-q-init
loop-q-init g c =
    let x = g.B.Basis.values c.args.p.now c.args.basis.now in
    (c.keep_nodes.ensures.state, subst (λ s. IsMidway c.args.p.now s x c.args.p.now.arcs c.args.p.now.nodes 0 c.keep_nodes.new.state.standing) c.state-2.ensures.standing (c.keep_nodes.ensures.midway x))

pub loop-q-preserved : goal.loop-q-preserved
loop-q-preserved g c =
    let p = c.args.p.now in
    (c.start_row.ensures.state, c.start_row.ensures.midway (g.B.Basis.standing c.args.basis.now) (g.B.Basis.values p c.args.basis.now) c.in_ok-lacks.ensures.value c.loop-q.invariant.1)

pub returns-clause-second : goal.returns-clause-second
returns-clause-second g c =
    let p = c.args.p.now in
    let s = g.B.Basis.standing c.args.basis.now in
    let x = g.B.Basis.values p c.args.basis.now in
    let i = c.loop-q.invariant in
    midway_all p i.0.problem.arcs_within s x c.loop-q.state.standing i.0.fits
    (subst (λ n. IsMidway p s x p.arcs p.nodes n c.loop-q.state.standing) (both _ _ _ _ _ c.loop-q.auto.q-end c.loop-q-test.false c.rows.ensures.number c.nodes.ensures.number) i.1)

pub returns-clause-feasible : goal.returns-clause-feasible
returns-clause-feasible g c f =
    let p = c.args.p.now in
    let b = g.met.B.Basis.sound p c.args.basis.now c.requires.numbers in
    second_start p (g.B.Basis.standing c.args.basis.now) (g.B.Basis.values p c.args.basis.now) c.loop-q.state.standing b.problem f c.requires.stage b.values (returns-clause-second g c)
