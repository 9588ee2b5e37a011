use Rattle.std.proofs.Common.{◌≡◌, ℕ, ◌+◌, ◌-◌, ◌<◌, ◌∙◌, ap, subst, sym, arith, length}
use Rattle.nf_model.specs.Program.{row}
use Rattle.nf_simplex.specs.Layout.{layout_of}
use Rattle.nf_simplex.specs.StageOf.{StageTwo, rows_in}
use Rattle.nf_simplex.specs.Standing.{Standing}
use Rattle.nf_simplex.specs.Changes.{with_negative}
use Rattle.nf_basis.specs.Kept.{Kept}
use Rattle.nf_stage_two.proofs.Midway.{slack_told, artificial_told}
use Rattle.nf_stage_two.proofs.start.start_row.Goals as goal

row_is : (n m q : ℕ) → n ≡ m → n + q + 1 - 1 ≡ m + q
row_is n m q e = omega arith

slack_is : (n m q columns : ℕ) → n ≡ m → columns + (n + q + 1 - 1 - m) ≡ columns + q
slack_is n m q columns e = omega arith

pub returns-then-takes_slack-clause-midway : goal.returns-then-takes_slack-clause-midway
returns-then-takes_slack-clause-midway c s x lacks m =
    let p = c.args.p.now in
    let q = c.args.q in
    let nodes = c.nodes.ensures.number in
    slack_told p c.requires.state.problem.arcs_within s x c.args.state.now.standing c.set_place.new.self.standing c.requires.state.fits.one_place_each q _ c.args.lacks c.kind.result c.requires.side lacks
    (c.kind.ensures ∙ ap (λ i. (row p i).kind) (row_is _ _ q nodes)) ((c.takes_slack.ensures c.args.lacks c.is_below_zero-below.ensures).0 c.if-takes_slack.true)
    (slack_is _ _ q (length p.columns) nodes) (ap {A = Kept} {B = Standing} (λ k. k.standing) c.set_place.ensures.changed) m

pub returns-clause-midway : goal.returns-clause-midway
returns-clause-midway c s x lacks m =
    let p = c.args.p.now in
    let q = c.args.q in
    let t = c.args.state.now.standing in
    let nodes = c.nodes.ensures.number in
    let placed = ap {A = Kept} {B = Standing} (λ k. k.standing) c.set_place-2.ensures.changed in
    let signed = ap {A = Kept} {B = Standing} (λ k. k.standing) c.set_negative.ensures.changed in
    artificial_told p c.requires.state.problem.arcs_within s x t c.set_negative.new.self.standing c.requires.state.fits.one_place_each q (c.nodes.result + q + 1 - 1) c.is_below_zero-below.result c.args.lacks c.kind.result c.requires.side
    (let n : p.nodes + q < rows_in (layout_of p) StageTwo = omega (arith, c.requires.side) in subst (λ k. p.nodes + q < k) (sym (c.requires.state.fits.one_sign_each ∙ ap (rows_in (layout_of p)) c.requires.stage)) n)
    lacks (c.kind.ensures ∙ ap (λ i. (row p i).kind) (row_is _ _ q nodes))
    (λ takes. let z = (c.takes_slack.ensures c.args.lacks c.is_below_zero-below.ensures).1 takes in let w = c.if-takes_slack.false in cc)
    c.is_below_zero-below.ensures (row_is _ _ q nodes) (signed ∙ ap (λ (u : Standing). with_negative u (c.nodes.result + q + 1 - 1) c.is_below_zero-below.result) placed) m
