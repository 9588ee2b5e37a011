use Rattle.std.proofs.Common.{◌≡◌, ℕ, ◌+◌, ◌-◌, ◌∙◌, ap, subst, arith}
use Rattle.nf_sums.specs.Terms.{PassesIn, Is}
use Rattle.nf_sums.proofs.Up.{handed_on}
use Rattle.nf_simplex.specs.Layout.{layout_of}
use Rattle.nf_simplex.specs.Starts.{second_number}
use Rattle.nf_basis.specs.Arising.{rest_at, rest_row}
use Rattle.nf_stage_two.proofs.SideRests.{second_rest_is, second_arises}
use Rattle.nf_stage_two.proofs.start.side_rest.Goals as goal

row_is : (n m q : ℕ) → n ≡ m → n + q + 1 - 1 ≡ m + q
row_is n m q e = omega arith

pub returns-in_err-lacks-clause-passed : goal.returns-in_err-lacks-clause-passed
returns-in_err-lacks-clause-passed g c =
    let p = c.args.p.now in
    let x = g.B.Basis.values p c.args.basis.now in
    handed_on c.from_residual.result _ _ c.from_residual.ensures.1
    (second_arises p (g.B.Basis.standing c.args.basis.now) x (g.met.B.Basis.sound p c.args.basis.now c.requires.numbers).values (p.nodes + c.args.q) c.requires.side _
    (subst (λ i. PassesIn (Is (rest_row p (second_number (layout_of p) x) i)) c.in_err-lacks.field-0.0) (row_is _ _ c.args.q c.nodes.ensures.number)
    (c.in_err-lacks.ensures.passed (second_number (layout_of p) x) (λ j t h q. q))))

pub returns-clause-value : goal.returns-clause-value
returns-clause-value g c =
    let p = c.args.p.now in
    let x = g.B.Basis.values p c.args.basis.now in
    c.in_ok-lacks.ensures.value (second_number (layout_of p) x) (λ j t h q. q)
    ∙ (ap (rest_at p (second_number (layout_of p) x)) (row_is _ _ c.args.q c.nodes.ensures.number) ∙ second_rest_is p x (p.nodes + c.args.q))
