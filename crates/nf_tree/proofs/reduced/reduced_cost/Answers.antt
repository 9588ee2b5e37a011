use Rattle.std.proofs.Common.{sym, ap, ap₂, ◌∙◌, subst}
use Rattle.nf_num.specs.Rational.{◌+ℚ◌, ◌-ℚ◌}
use Rattle.nf_frac.specs.declared.passed.Op.TheVariants.{Add, Sub}
use Rattle.nf_frac.specs.Range.{Passes}
use Rattle.nf_sums.proofs.Up.{handed_on}
use Rattle.nf_basis.specs.Kept.{number}
use Rattle.nf_tree.specs.Duals.{dual_of}
use Rattle.nf_tree.specs.Vertices.{head_at}
use Rattle.nf_tree.proofs.Paid.{by_ends, by_loop, head_arises, tail_arises}
use Rattle.nf_tree.proofs.reduced.reduced_cost.Goals as goal

pub returns-then-tail-head-clause-value : goal.returns-then-tail-head-clause-value
returns-then-tail-head-clause-value g c =
    by_loop c.args.p.now c.args.state.now.standing c.requires.state.problem c.requires.stage c.args.col c.requires.present c.args.duals.now c.requires.places c.args.cost
    (sym c.tail_of-tail.ensures.value ∙ (c.if-tail-head.true ∙ c.head_of-head.ensures.value))

pub returns-in_err-rest-clause-passed : goal.returns-in_err-rest-clause-passed
returns-in_err-rest-clause-passed g c =
    let y = c.args.duals.now in
    let from = c.dual_at.ensures ∙ ap (dual_of y) c.tail_of-tail.ensures.value in
    let q = c.in_err-rest.ensures.passed in
    handed_on c.from_residual.result _ _ c.from_residual.ensures.1
    (tail_arises c.args.p.now c.args.state.now.standing c.requires.state.problem c.requires.stage c.args.col c.requires.present y c.requires.places c.args.cost
    (λ e. c.if-tail-head.false (c.tail_of-tail.ensures.value ∙ (e ∙ sym c.head_of-head.ensures.value))) _
    (q.0 ∙ ap (λ r. record { op = Sub; left = c.args.cost; right = r }) from) (subst (λ r. Passes Sub c.args.cost r) from q.1))

pub returns-in_err-d-clause-passed : goal.returns-in_err-d-clause-passed
returns-in_err-d-clause-passed g c =
    let y = c.args.duals.now in
    let left = c.in_ok-rest.ensures.value.1 ∙ ap (λ r. c.args.cost -ℚ r) (c.dual_at.ensures ∙ ap (dual_of y) c.tail_of-tail.ensures.value) in
    let right = c.dual_at-2.ensures ∙ ap (dual_of y) c.head_of-head.ensures.value in
    let q = c.in_err-d.ensures.passed in
    handed_on c.from_residual-in_err-d.result _ _ c.from_residual-in_err-d.ensures.1
    (head_arises c.args.p.now c.args.state.now.standing c.requires.state.problem c.requires.stage c.args.col c.requires.present y c.requires.places c.args.cost
    (λ e. c.if-tail-head.false (c.tail_of-tail.ensures.value ∙ (e ∙ sym c.head_of-head.ensures.value))) _
    (q.0 ∙ ap₂ (λ l r. record { op = Add; left = l; right = r }) left right) (subst (λ l. Passes Add l (dual_of y (head_at c.args.p.now c.args.state.now.standing (number c.args.p.now c.args.col)))) left (subst (λ r. Passes Add c.in_ok-rest.rest r) right q.1)))

pub returns-clause-value : goal.returns-clause-value
returns-clause-value g c =
    let y = c.args.duals.now in
    c.in_ok-d.ensures.value.1
    ∙ (ap₂ (λ l r. l +ℚ r) (c.in_ok-rest.ensures.value.1 ∙ ap (λ r. c.args.cost -ℚ r) (c.dual_at.ensures ∙ ap (dual_of y) c.tail_of-tail.ensures.value)) (c.dual_at-2.ensures ∙ ap (dual_of y) c.head_of-head.ensures.value)
    ∙ by_ends c.args.p.now c.args.state.now.standing c.requires.state.problem c.requires.stage c.args.col c.requires.present y c.requires.places c.args.cost)
