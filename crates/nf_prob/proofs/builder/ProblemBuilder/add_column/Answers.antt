use Rattle.std.proofs.Common.{◌≢◌, Option, None, sym, subst, subst₂}
use Rattle.nf_num.specs.Rational.{ℚ}
use Rattle.nf_model.specs.Problem.{AreInOrder}
use Rattle.nf_prob.specs.Numbers.{ends_of}
use Rattle.nf_prob.proofs.Storing.{stored_column}
use Rattle.nf_prob.proofs.builder.ProblemBuilder.add_column.Goals as goal

pub invariant_of-self-2 : goal.invariant_of-self-2
invariant_of-self-2 c =
    let ordered : AreInOrder c.in_ok-lower.lower c.in_ok-upper.upper = subst₂ AreInOrder (sym c.in_ok-lower.ensures) (sym c.in_ok-upper.ensures) c.requires.ordered in
    let bounded : ends_of c.args.tail c.args.head ≢ None → c.in_ok-lower.lower ≢ None = subst (λ (o : Option ℚ). ends_of c.args.tail c.args.head ≢ None → o ≢ None) (sym c.in_ok-lower.ensures) c.requires.bounded in
    stored_column c.self.inside.columns.items _ c.self.inside.rows.items c.self.inside.nodes c.self.inside.arcs _ c.self.inside.maximize _ _ c.self.view_is c.requires.room ordered bounded c.requires.ends c.in_ok-entries.ensures.entries c.in_ok-entries.ensures.numbered (c.counted-arcs.ensures c.args.head) c.in_ok-push.ensures.items c.self.invariant
