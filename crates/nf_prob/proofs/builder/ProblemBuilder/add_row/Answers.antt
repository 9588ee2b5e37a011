use Rattle.nf_prob.proofs.Storing.{stored_row}
use Rattle.nf_prob.proofs.builder.ProblemBuilder.add_row.Goals as goal

pub invariant_of-self-2 : goal.invariant_of-self-2
invariant_of-self-2 c = stored_row c.self.inside.columns.items c.self.inside.rows.items _ c.self.inside.nodes c.self.inside.arcs c.self.inside.maximize c.args.kind c.args.right _ c.self.view_is c.requires.room c.in_ok-push.ensures.items c.self.invariant
