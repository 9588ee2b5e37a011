use Rattle.nf_results.proofs.OfState.{carried}
use Rattle.nf_print.proofs.PartFacts.{problem-printed}
use Rattle.nf_print.proofs.print.print_problem.Goals as goal

pub returns : goal.returns
returns c = record {
  text = carried c.print_parts.result _ _ (λ t. problem-printed c.args.p.now c.args.labels.now c.args.state.now.standing c.new-arcs.result c.new-rows.result c.all.result.now t c.new-arcs.ensures.lists c.new-rows.ensures.lists c.all.ensures.parts) c.print_parts.ensures;
}
