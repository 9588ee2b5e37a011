use Rattle.nf_results.proofs.OfState.{carried}
use Rattle.nf_print.proofs.PartFacts.{results-printed}
use Rattle.nf_print.proofs.print.print_results.Goals as goal

pub returns : goal.returns
returns c = record {
  text = carried c.print_parts.result _ _ (λ t. results-printed c.args.p.now c.args.labels.now c.args.state.now.standing c.by_arc-arcs.result c.by_row-rows.result c.args.parts.now t c.args.results.now c.requires.results c.by_arc-arcs.ensures.lists c.by_row-rows.ensures.lists) c.print_parts.ensures;
}
