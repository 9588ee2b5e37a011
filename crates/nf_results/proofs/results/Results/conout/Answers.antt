use Rattle.nf_results.proofs.OfState.{columns-right, carried}
use Rattle.nf_results.proofs.results.Results.conout.Goals as goal

pub returns : goal.returns
returns c = record {
  table = carried c.conout.result _ _ (columns-right c.args.p.now c.args.labels.now c.args.state.now.standing c.args.self.now c.requires.results c.args.future c.by_arc.result c.by_arc.ensures.lists) c.conout.ensures.table;
}
