use Rattle.nf_results.proofs.OfState.{nodes-right, carried}
use Rattle.nf_results.proofs.results.Results.nodeout.Goals as goal

pub returns : goal.returns
returns c = record {
  table = carried c.nodeout.result _ _ (nodes-right c.args.p.now c.args.labels.now c.args.state.now.standing c.args.self.now c.requires.results c.args.future c.requires.tree c.by_row.result c.by_row.ensures.lists c.places-places.result c.places-places.ensures.places) c.nodeout.ensures.table;
}
