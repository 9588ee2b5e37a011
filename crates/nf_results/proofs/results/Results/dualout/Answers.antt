use Rattle.nf_results.proofs.OfState.{rows-right, carried}
use Rattle.nf_results.proofs.results.Results.dualout.Goals as goal

pub returns : goal.returns
returns c = record {
  table = carried c.dualout.result _ _ (rows-right c.args.p.now c.args.labels.now c.args.state.now.standing c.args.self.now c.requires.results c.args.future c.requires.tree c.by_row.result c.by_row.ensures.lists c.places-places.result c.places-places.ensures.places) c.dualout.ensures.table;
}
