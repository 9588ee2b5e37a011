use Rattle.nf_view.proofs.OneView.{same_basics_same_view}
use Rattle.nf_view.proofs.view.basics_determine_view.Goals as goal

pub returns : goal.returns
returns c = record { law = same_basics_same_view }
