use Rattle.nf_no_range.proofs.Ranges.{range_is_of_stage_two, range_never_in_stage_one}
use Rattle.nf_no_range.proofs.runs.range_never_in_stage_one.Goals as goal

pub returns : goal.returns
returns c = record { law = range_is_of_stage_two; one_stage = range_never_in_stage_one }
