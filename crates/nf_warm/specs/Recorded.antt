-- Working definitions, on which the promise of `read_saved` does not rest: what the rows of SESSIONDATA record, as the
-- definitions have it, and what is read after the options.
use Rattle.std.specs.Prelude.{Bool, List, Result, Ok}
use Rattle.nf_model.specs.Program.{LinearProgram}
use Rattle.nf_program.specs.declared.program.SessionOptions.{SessionOptions}
use Rattle.nf_simplex.specs.Layout.{layout_of}
use Rattle.nf_simplex.specs.StageOf.{rows_in}
use Rattle.nf_basis.specs.Names.{stage_by}
use Rattle.nf_saved.specs.declared.fault.SavedFault.{SavedFault}
use Rattle.nf_saved.specs.Rows as rows
use Rattle.nf_saved.specs.Rows.{Head, SavedRow, and_then, artificials_read, first_artificial, queue_read}
use Rattle.nf_session_table.specs.Growing.{carried_of}
use Rattle.nf_warm.specs.declared.recorded.Recorded.{Recorded}

-- The stage, what is carried, and the artificials.
abbrev pub recorded_of : Recorded → rows.Recorded
recorded_of r = record { stage = stage_by r.two; carried = carried_of r.carried; artificials = r.artificials.items }

-- After the head and the options: the queue and the artificials.
abbrev pub tail_read : LinearProgram → Bool → List SavedRow → Head → SessionOptions → Result rows.Recorded SavedFault
tail_read p queued table head options =
    and_then (queue_read p queued head.stage table) (λ queue.
    and_then (artificials_read table (first_artificial queued queue) (rows_in (layout_of p) head.stage)) (λ artificials.
    Ok (record {
      stage = head.stage;
      carried = record { counts = head.counts; pricing = record { cursor = head.cursor; queue = queue }; options = options; last = head.last };
      artificials = artificials;
    })))
