use Rattle.nf_session_table.proofs.GrowFacts.{header-ends}
use Rattle.nf_session_table.proofs.cells.push_header.Goals as goal

pub end_row-requires : goal.end_row-requires
end_row-requires c =
    record { may_end = header-ends c.args.table.now c.push_cell.new.self c.push_cell-2.new.self c.push_cell-3.new.self _ _ _ c.requires c.in_ok-push_cell.ensures.added c.in_ok-push_cell-2.ensures.added c.in_ok-push_cell-3.ensures.added c.as_bytes.ensures.value c.as_bytes-2.ensures.value c.as_bytes-3.ensures.value }
