-- A session's table while it is made, and what a session carries as the definitions have it.
-- The promise of `sessionout` is said with them.
use Rattle.std.specs.Prelude.{◌++◌, List}
use Rattle.nf_table.specs.Grid.{Cells, Grid}
use Rattle.nf_out.specs.Tables.{with_rows}
use Rattle.nf_saved.specs.Session as session
use Rattle.nf_saved.specs.SessionTable.{session_header}
use Rattle.nf_session_table.specs.declared.carried.Carried.{Carried}

-- What is carried: the cursor and the queue are one record in the definitions.
abbrev pub carried_of : Carried → session.Carried
carried_of c = record { counts = c.counts; pricing = record { cursor = c.cursor; queue = c.queue }; options = c.options; last = c.last }

-- A session's table with these rows.
abbrev pub with_header : List Cells → Grid
with_header rows = with_rows session_header rows

-- A table with more rows.
abbrev pub with_more : Grid → List Cells → Grid
with_more g rows = with_header (g.rows ++ rows)
