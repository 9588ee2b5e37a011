-- What the three saved tables are read as: a session, or the first fault of their columns, rows and counts.
-- A session is resumed by it; the checks stand in the order in which they are made.
use Rattle.std.specs.Prelude.{ℕ, suc, ◌==◌, ◌-◌, List, [], ◌++◌, map, length, drop, get_or, replicate, codes, if◌then◌else◌, Option, Some, None, Result, Ok, Err}
use Rattle.nf_model.specs.Program.{LinearProgram}
use Rattle.nf_cells.specs.Cells.{value_of}
use Rattle.nf_table.specs.Grid.{Cells, Grid, column_of}
use Rattle.nf_basis.specs.declared.col.Place.{Place}
use Rattle.nf_basis.specs.declared.col.Place.TheVariants.{Lower, Basic, Absent}
use Rattle.nf_basis.specs.Names.{place_of}
use Rattle.nf_simplex.specs.Place.{count_basic}
use Rattle.nf_simplex.specs.Layout.{layout_of}
use Rattle.nf_simplex.specs.Columns.{all_columns}
use Rattle.nf_simplex.specs.StageOf.{StageNumber}
use Rattle.nf_simplex.specs.Standing.{Standing, place_at, rows_of}
use Rattle.nf_saved.specs.declared.fault.SavedArtificial.{SavedArtificial}
use Rattle.nf_saved.specs.declared.fault.SavedColumn.{SavedColumn}
use Rattle.nf_saved.specs.declared.fault.SavedColumn.TheVariants as col
use Rattle.nf_saved.specs.declared.fault.SavedColumns.{SavedColumns}
use Rattle.nf_saved.specs.declared.fault.SavedFault.{SavedFault}
use Rattle.nf_saved.specs.declared.fault.SavedFault.TheVariants as fault
use Rattle.nf_saved.specs.declared.fault.SavedSet.{SavedSet}
use Rattle.nf_saved.specs.declared.fault.SavedSet.TheVariants as set
use Rattle.nf_saved.specs.Session.{Session, session_of}
use Rattle.nf_saved.specs.Rows.{Recorded, SavedRow, and_then, each_read, recorded, saved_row}
use Rattle.nf_saved.specs.Statuses.{StatusRow, column_place, row_place}

-- ---- the places
-- A row, from 0, without a place is at fault. Faults count rows from 1.
unfoldable pub or_unfit : SavedSet → ℕ → Option Place → Result Place SavedFault
or_unfit from k None = Err (fault.BadStatus from (suc k))
or_unfit from k (Some place) = Ok place

-- The table has so many rows.
unfoldable pub if_counted : {A : Type 0} → ℕ → ℕ → SavedSet → Result A SavedFault → Result A SavedFault
if_counted n m from next = if n == m then next else Err (fault.WrongCount from)

abbrev pub no_row : StatusRow
no_row = record { status = []; number = [] }

-- The places of the given columns, from CONIN.
abbrev pub given_read : LinearProgram → StageNumber → List StatusRow → List Place → ℕ → Result Place SavedFault
given_read p stage rows before j = or_unfit set.Conin j (column_place p stage j (get_or rows j no_row))

unfoldable pub columns_read : LinearProgram → StageNumber → List StatusRow → Result (List Place) SavedFault
columns_read p stage rows = if_counted (length rows) (length p.columns) set.Conin (each_read (given_read p stage rows) (length p.columns) 0 [])

-- A place for each row of the problem, from DUALIN: that of its slack if the stage has one.
abbrev pub slack_read : LinearProgram → StageNumber → List (List ℕ) → List Place → ℕ → Result Place SavedFault
slack_read p stage words before i = or_unfit set.Dualin i (row_place p stage i (get_or words i []))

unfoldable pub slacks_read : LinearProgram → StageNumber → List (List ℕ) → Result (List Place) SavedFault
slacks_read p stage words = if_counted (length words) (length p.rows) set.Dualin (each_read (slack_read p stage words) (length p.rows) 0 [])

-- ---- the state
abbrev pub artificial_place : SavedArtificial → Place
artificial_place a = if a.basic then Basic else Lower

-- The places by number: the given columns, the slacks of side rows, and the artificials, of which the stage lacks those
-- that are not recorded.
abbrev pub places_read : LinearProgram → List Place → List Place → List SavedArtificial → List Place
places_read p columns slacks artificials =
    columns ++ (drop p.nodes slacks ++ (map artificial_place artificials ++ replicate (length p.rows - length artificials) Absent))

abbrev pub standing_read : LinearProgram → Recorded → List Place → List Place → Standing
standing_read p r columns slacks = record {
  stage = r.stage;
  places = map place_of (places_read p columns slacks r.artificials);
  negative = map (λ a. a.negative) r.artificials;
}

-- The basic columns are as many as the rows of the stage.
abbrev pub if_basis : LinearProgram → Session → Result Session SavedFault
if_basis p s = if_counted (count_basic (all_columns (layout_of p)) (place_at s.standing)) (rows_of p s.standing) set.Session (Ok s)

-- ---- the three tables
-- The rows of SESSIONDATA, of CONIN and of DUALIN, in this order, and then the count of basic columns.
unfoldable pub rows_read : LinearProgram → List SavedRow → List StatusRow → List (List ℕ) → Result Session SavedFault
rows_read p rows columns words =
    and_then (recorded p rows) (λ r.
    and_then (columns_read p r.stage columns) (λ given.
    and_then (slacks_read p r.stage words) (λ slacks.
    if_basis p (session_of (standing_read p r given slacks) r.carried))))

-- A column by its name, or that it is missing.
unfoldable pub column_read : SavedSet → SavedColumn → Option ℕ → Result ℕ SavedFault
column_read from name None = Err (fault.NoColumn from name)
column_read from name (Some c) = Ok c

-- The six columns that are looked at, or the first that is missing.
unfoldable pub columns_found : Cells → Cells → Cells → Result SavedColumns SavedFault
columns_found conin dualin session =
    and_then (column_read set.Session col.Key (column_of session (codes "_KEY_"))) (λ key.
    and_then (column_read set.Session col.Number (column_of session (codes "_NUMBER_"))) (λ number.
    and_then (column_read set.Session col.Value (column_of session (codes "_VALUE_"))) (λ value.
    and_then (column_read set.Conin col.Status (column_of conin (codes "_STATUS_"))) (λ status.
    and_then (column_read set.Conin col.Anumb (column_of conin (codes "_ANUMB_"))) (λ anumb.
    and_then (column_read set.Dualin col.Status (column_of dualin (codes "_STATUS_"))) (λ word.
    Ok (record { key = key; number = number; value = value; status = status; anumb = anumb; word = word })))))))

abbrev pub status_row : ℕ → ℕ → Cells → StatusRow
status_row status number cells = record { status = value_of (get_or cells status []); number = value_of (get_or cells number []) }

abbrev pub word_in : ℕ → Cells → List ℕ
word_in word cells = value_of (get_or cells word [])

-- The session that the tables CONIN, DUALIN and SESSIONDATA give, or their first fault.
unfoldable pub session_read : LinearProgram → Grid → Grid → Grid → Result Session SavedFault
session_read p conin dualin session =
    and_then (columns_found conin.header dualin.header session.header) (λ c.
    rows_read p (map (saved_row c.key c.number c.value) session.rows) (map (status_row c.status c.anumb) conin.rows) (map (word_in c.word) dualin.rows))
