-- The three tables of a session, and the laws that they are read as that session, and that what is read is a session.
-- Resumption rests on them.
use Rattle.std.specs.Prelude.{◌≡◌, ◌^◌, ◌<◌, ◌≤◌, length, true, Ok}
use Rattle.nf_model.specs.Program.{LinearProgram}
use Rattle.nf_model.specs.Problem.{IsProblem}
use Rattle.nf_labels.specs.Labels.{LabelList}
use Rattle.nf_table.specs.Grid.{Grid}
use Rattle.nf_simplex.specs.Place.{count_basic}
use Rattle.nf_simplex.specs.Layout.{layout_of}
use Rattle.nf_simplex.specs.Columns.{all_columns}
use Rattle.nf_simplex.specs.Standing.{IsFeasibleState, IsStateOf, place_at, rows_of}
use Rattle.nf_out.specs.Arcs.{ArcLists}
use Rattle.nf_out.specs.Rows.{RowLists, TreeLists}
use Rattle.nf_out.specs.Output.{conout_grid, dualout_grid}
use Rattle.nf_saved.specs.Session.{FitsState, Session, IsSession}
use Rattle.nf_saved.specs.SessionTable.{session_grid}
use Rattle.nf_saved.specs.Reading.{session_read}

-- x, y and z are CONOUT and DUALOUT under FUTURE2, and SESSIONOUT, of one session, whatever numbers they show.
pub record AreSaved (p : LinearProgram) (l : LabelList) (s : Session) (x y z : Grid) : Type 0 where
  pub by_arc : ArcLists
  pub by_row : RowLists
  pub tree : TreeLists
  pub conout : x ≡ conout_grid p l s.standing by_arc true
  pub dualout : y ≡ dualout_grid p l s.standing by_row tree true
  pub sessionout : z ≡ session_grid p s

-- Its counts of pivots have at most 18 digits.
pub record HasShortCounts (s : Session) : Type 0 where
  pub one : s.carried.counts.one < 10 ^ 18
  pub two : s.carried.counts.two < 10 ^ 18

-- The problem's columns and rows can be counted.
pub record IsCounted (p : LinearProgram) : Type 0 where
  pub columns : length p.columns ≤ 2 ^ 30
  pub rows : length p.rows ≤ 2 ^ 30

-- The saved tables of a session are read as that session, and so as no other.
abbrev pub SavedAreRead : Type 0
SavedAreRead =
    (p : LinearProgram) (l : LabelList) (s : Session) (x y z : Grid) → IsProblem p → IsCounted p → IsSession p s → HasShortCounts s
    → AreSaved p l s x y z → session_read p x y z ≡ Ok s

-- What is read has a state of the problem, with as many basic columns as rows, and what it carries fits that state.
pub record IsReadSession (p : LinearProgram) (s : Session) : Type 0 where
  pub state : IsStateOf p s.standing
  pub as_many : count_basic (all_columns (layout_of p)) (place_at s.standing) ≡ rows_of p s.standing
  pub carried : FitsState p s.standing s.carried

abbrev pub ReadAreStates : Type 0
ReadAreStates = (p : LinearProgram) (s : Session) (x y z : Grid) → IsProblem p → session_read p x y z ≡ Ok s → IsReadSession p s

-- If its state is lexicographically feasible, it is a session: so one that was resumed can be saved again.
abbrev pub ReadAreSessions : Type 0
ReadAreSessions = (p : LinearProgram) (s : Session) (x y z : Grid) → IsProblem p → session_read p x y z ≡ Ok s → IsFeasibleState p s.standing → IsSession p s
