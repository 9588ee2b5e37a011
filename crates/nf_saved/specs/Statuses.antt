-- The places that rows of CONIN and DUALIN give: which status a row may have, and what it says.
-- A saved state is read by them.
use Rattle.std.specs.Prelude.{ℕ, suc, ◌&&◌, Bool, true, false, List, decimal, nat_lt, if◌then◌else◌, Option, Some, None}
use Rattle.std.specs.Str.{bytes_eq}
use Rattle.nf_num.specs.Rational.{ℚ}
use Rattle.nf_model.specs.declared.RowKind.{RowKind}
use Rattle.nf_model.specs.declared.RowKind.TheVariants.{Eq, Le, Ge}
use Rattle.nf_model.specs.Program.{LinearProgram, column, row, lower_of, upper_of}
use Rattle.nf_basis.specs.declared.col.Place.{Place}
use Rattle.nf_basis.specs.declared.col.Place.TheVariants.{Lower, Upper, Zero, Basic, Absent}
use Rattle.nf_simplex.specs.StageOf.{StageNumber, StageOne, StageTwo}
use Rattle.nf_saved.specs.Values.{place_said, says_none}

-- ---- which columns a stage has
abbrev pub given_is_in : LinearProgram → StageNumber → ℕ → Bool
given_is_in p StageOne j = nat_lt j p.arcs
given_is_in p StageTwo j = true

-- A side row of this kind has a slack, in stage two.
abbrev pub has_slack : RowKind → Bool
has_slack Eq = false
has_slack Le = true
has_slack Ge = true

abbrev pub slack_is_in : LinearProgram → StageNumber → ℕ → Bool
slack_is_in p StageOne i = false
slack_is_in p StageTwo i = has_slack (row p i).kind

-- ---- which places they may have
abbrev pub is_there : Option ℚ → Bool
is_there None = false
is_there (Some x) = true

abbrev pub is_missing : Option ℚ → Bool
is_missing None = true
is_missing (Some x) = false

-- A present column with these bounds may stand here.
abbrev pub may_stand : Option ℚ → Option ℚ → Place → Bool
may_stand l u Lower = is_there l
may_stand l u Upper = is_there u
may_stand l u Zero = is_missing l && is_missing u
may_stand l u Basic = true
may_stand l u Absent = false

-- A column that the stage lacks is absent.
abbrev pub is_absent : Place → Bool
is_absent Lower = false
is_absent Upper = false
is_absent Zero = false
is_absent Basic = false
is_absent Absent = true

abbrev pub given_may : LinearProgram → StageNumber → ℕ → Place → Bool
given_may p stage j place = if given_is_in p stage j then may_stand (lower_of (column p j)) (upper_of (column p j)) place else is_absent place

-- A slack is at its lower bound or basic.
abbrev pub slack_may : Place → Bool
slack_may Lower = true
slack_may Upper = false
slack_may Zero = false
slack_may Basic = true
slack_may Absent = false

-- ---- what a row says
-- A place that is allowed.
abbrev pub if_allowed : (Place → Bool) → Option Place → Option Place
if_allowed allowed None = None
if_allowed allowed (Some place) = if allowed place then Some place else None

-- The two cells of a row of CONIN, without the spaces at both ends.
pub record StatusRow : Type 0 where
  pub status : List ℕ
  pub number : List ℕ

-- The place of given column j, from 0: its row has its number, and a status that it may have.
unfoldable pub column_place : LinearProgram → StageNumber → ℕ → StatusRow → Option Place
column_place p stage j r = if bytes_eq r.number (decimal (suc j)) then if_allowed (given_may p stage j) (place_said r.status) else None

-- The row of a constraint gives the place of its slack; a constraint without one has no status, and stage one lacks all.
abbrev pub side_place : LinearProgram → StageNumber → ℕ → List ℕ → Option Place
side_place p StageOne i word = if_allowed is_absent (place_said word)
side_place p StageTwo i word = if has_slack (row p i).kind then if_allowed slack_may (place_said word) else if says_none word then Some Absent else None

-- The place that row i, from 0, of DUALIN gives: a node has no status, and its place is that of no slack.
unfoldable pub row_place : LinearProgram → StageNumber → ℕ → List ℕ → Option Place
row_place p stage i word = if nat_lt i p.nodes then (if says_none word then Some Absent else None) else side_place p stage i word
