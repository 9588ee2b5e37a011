-- What the rows of SESSIONDATA record, in version 1 or 2, or the first row that is at fault.
-- A session is resumed by it; the rows are looked at in their order.
use Rattle.std.specs.Prelude.{ℕ, zero, suc, ◌+◌, ◌-◌, ◌==◌, ◌&&◌, not, Bool, true, false, List, [], ◌∷◌, ◌++◌, length, get_or, slice_get, codes, decimal, nat_lt, if◌then◌else◌, Option, Some, None, Result, Ok, Err}
use Rattle.std.specs.List.{list_any}
use Rattle.std.specs.Str.{bytes_eq}
use Rattle.nf_model.specs.Program.{LinearProgram}
use Rattle.nf_cells.specs.Cells.{value_of}
use Rattle.nf_table.specs.Grid.{Cells}
use Rattle.nf_program.specs.declared.program.SessionOptions.{SessionOptions}
use Rattle.nf_simplex.specs.Layout.{layout_of}
use Rattle.nf_simplex.specs.StageOf.{StageNumber, StageOne, StageTwo, rows_in}
use Rattle.nf_print.specs.declared.halt.Counts.{Counts}
use Rattle.nf_print.specs.declared.status.Last.{Last}
use Rattle.nf_saved.specs.declared.fault.SavedArtificial.{SavedArtificial}
use Rattle.nf_saved.specs.declared.fault.SavedFault.{SavedFault}
use Rattle.nf_saved.specs.declared.fault.SavedFault.TheVariants as fault
use Rattle.nf_saved.specs.Session.{Carried, count_entering}
use Rattle.nf_saved.specs.Statuses.{given_is_in, slack_is_in}
use Rattle.nf_saved.specs.Values.{artificial_said, count_from, flag_said, last_said, most_count, most_pivots, most_two, rule_said, stage_said, version_said}

-- ---- one after the other
-- What follows goes on with a value, or the fault stands.
unfoldable pub and_then : {A B : Type 0} → Result A SavedFault → (A → Result B SavedFault) → Result B SavedFault
and_then (Err e) next = Err e
and_then (Ok x) next = next x

-- n values, after those that were read, each by them and its number from i on; or the first fault.
unfoldable pub each_read : {A : Type 0} → (List A → ℕ → Result A SavedFault) → ℕ → ℕ → List A → Result (List A) SavedFault
each_read read zero i before = Ok before
each_read read (suc n) i before = and_then (read before i) (λ x. each_read read n (suc i) (before ++ x ∷ []))

-- ---- a row
-- The three cells of a row, without the spaces at both ends.
pub record SavedRow : Type 0 where
  pub key : List ℕ
  pub number : List ℕ
  pub value : List ℕ

abbrev pub saved_row : ℕ → ℕ → ℕ → Cells → SavedRow
saved_row key number value cells = record { key = value_of (get_or cells key []); number = value_of (get_or cells number []); value = value_of (get_or cells value []) }

-- The value of a row, if it is there and has this key and this number; and what it says.
unfoldable pub value_in : Option SavedRow → List ℕ → ℕ → Option (List ℕ)
value_in None key number = None
value_in (Some r) key number = if bytes_eq r.key key && bytes_eq r.number (decimal number) then Some r.value else None

abbrev pub said_by : {A : Type 0} → (List ℕ → Option A) → Option (List ℕ) → Option A
said_by says None = None
said_by says (Some value) = says value

abbrev pub said_in : {A : Type 0} → Option SavedRow → List ℕ → ℕ → (List ℕ → Option A) → Option A
said_in row key number says = said_by says (value_in row key number)

-- A row, from 0, that says nothing is at fault. Faults count rows from 1.
unfoldable pub or_bad : {A : Type 0} → ℕ → Option A → Result A SavedFault
or_bad k None = Err (fault.BadSession (suc k))
or_bad k (Some x) = Ok x

abbrev pub row_read : {A : Type 0} → List SavedRow → ℕ → List ℕ → ℕ → (List ℕ → Option A) → Result A SavedFault
row_read rows k key number says = or_bad k (said_in (slice_get rows k) key number says)

-- Two rows with one key, for both stages.
unfoldable pub pair_read : {A : Type 0} → List SavedRow → ℕ → List ℕ → (List ℕ → Option A) → Result (A × A) SavedFault
pair_read rows k key says = and_then (row_read rows k key 1 says) (λ one. and_then (row_read rows (suc k) key 2 says) (λ two. Ok (one, two)))

-- ---- the parts of the table
-- Whether the problem has a stage two, and whether one is to come.
abbrev pub has_two : LinearProgram → Bool
has_two p = if nat_lt 0 (layout_of p).sides then true else nat_lt p.arcs (length p.columns)

abbrev pub two_to_come : LinearProgram → StageNumber → Bool
two_to_come p StageOne = has_two p
two_to_come p StageTwo = false

-- Rows 2 to 6: the stage, the pivots, the cursor and the last halt.
pub record Head : Type 0 where
  pub stage : StageNumber
  pub counts : Counts
  pub cursor : ℕ
  pub last : Last

unfoldable pub head_read : LinearProgram → List SavedRow → Result Head SavedFault
head_read p rows =
    and_then (row_read rows 1 (codes "STAGE") 1 (stage_said (has_two p))) (λ stage.
    and_then (row_read rows 2 (codes "PIVOTS") 1 (count_from 0 most_pivots)) (λ one.
    and_then (row_read rows 3 (codes "PIVOTS") 2 (count_from 0 (most_two stage))) (λ two.
    and_then (row_read rows 4 (codes "CURSOR") 1 (count_from 0 (count_entering p))) (λ cursor.
    and_then (row_read rows 5 (codes "LAST") 1 (last_said (two_to_come p stage))) (λ last.
    Ok (record { stage = stage; counts = record { one = one; two = two }; cursor = cursor; last = last }))))))

-- The sizes of the queues, rows 18 and 19; in version 1 they are 10.
unfoldable pub sizes_read : Bool → List SavedRow → Result (ℕ × ℕ) SavedFault
sizes_read true rows = pair_read rows 17 (codes "QUEUESIZE") (count_from 1 999)
sizes_read false rows = Ok (10, 10)

-- Rows 7 to 19: the session options.
unfoldable pub options_read : Bool → List SavedRow → Result SessionOptions SavedFault
options_read queued rows =
    and_then (pair_read rows 6 (codes "MAXIT") (count_from 0 most_count)) (λ maxit.
    and_then (pair_read rows 8 (codes "PAUSE") (count_from 0 most_count)) (λ pause.
    and_then (pair_read rows 10 (codes "FEASIBLEPAUSE") flag_said) (λ feasible.
    and_then (row_read rows 12 (codes "ENDPAUSE") 1 flag_said) (λ endpause1.
    and_then (pair_read rows 13 (codes "FUTURE") flag_said) (λ future.
    and_then (pair_read rows 15 (codes "PRICETYPE") (rule_said queued)) (λ pricetype.
    and_then (sizes_read queued rows) (λ queuesize.
    Ok (record {
      maxit1 = maxit.0;
      maxit2 = maxit.1;
      pause1 = pause.0;
      pause2 = pause.1;
      feasiblepause1 = feasible.0;
      feasiblepause2 = feasible.1;
      endpause1 = endpause1;
      future1 = future.0;
      future2 = future.1;
      pricetype1 = pricetype.0;
      pricetype2 = pricetype.1;
      queuesize1 = queuesize.0;
      queuesize2 = queuesize.1;
    }))))))))

-- j, from 0, is a given column or a slack of the stage.
abbrev pub enters_in : LinearProgram → StageNumber → ℕ → Bool
enters_in p stage j = if nat_lt j (length p.columns) then given_is_in p stage j else slack_is_in p stage (p.nodes + (j - length p.columns))

-- A member of the queue is the number, from 1, of such a column, and none of those before it.
abbrev pub if_member : LinearProgram → StageNumber → List ℕ → Option ℕ → Option ℕ
if_member p stage before None = None
if_member p stage before (Some n) = if enters_in p stage (n - 1) && not (list_any (λ m. m == n) before) then Some n else None

unfoldable pub member_said : LinearProgram → StageNumber → List ℕ → List ℕ → Option ℕ
member_said p stage before value = if_member p stage before (count_from 1 (count_entering p) value)

-- From row 20 on the queue: its length, and its members. In version 1 there is none.
abbrev pub member_read : LinearProgram → StageNumber → List SavedRow → List ℕ → ℕ → Result ℕ SavedFault
member_read p stage rows before i = row_read rows (20 + i) (codes "QUEUE") (suc i) (member_said p stage before)

unfoldable pub queue_read : LinearProgram → Bool → StageNumber → List SavedRow → Result (List ℕ) SavedFault
queue_read p true stage rows = and_then (row_read rows 19 (codes "QLENGTH") 1 (count_from 0 999)) (λ n. each_read (member_read p stage rows) n 0 [])
queue_read p false stage rows = Ok []

-- The row of the first artificial, from 0.
abbrev pub first_artificial : Bool → List ℕ → ℕ
first_artificial true queue = 20 + length queue
first_artificial false queue = 17

-- n artificials from row k on, and no row after them.
abbrev pub artificial_read : List SavedRow → ℕ → List SavedArtificial → ℕ → Result SavedArtificial SavedFault
artificial_read rows k before i = row_read rows (k + i) (codes "ARTIF") (suc i) artificial_said

abbrev pub if_end : {A : Type 0} → ℕ → Option SavedRow → A → Result A SavedFault
if_end k None x = Ok x
if_end k (Some r) x = Err (fault.BadSession (suc k))

unfoldable pub artificials_read : List SavedRow → ℕ → ℕ → Result (List SavedArtificial) SavedFault
artificials_read rows k n = and_then (each_read (artificial_read rows k) n 0 []) (λ artificials. if_end (k + n) (slice_get rows (k + n)) artificials)

-- ---- the table
-- What the rows record: the stage, what is carried, and the artificials by row.
pub record Recorded : Type 0 where
  pub stage : StageNumber
  pub carried : Carried
  pub artificials : List SavedArtificial

unfoldable pub recorded : LinearProgram → List SavedRow → Result Recorded SavedFault
recorded p rows =
    and_then (row_read rows 0 (codes "VERSION") 1 version_said) (λ queued.
    and_then (head_read p rows) (λ head.
    and_then (options_read queued rows) (λ options.
    and_then (queue_read p queued head.stage rows) (λ queue.
    and_then (artificials_read rows (first_artificial queued queue) (rows_in (layout_of p) head.stage)) (λ artificials.
    Ok (record {
      stage = head.stage;
      carried = record { counts = head.counts; pricing = record { cursor = head.cursor; queue = queue }; options = options; last = head.last };
      artificials = artificials;
    }))))))
