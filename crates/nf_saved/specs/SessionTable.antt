-- The table of a session, in version 2.
-- SESSIONOUT stores it, and a session is resumed from it.
use Rattle.std.specs.Prelude.{ℕ, suc, List, [], ◌∷◌, ◌++◌, map, length, codes, decimal, Bool, true, false}
use Rattle.std.specs.List.{range_with_len}
use Rattle.nf_model.specs.Program.{LinearProgram}
use Rattle.nf_table.specs.Grid.{Cells, Grid}
use Rattle.nf_program.specs.declared.program.SessionOptions.{SessionOptions}
use Rattle.nf_simplex.specs.Place.{Place, Lower, Upper, Zero, Absent, Basic}
use Rattle.nf_simplex.specs.Columns.{Artificial}
use Rattle.nf_simplex.specs.StageOf.{StageNumber, StageOne, StageTwo}
use Rattle.nf_simplex.specs.Standing.{Standing, is_negative, place_of, rows_of}
use Rattle.nf_print.specs.Lines.{last_word}
use Rattle.nf_print.specs.Options.{rule_word}
use Rattle.nf_saved.specs.Session.{Session, Carried}

-- ---- words
abbrev pub stage_word : StageNumber → List ℕ
stage_word StageOne = codes "1"
stage_word StageTwo = codes "2"

abbrev pub flag_word : Bool → List ℕ
flag_word true = codes "1"
flag_word false = codes "0"

-- An artificial has its sign, and B if it is basic, L if it is at its lower bound.
abbrev pub sign_word : Bool → List ℕ
sign_word true = codes "-"
sign_word false = codes "+"

abbrev pub letter : Place → List ℕ
letter Basic = codes "B"
letter Lower = codes "L"
letter Upper = codes "L"
letter Zero = codes "L"
letter Absent = codes "L"

abbrev pub artificial_word : Bool → Place → List ℕ
artificial_word negative place = sign_word negative ++ letter place

-- ---- rows
-- A row: its key, its number and its value.
abbrev pub session_row : List ℕ → ℕ → List ℕ → Cells
session_row key number value = key ∷ decimal number ∷ value ∷ []

-- The rows of the options: limits and pauses, what is on or off, and the rules of pricing with the sizes of their queues.
unfoldable pub limit_rows : SessionOptions → List Cells
limit_rows o =
    session_row (codes "MAXIT") 1 (decimal o.maxit1) ∷ session_row (codes "MAXIT") 2 (decimal o.maxit2)
    ∷ session_row (codes "PAUSE") 1 (decimal o.pause1) ∷ session_row (codes "PAUSE") 2 (decimal o.pause2) ∷ []

unfoldable pub flag_rows : SessionOptions → List Cells
flag_rows o =
    session_row (codes "FEASIBLEPAUSE") 1 (flag_word o.feasiblepause1) ∷ session_row (codes "FEASIBLEPAUSE") 2 (flag_word o.feasiblepause2)
    ∷ session_row (codes "ENDPAUSE") 1 (flag_word o.endpause1)
    ∷ session_row (codes "FUTURE") 1 (flag_word o.future1) ∷ session_row (codes "FUTURE") 2 (flag_word o.future2) ∷ []

unfoldable pub price_rows : SessionOptions → List Cells
price_rows o =
    session_row (codes "PRICETYPE") 1 (rule_word o.pricetype1) ∷ session_row (codes "PRICETYPE") 2 (rule_word o.pricetype2)
    ∷ session_row (codes "QUEUESIZE") 1 (decimal o.queuesize1) ∷ session_row (codes "QUEUESIZE") 2 (decimal o.queuesize2) ∷ []

abbrev pub option_rows : SessionOptions → List Cells
option_rows o = limit_rows o ++ (flag_rows o ++ price_rows o)

-- The rows before the options.
unfoldable pub head_rows : StageNumber → Carried → List Cells
head_rows stage c =
    session_row (codes "VERSION") 1 (codes "2") ∷ session_row (codes "STAGE") 1 (stage_word stage)
    ∷ session_row (codes "PIVOTS") 1 (decimal c.counts.one) ∷ session_row (codes "PIVOTS") 2 (decimal c.counts.two)
    ∷ session_row (codes "CURSOR") 1 (decimal c.pricing.cursor) ∷ session_row (codes "LAST") 1 (last_word c.last) ∷ []

-- The rows of the queue: its length, and then its members, numbered from n on.
unfoldable pub member_rows : ℕ → List ℕ → List Cells
member_rows n [] = []
member_rows n (j ∷ js) = session_row (codes "QUEUE") n (decimal j) ∷ member_rows (suc n) js

abbrev pub queue_rows : List ℕ → List Cells
queue_rows queue = session_row (codes "QLENGTH") 1 (decimal (length queue)) ∷ member_rows 1 queue

-- The row of the artificial of row r, from 0.
abbrev pub artificial_row : LinearProgram → Standing → ℕ → Cells
artificial_row p s r = session_row (codes "ARTIF") (suc r) (artificial_word (is_negative s r) (place_of p s (Artificial r)))

-- Those of the first n rows.
unfoldable pub artificial_rows : LinearProgram → Standing → ℕ → List Cells
artificial_rows p s n = map (artificial_row p s) (range_with_len 0 n)

abbrev pub session_header : Cells
session_header = codes "_KEY_" ∷ codes "_NUMBER_" ∷ codes "_VALUE_" ∷ []

abbrev pub session_rows : LinearProgram → Session → List Cells
session_rows p s =
    head_rows s.standing.stage s.carried
    ++ (option_rows s.carried.options
    ++ (queue_rows s.carried.pricing.queue
    ++ artificial_rows p s.standing (rows_of p s.standing)))

-- The table of a session.
unfoldable pub session_grid : LinearProgram → Session → Grid
session_grid p s = record { header = session_header; rows = session_rows p s; hand = [] }
