-- What a value of a saved table says: a count, a flag, a rule, a last halt, an artificial, a place.
-- The reading of saved tables takes each value by these words.
use Rattle.std.specs.Prelude.{ℕ, ◌&&◌, Bool, true, false, List, codes, nat_le, if◌then◌else◌, Option, Some, None}
use Rattle.std.specs.Str.{bytes_eq, str_eq_ignore_ascii_case}
use Rattle.nf_frac.specs.Digits.{is_numeral, decimal_value}
use Rattle.nf_program.specs.declared.program.PriceType.{PriceType}
use Rattle.nf_program.specs.declared.program.PriceType.TheVariants as price
use Rattle.nf_basis.specs.declared.col.Place.{Place}
use Rattle.nf_basis.specs.declared.col.Place.TheVariants as place
use Rattle.nf_simplex.specs.StageOf.{StageNumber, StageOne, StageTwo}
use Rattle.nf_print.specs.declared.status.Last.{Last}
use Rattle.nf_print.specs.declared.status.Last.TheVariants as last
use Rattle.nf_saved.specs.declared.fault.SavedArtificial.{SavedArtificial}

-- A count is digits without leading zeros, at least and at most so much.
unfoldable pub count_from : ℕ → ℕ → List ℕ → Option ℕ
count_from least most value =
    if is_numeral value && (nat_le least (decimal_value value) && nat_le (decimal_value value) most) then Some (decimal_value value) else None

-- Counts of pivots have at most 18 digits, and limits and pauses at most 9.
abbrev pub most_pivots : ℕ
most_pivots = 999999999999999999

abbrev pub most_count : ℕ
most_count = 999999999

-- In stage one there are no pivots of stage two.
abbrev pub most_two : StageNumber → ℕ
most_two StageOne = 0
most_two StageTwo = most_pivots

-- Whether there is a queue: version 2 has one, and version 1 none.
unfoldable pub version_said : List ℕ → Option Bool
version_said value = if bytes_eq value (codes "2") then Some true else if bytes_eq value (codes "1") then Some false else None

-- The stage; stage two only if the problem has it.
unfoldable pub stage_said : Bool → List ℕ → Option StageNumber
stage_said has_two value =
    if bytes_eq value (codes "1") then Some StageOne
    else if bytes_eq value (codes "2") && has_two then Some StageTwo
    else None

unfoldable pub flag_said : List ℕ → Option Bool
flag_said value = if bytes_eq value (codes "1") then Some true else if bytes_eq value (codes "0") then Some false else None

-- A rule; QUEUE only in version 2.
unfoldable pub rule_said : Bool → List ℕ → Option PriceType
rule_said queued value =
    if bytes_eq value (codes "FIRST") then Some price.First
    else if bytes_eq value (codes "BEST") then Some price.Best
    else if bytes_eq value (codes "BLAND") then Some price.Bland
    else if queued && bytes_eq value (codes "QUEUE") then Some price.Queue
    else if queued && bytes_eq value (codes "Q") then Some price.Queue
    else None

-- A last halt; the end of stage one only if stage two is to come.
unfoldable pub last_said : Bool → List ℕ → Option Last
last_said to_come value =
    if bytes_eq value (codes "NONE") then Some last.Unset
    else if bytes_eq value (codes "OPTIMAL") then Some last.Optimal
    else if bytes_eq value (codes "INFEASIBLE") then Some last.Infeasible
    else if bytes_eq value (codes "UNBOUNDED") then Some last.Unbounded
    else if bytes_eq value (codes "LIMIT") then Some last.Limit
    else if bytes_eq value (codes "PAUSE") then Some last.Pause
    else if bytes_eq value (codes "FEASIBLE") then Some last.Feasible
    else if to_come && bytes_eq value (codes "STAGEONE") then Some last.StageOne
    else if bytes_eq value (codes "PIVOT") then Some last.Pivot
    else None

-- An artificial, with these two.
abbrev pub artificial : Bool → Bool → SavedArtificial
artificial negative basic = record { negative = negative; basic = basic }

-- An artificial's sign, and whether it is basic.
unfoldable pub artificial_said : List ℕ → Option SavedArtificial
artificial_said value =
    if bytes_eq value (codes "+B") then Some (artificial false true)
    else if bytes_eq value (codes "+L") then Some (artificial false false)
    else if bytes_eq value (codes "-B") then Some (artificial true true)
    else if bytes_eq value (codes "-L") then Some (artificial true false)
    else None

-- A place, in any case.
unfoldable pub place_said : List ℕ → Option Place
place_said word =
    if str_eq_ignore_ascii_case (codes "LOWERBD") word then Some place.Lower
    else if str_eq_ignore_ascii_case (codes "UPPERBD") word then Some place.Upper
    else if str_eq_ignore_ascii_case (codes "BASIC") word then Some place.Basic
    else if str_eq_ignore_ascii_case (codes "ABSENT") word then Some place.Absent
    else if str_eq_ignore_ascii_case (codes "ZERO") word then Some place.Zero
    else None

-- The word of a row that has no status of its own, in any case.
abbrev pub says_none : List ℕ → Bool
says_none word = str_eq_ignore_ascii_case (codes "NONE") word
