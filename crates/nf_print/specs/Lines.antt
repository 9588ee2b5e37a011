-- The exact text of the lines of a halt, of the pivots after it, and of SHOW STATUS.
-- What a session prints of where it stands rests on it.
use Rattle.std.specs.Prelude.{◌++◌, ℕ, List, codes, decimal}
use Rattle.nf_frac.specs.Texts.{frac_text}
use Rattle.nf_print.specs.declared.halt.Counts.{Counts}
use Rattle.nf_print.specs.declared.halt.HaltLine.{HaltLine}
use Rattle.nf_print.specs.declared.halt.HaltLine.TheVariants as halt
use Rattle.nf_print.specs.declared.status.Last.{Last}
use Rattle.nf_print.specs.declared.status.Last.TheVariants as last
use Rattle.nf_print.specs.declared.status.Status.{Status}

-- How a RUN has halted.
abbrev pub halt_lines : HaltLine → List ℕ
halt_lines (halt.Optimal cost) = codes "OPTIMAL\nTOTAL COST " ++ (frac_text cost ++ codes "\n")
halt_lines (halt.Infeasible gap) = codes "INFEASIBLE\nGAP " ++ (frac_text gap ++ codes "\n")
halt_lines (halt.Unbounded rate) = codes "UNBOUNDED\nRATE " ++ (frac_text rate ++ codes "\n")
halt_lines (halt.Limit stage most) = codes "HALTED MAXIT" ++ (decimal stage ++ (codes " " ++ (decimal most ++ codes "\n")))
halt_lines (halt.Pause stage) = codes "HALTED PAUSE" ++ (decimal stage ++ codes "\n")
halt_lines halt.Feasible = codes "HALTED FEASIBLE\n"
halt_lines halt.StageOneEnd = codes "HALTED STAGE 1 END\n"

-- The pivots of both stages.
abbrev pub count_lines : Counts → List ℕ
count_lines c = codes "STAGE 1 PIVOTS " ++ (decimal c.one ++ (codes "\nSTAGE 2 PIVOTS " ++ (decimal c.two ++ codes "\n")))

-- The word for the last halt of a session.
abbrev pub last_word : Last → List ℕ
last_word last.Unset = codes "NONE"
last_word last.Optimal = codes "OPTIMAL"
last_word last.Infeasible = codes "INFEASIBLE"
last_word last.Unbounded = codes "UNBOUNDED"
last_word last.Limit = codes "LIMIT"
last_word last.Pause = codes "PAUSE"
last_word last.Feasible = codes "FEASIBLE"
last_word last.StageOne = codes "STAGEONE"
last_word last.Pivot = codes "PIVOT"

-- Where a session stands: its stage, the pivots and the last halt; and then the cursor, what the flows cost and the sum of
-- the artificials.
abbrev pub place_lines : Status → List ℕ
place_lines s = codes "STAGE " ++ (decimal s.stage ++ (codes "\n" ++ (count_lines s.counts ++ (codes "LAST " ++ (last_word s.last ++ codes "\n")))))

abbrev pub number_lines : Status → List ℕ
number_lines s = codes "CURSOR " ++ (decimal s.cursor ++ (codes "\nCOST " ++ (frac_text s.cost ++ (codes "\nARTIFICIALS " ++ (frac_text s.artificials ++ codes "\n")))))

unfoldable pub status_lines : Status → List ℕ
status_lines s = place_lines s ++ number_lines s
