-- The exact text of the lines of a run: how it ended, and the counts of pivots. What a listing has rests on it.
use Rattle.std.specs.Prelude.{◌++◌, ℕ, List, codes, decimal}
use Rattle.nf_frac.specs.Texts.{frac_text}
use Rattle.nf_run.specs.declared.line.HaltLine.{HaltLine}
use Rattle.nf_run.specs.declared.line.HaltLine.TheVariants as halt
use Rattle.nf_run.specs.declared.line.Counts.{Counts}

-- How a RUN ended.
abbrev pub halt_lines : HaltLine → List ℕ
halt_lines (halt.Optimal cost) = codes "OPTIMAL\nTOTAL COST " ++ (frac_text cost ++ codes "\n")
halt_lines (halt.Infeasible gap) = codes "INFEASIBLE\nGAP " ++ (frac_text gap ++ codes "\n")
halt_lines (halt.Unbounded rate) = codes "UNBOUNDED\nRATE " ++ (frac_text rate ++ codes "\n")
halt_lines (halt.Limit stage most) = codes "HALTED MAXIT" ++ (decimal stage ++ (codes " " ++ (decimal most ++ codes "\n")))
halt_lines (halt.Pause stage) = codes "HALTED PAUSE" ++ (decimal stage ++ codes "\n")
halt_lines halt.Feasible = codes "HALTED FEASIBLE\n"

-- The pivots of both stages.
abbrev pub count_lines : Counts → List ℕ
count_lines c = codes "STAGE 1 PIVOTS " ++ (decimal c.one ++ (codes "\nSTAGE 2 PIVOTS " ++ (decimal c.two ++ codes "\n")))
