-- What a program asks of a run, as the engine takes it: for each stage the rule, the limit and the pauses; and the problems
-- that a run is of. Each RUN is said to be one under these.
use Rattle.std.specs.Prelude.{ℕ, ◌≤◌, cond, length, ltb}
use Rattle.nf_model.specs.Program.{LinearProgram}
use Rattle.nf_simplex.specs.Layout.{layout_of}
use Rattle.nf_simplex.specs.StageOf.{HasStageTwo, StageNumber, StageOne, StageTwo}
use Rattle.nf_simplex.specs.Standing.{Standing}
use Rattle.nf_program.specs.declared.program.PriceType.{PriceType}
use Rattle.nf_program.specs.declared.program.PriceType.TheVariants as price
use Rattle.nf_program.specs.declared.program.SessionOptions.{SessionOptions}
use Rattle.nf_price.specs.declared.rule.Rule.{Rule}
use Rattle.nf_price.specs.declared.rule.Rule.TheVariants as rule
use Rattle.nf_run.specs.declared.setting.Setting.{Setting}

-- A size of a queue: from 1 to 999, as every program has it.
abbrev pub queue_size : ℕ → ℕ
queue_size n = cond (ltb n 1) 1 (cond (ltb 999 n) 999 n)

-- The rule of pricing that the options name: PRICETYPE, and QUEUESIZE for QUEUE.
abbrev pub rule_for : PriceType → ℕ → Rule
rule_for price.First size = rule.First
rule_for price.Best size = rule.Best
rule_for price.Bland size = rule.Bland
rule_for price.Queue size = rule.Queue (queue_size size)

-- What a program asks of a stage.
abbrev pub setting_in : SessionOptions → StageNumber → Setting
setting_in o StageOne = record { stage = 1; rule = rule_for o.pricetype1 o.queuesize1; most = o.maxit1; pauses = record { every = o.pause1; feasible = o.feasiblepause1 } }
setting_in o StageTwo = record { stage = 2; rule = rule_for o.pricetype2 o.queuesize2; most = o.maxit2; pauses = record { every = o.pause2; feasible = o.feasiblepause2 } }

-- What it asks of the stage of a state.
abbrev pub setting_of : SessionOptions → Standing → Setting
setting_of o s = setting_in o s.stage

-- If the problem has a stage two, it has so many rows at most, as a whole inverse is kept there.
pub record IsPlain (p : LinearProgram) : Type 0 where
  pub few_rows : HasStageTwo (layout_of p) → length p.rows ≤ 1000
