-- A run is determined: one step from each point, and so one halt and one end.
-- `runs_are_determined` promises it. Whatever is reported of a run, and whatever goes on from a stored point, rests on it.
use Rattle.std.specs.Prelude.{◌≡◌, ℕ}
use Rattle.nf_model.specs.Program.{LinearProgram}
use Rattle.nf_model.specs.Problem.{IsProblem}
use Rattle.nf_simplex.specs.Standing.{IsFeasibleState}
use Rattle.nf_basis.specs.declared.col.Col.{Col}
use Rattle.nf_price.specs.declared.rule.Rule.{Rule}
use Rattle.nf_engine.specs.declared.halt.Halt.{Halt}
use Rattle.nf_engine.specs.declared.halt.Pauses.{Pauses}
use Rattle.nf_engine.specs.Point.{Point}
use Rattle.nf_engine.specs.Run.{RunsTo}
use Rattle.nf_engine.specs.Steps.{StepsBy}

-- From a point with a lexicographically feasible state there is at most one step.
abbrev pub StepsAreDetermined : Type 0
StepsAreDetermined =
    (p : LinearProgram) (rule : Rule) (a b e : Point) (c d : Col) → IsProblem p → IsFeasibleState p a.standing
    → StepsBy p rule a c b → StepsBy p rule a d e → (c ≡ d) × (b ≡ e)

-- A run from such a point has one halt and one end.
abbrev pub RunsAreDetermined : Type 0
RunsAreDetermined =
    (p : LinearProgram) (rule : Rule) (most : ℕ) (pauses : Pauses) (a b e : Point) (h k : Halt) → IsProblem p → IsFeasibleState p a.standing
    → RunsTo p rule most pauses a h b → RunsTo p rule most pauses a k e → (h ≡ k) × (b ≡ e)
