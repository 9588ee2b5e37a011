-- The names that calls give to the rules of pricing, against those of the definitions.
-- `choose` picks by the rule that a name stands for.
use Rattle.std.specs.Prelude.{⊤, ◌<◌, ◌≤◌}
use Rattle.nf_simplex.specs.Pricing as model
use Rattle.nf_price.specs.declared.rule.Rule.{Rule}
use Rattle.nf_price.specs.declared.rule.Rule.TheVariants.{First, Best, Bland, Queue}

-- The rule that a name stands for.
abbrev pub rule_of : Rule → model.Rule
rule_of First = model.First
rule_of Best = model.Best
rule_of Bland = model.Bland
rule_of (Queue size) = model.Queue size

-- The size of a queue is from 1 to 999.
abbrev pub HasSize : Rule → Type 0
HasSize First = ⊤
HasSize Best = ⊤
HasSize Bland = ⊤
HasSize (Queue size) = (0 < size) × (size ≤ 999)
