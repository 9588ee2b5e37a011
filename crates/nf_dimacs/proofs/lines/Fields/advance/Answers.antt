use Rattle.std.proofs.Common.{◌∙◌, sym}
use Rattle.nf_dimacs.proofs.LineFacts.{no-field}
use Rattle.nf_dimacs.proofs.lines.Fields.advance.Goals as goal

pub returns : goal.returns
returns c =
    sym c.self.view_is ∙ c.loop-self.invariant ∙ no-field c.loop-self.self-inside.rest.now c.is_empty.result c.is_empty.ensures c.loop-self-test.false
