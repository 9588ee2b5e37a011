use Rattle.std.proofs.Common.{◌∙◌, sym}
use Rattle.nf_dimacs.proofs.LineFacts.{no-line}
use Rattle.nf_dimacs.proofs.lines.Lines.advance.Goals as goal

pub returns-then-is_empty : goal.returns-then-is_empty
returns-then-is_empty c = sym c.self.view_is ∙ no-line c.self.inside.rest.now c.is_empty.result c.is_empty.ensures c.if-is_empty.true
