use Rattle.std.proofs.Common.{◌∙◌, sym, subst}
use Rattle.std.specs.Str.{IsUtf8}
use Rattle.nf_out.proofs.TextFacts.{frac-utf8}
use Rattle.nf_out.proofs.cells.push_frac.Goals as goal

pub push_cell-requires-clause-text : goal.push_cell-requires-clause-text
push_cell-requires-clause-text c = subst IsUtf8 (sym (c.bytes.ensures.value ∙ c.text-text.ensures)) (frac-utf8 c.args.x c.num.ensures.range c.den.ensures.range)
