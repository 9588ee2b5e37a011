use Rattle.std.proofs.Common.{◌∙◌, ap}
use Rattle.nf_frac.specs.Texts.{frac_read}
use Rattle.nf_frac.proofs.TextFacts.{frac_read-text, text-frac_read}
use Rattle.nf_frac.proofs.read.read_frac.Goals as goal

pub returns-clause-value : goal.returns-clause-value
returns-clause-value c = c.read_signed.ensures

pub returns-clause-written_back : goal.returns-clause-written_back
returns-clause-written_back c = text-frac_read c.args.text.now c.read_signed.result c.read_signed.ensures

pub returns-clause-every_text : goal.returns-clause-every_text
returns-clause-every_text c = λ q h e. c.read_signed.ensures ∙ ap frac_read e ∙ frac_read-text q h
