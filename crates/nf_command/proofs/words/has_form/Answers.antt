use Rattle.std.proofs.Common.{◌∙◌, sym}
use Rattle.std.proofs.lemmas.Slice.Eq.{bytes_eq-Decides}
use Rattle.nf_command.proofs.FourWords.{five}
use Rattle.nf_command.proofs.words.has_form.Goals as goal

pub returns-in-len5-clause-five : goal.returns-in-len5-clause-five
returns-in-len5-clause-five c = λ t.
    five c.args.words.now c.command-item.result c.in-len5.len_at_least c.in-len5.len_below c.command-item.is (sym c.as_str.ensures.value ∙ (bytes_eq-Decides _ _).0 (sym c.eq.ensures ∙ t))
