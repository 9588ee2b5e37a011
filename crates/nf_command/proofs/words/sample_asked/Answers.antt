use Rattle.std.proofs.Common.{◌∙◌, ◌≡◌, true, false, sym}
use Rattle.nf_command.proofs.FourWords.{asks_no_flag}
use Rattle.nf_command.proofs.words.sample_asked.Goals as goal

pub returns-then-has_flag : goal.returns-then-has_flag
returns-then-has_flag c = λ n asked.
    let e : true ≡ false = sym c.if-has_flag.true ∙ c.has_flag.ensures ∙ asks_no_flag n c.args.words.now asked in
    absurd (cc e)
