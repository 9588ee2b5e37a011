use Rattle.std.proofs.Common.{ℕ, List, ◌+◌, ◌∷◌, ◌∙◌, sym, ap₂}
use Rattle.std.proofs.lemmas.List.{take_rest}
use Rattle.nf_dimacs.specs.Lines.{lines_of}
use Rattle.nf_dimacs.proofs.LineFacts.{line-at_end, line-before_feed}
use Rattle.nf_dimacs.proofs.lines.cut_line.Goals as goal

pub returns-in-None : goal.returns-in-None
returns-in-None c = line-at_end c.args.text.now c.requires c.in-None.ensures.place

pub returns-in-Some : goal.returns-in-Some
returns-in-Some c =
    line-before_feed c.args.text.now c.in-Some.at c.in-Some.ensures.place
    ∙ ap₂ (λ (l t : List ℕ). l ∷ lines_of t) (sym c.without_return.ensures) (sym (take_rest c.args.text.now (c.in-Some.at + 1)))
