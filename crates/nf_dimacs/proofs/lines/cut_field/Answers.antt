use Rattle.std.proofs.Common.{ℕ, List, ◌+◌, ◌++◌, ◌∙◌, sym, ap, take}
use Rattle.std.proofs.lemmas.List.{take_rest}
use Rattle.nf_dimacs.specs.Lines.{fields_of, with_bytes}
use Rattle.nf_dimacs.proofs.LineFacts.{field-at_end, field-before_blank}
use Rattle.nf_dimacs.proofs.lines.cut_field.Goals as goal

pub returns-in-None-clause-fields : goal.returns-in-None-clause-fields
returns-in-None-clause-fields c = field-at_end c.args.line.now c.in-None.ensures.place

pub returns-in-Some-clause-fields : goal.returns-in-Some-clause-fields
returns-in-Some-clause-fields c =
    field-before_blank c.args.line.now c.in-Some.at c.in-Some.ensures.place
    ∙ ap (λ (t : List ℕ). with_bytes (take c.in-Some.at c.args.line.now) ++ fields_of t) (sym (take_rest c.args.line.now (c.in-Some.at + 1)))
