use Rattle.std.proofs.Common.{◌∙◌, ap, sym}
use Rattle.nf_basis.specs.Names.{stage_by}
use Rattle.nf_cells.specs.Cells.{value_of}
use Rattle.nf_saved.specs.Reading.{or_unfit}
use Rattle.nf_saved.specs.Statuses.{row_place}
use Rattle.nf_saved.specs.declared.fault.SavedSet.TheVariants as set
use Rattle.nf_warm.proofs.CellFacts.{word-there}
use Rattle.nf_warm.proofs.places.slack_at.Goals as goal

pub returns-in-Some : goal.returns-in-Some
unfolding or_unfit
returns-in-Some c =
    ap (or_unfit set.Dualin c.args.i)
    (sym c.in-Some.is
    ∙ (c.row_place.ensures
    ∙ ap (λ w. row_place c.args.p.now (stage_by c.args.two) c.args.i w) (c.trimmed-word.ensures.value ∙ (ap value_of c.cell.ensures ∙ sym (word-there c.args.table.now c.args.at.now c.args.i c.requires.row)))))
