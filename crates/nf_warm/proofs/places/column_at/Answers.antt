use Rattle.std.proofs.Common.{◌∙◌, ap, sym}
use Rattle.nf_basis.specs.Names.{stage_by}
use Rattle.nf_saved.specs.Reading.{or_unfit}
use Rattle.nf_saved.specs.Statuses.{column_place}
use Rattle.nf_saved.specs.declared.fault.SavedSet.TheVariants as set
use Rattle.nf_warm.proofs.CellFacts.{status-there}
use Rattle.nf_warm.proofs.places.column_at.Goals as goal

pub returns-in-Some : goal.returns-in-Some
unfolding or_unfit
returns-in-Some c =
    ap (or_unfit set.Conin c.args.j)
    (sym c.in-Some.is
    ∙ (c.column_place.ensures
    ∙ (rw (c.trimmed-status.ensures.value, c.trimmed-number.ensures.value, c.cell.ensures, c.cell-2.ensures)
    (ap (λ r. column_place c.args.p.now (stage_by c.args.two) c.args.j r) (sym (status-there c.args.table.now c.args.at.now c.args.j c.requires.row))))))
