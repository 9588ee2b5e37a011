use Rattle.std.proofs.Common.{◌≡◌, length, ◌∙◌, ap, sym}
use Rattle.nf_inverse.specs.Weights.{rows_of, weights_of}
use Rattle.nf_inverse.proofs.Stored.{row_at, row_items, row_kept, square_at, square_items}
use Rattle.nf_inverse.proofs.rows.put_row.Goals as goal

pub copy_from_slice-requires : goal.copy_from_slice-requires
copy_from_slice-requires c =
    let row : c.as_mut_slice.result.now ≡ weights_of (rows_of c.args.rows.now) c.args.s = c.as_mut_slice.ensures.value ∙ row_at c.args.rows.now c.args.s c.index-rows-s.result c.requires.row in
    ap length row ∙ square_at c.args.rows.now c.args.s c.requires.square c.requires.row ∙ sym c.requires.places

pub returns-clause-square : goal.returns-clause-square
returns-clause-square c = square_items c.args.rows.now c.args.s c.index-rows-s.result c.copy_from_slice.new.self c.requires.square c.requires.row (ap length c.copy_from_slice.ensures.after ∙ c.requires.places)

pub returns-clause-value : goal.returns-clause-value
returns-clause-value c = row_items c.args.rows.now c.args.s c.index-rows-s.result c.copy_from_slice.new.self c.requires.square c.requires.row (ap length c.copy_from_slice.ensures.after ∙ c.requires.places) ∙ c.copy_from_slice.ensures.after

pub returns-clause-others : goal.returns-clause-others
returns-clause-others c = λ k d. row_kept c.args.rows.now c.args.s k _ d
