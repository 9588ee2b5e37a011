use Rattle.std.proofs.Common.{◌≡◌, ◌<◌, length, ◌∙◌, ap, sym, subst, subst₂, arith, rules}
use Rattle.nf_num.specs.Rational.{◌-ℚ◌, ◌*ℚ◌}
use Rattle.nf_sums.proofs.Up.{handed_on}
use Rattle.nf_inverse.specs.Causes.{SubtractsMultiple}
use Rattle.nf_inverse.specs.Weights.{at, rows_of, weights_of}
use Rattle.nf_inverse.proofs.Stored.{row_at, row_items, row_kept, square_at, square_items}
use Rattle.nf_inverse.proofs.rows.update_row.Goals as goal

pub sub_multiple-requires : goal.sub_multiple-requires
sub_multiple-requires g c =
    let row : c.as_mut_slice.result.now ≡ weights_of (rows_of c.args.rows.now) c.args.s = c.as_mut_slice.ensures.value ∙ row_at c.args.rows.now c.args.s c.index-rows-s.result c.requires.row in
    record { places = ap length row ∙ square_at c.args.rows.now c.args.s c.requires.square c.requires.row ∙ sym c.requires.places }

pub returns-in_err-sub_multiple : goal.returns-in_err-sub_multiple
returns-in_err-sub_multiple g c =
    let row : c.as_mut_slice.result.now ≡ weights_of (rows_of c.args.rows.now) c.args.s = c.as_mut_slice.ensures.value ∙ row_at c.args.rows.now c.args.s c.index-rows-s.result c.requires.row in
    let same : length c.as_mut_slice.result.now ≡ length c.args.rows.now = ap length row ∙ square_at c.args.rows.now c.args.s c.requires.square c.requires.row in
    let after : length c.sub_multiple.new.total ≡ length c.args.rows.now = c.sub_multiple.auto.total ∙ same in
    record {
      square = square_items c.args.rows.now c.args.s c.index-rows-s.result c.sub_multiple.new.total c.requires.square c.requires.row after;
      others = λ k d. row_kept c.args.rows.now c.args.s k _ d;
      value = search rules;
      passed = handed_on c.from_residual.result _ _ c.from_residual.ensures.1 (subst₂ (λ l n. SubtractsMultiple l n (at c.args.scaled.now) c.args.factor c.in_err-sub_multiple.field-0.0) row same c.in_err-sub_multiple.ensures.passed);
      cost = omega (arith, c.sub_multiple.ensures.cost, same);
    }

pub returns : goal.returns
returns g c =
    let row : c.as_mut_slice.result.now ≡ weights_of (rows_of c.args.rows.now) c.args.s = c.as_mut_slice.ensures.value ∙ row_at c.args.rows.now c.args.s c.index-rows-s.result c.requires.row in
    let same : length c.as_mut_slice.result.now ≡ length c.args.rows.now = ap length row ∙ square_at c.args.rows.now c.args.s c.requires.square c.requires.row in
    let after : length c.sub_multiple.new.total ≡ length c.args.rows.now = c.sub_multiple.auto.total ∙ same in
    record {
      square = square_items c.args.rows.now c.args.s c.index-rows-s.result c.sub_multiple.new.total c.requires.square c.requires.row after;
      others = λ k d. row_kept c.args.rows.now c.args.s k _ d;
      value = λ i h.
          ap (λ l. at l i) (row_items c.args.rows.now c.args.s c.index-rows-s.result c.sub_multiple.new.total c.requires.square c.requires.row after)
          ∙ c.in_ok-sub_multiple.ensures.value i (subst (λ n. i < n) (sym same) h)
          ∙ ap (λ l. at l i -ℚ at c.args.scaled.now i *ℚ c.args.factor) row;
      passed = tt;
      cost = omega (arith, c.sub_multiple.ensures.cost, same);
    }
