use Rattle.std.proofs.Common.{◌≡◌, ◌<◌, length, ◌∙◌, ap, ap₂, sym, subst, arith}
use Rattle.std.proofs.lemmas.List.{get_or_read}
use Rattle.nf_num.specs.Rational.{◌*ℚ◌, inv_ℚ}
use Rattle.nf_sums.proofs.Up.{handed_on}
use Rattle.nf_sums.proofs.Laws.{wider}
use Rattle.nf_inverse.specs.Causes.{ExchangeTerms, ScaledTerms}
use Rattle.nf_inverse.specs.Weights.{at, rows_of, weights_of}
use Rattle.nf_inverse.proofs.Steps.{exchanged}
use Rattle.nf_inverse.proofs.Stored.{long, row_at, square_at}
use Rattle.nf_inverse.proofs.Updates.{scaled_in_exchange, update_in_exchange}
use Rattle.nf_inverse.proofs.rows.exchange_rows.Goals as goal

pub scale_row-requires-clause-places : goal.scale_row-requires-clause-places
scale_row-requires-clause-places g c =
    let row : c.as_slice.result.now ≡ weights_of (rows_of c.args.rows.now) c.args.leaving = c.as_slice.ensures.value ∙ row_at c.args.rows.now c.args.leaving c.index-rows-leaving.result c.requires.slot in
    c.requires.room ∙ sym (ap length row ∙ square_at c.args.rows.now c.args.leaving c.requires.square c.requires.slot)

pub returns-in_err-scale_row-clause-passed : goal.returns-in_err-scale_row-clause-passed
returns-in_err-scale_row-clause-passed g c =
    let row : c.as_slice.result.now ≡ weights_of (rows_of c.args.rows.now) c.args.leaving = c.as_slice.ensures.value ∙ row_at c.args.rows.now c.args.leaving c.index-rows-leaving.result c.requires.slot in
    let below : c.args.leaving < length c.args.entries.now = omega (arith, c.requires) in
    handed_on c.from_residual.result _ _ c.from_residual.ensures.1
    (wider (ScaledTerms c.as_slice.result.now c.index-entries-leaving.result) (ExchangeTerms (rows_of c.args.rows.now) (at c.args.entries.now) c.args.leaving) _
    (scaled_in_exchange (rows_of c.args.rows.now) (at c.args.entries.now) c.args.leaving _ _ row (square_at c.args.rows.now c.args.leaving c.requires.square c.requires.slot ∙ sym (long c.args.rows.now)) (get_or_read c.args.entries.now c.args.leaving _ below c.index-entries-leaving.is _))
    c.in_err-scale_row.ensures.passed)

pub returns-in_err-update_rows-clause-passed : goal.returns-in_err-update_rows-clause-passed
returns-in_err-update_rows-clause-passed g c =
    let row : c.as_slice.result.now ≡ weights_of (rows_of c.args.rows.now) c.args.leaving = c.as_slice.ensures.value ∙ row_at c.args.rows.now c.args.leaving c.index-rows-leaving.result c.requires.slot in
    let same : length c.as_slice.result.now ≡ length c.args.rows.now = ap length row ∙ square_at c.args.rows.now c.args.leaving c.requires.square c.requires.slot in
    let below : c.args.leaving < length c.args.entries.now = omega (arith, c.requires) in
    let step = c.in_err-update_rows.ensures.passed in
    handed_on c.from_residual-in_err-update_rows.result _ _ c.from_residual-in_err-update_rows.ensures.1
    (update_in_exchange (rows_of c.args.rows.now) (at c.args.entries.now) c.args.leaving step.0 (length c.args.rows.now) c.scale_row.new.scaled _ (sym (long c.args.rows.now)) step.1
    (λ i h. c.in_ok-scale_row.ensures.value i (subst (λ n. i < n) (sym same) h) ∙ ap₂ (λ l e. at l i *ℚ inv_ℚ e) row (get_or_read c.args.entries.now c.args.leaving _ below c.index-entries-leaving.is _))
    step.2)

pub returns-clause-value : goal.returns-clause-value
returns-clause-value g c =
    let row : c.as_slice.result.now ≡ weights_of (rows_of c.args.rows.now) c.args.leaving = c.as_slice.ensures.value ∙ row_at c.args.rows.now c.args.leaving c.index-rows-leaving.result c.requires.slot in
    let same : length c.as_slice.result.now ≡ length c.args.rows.now = ap length row ∙ square_at c.args.rows.now c.args.leaving c.requires.square c.requires.slot in
    let below : c.args.leaving < length c.args.entries.now = omega (arith, c.requires) in
    exchanged (rows_of c.args.rows.now) (rows_of c.update_rows.new.rows) (rows_of c.put_row.new.rows) (length c.args.rows.now) (at c.args.entries.now) c.args.leaving c.scale_row.new.scaled (long c.args.rows.now)
    (λ i h. c.in_ok-scale_row.ensures.value i (subst (λ n. i < n) (sym same) h) ∙ ap₂ (λ l e. at l i *ℚ inv_ℚ e) row (get_or_read c.args.entries.now c.args.leaving _ below c.index-entries-leaving.is _))
    c.in_ok-update_rows.ensures.value
    c.put_row.ensures.value
    c.put_row.ensures.others

pub returns-in_err-scale_row-clause-cost : goal.returns-in_err-scale_row-clause-cost
returns-in_err-scale_row-clause-cost g c =
    let row : c.as_slice.result.now ≡ weights_of (rows_of c.args.rows.now) c.args.leaving = c.as_slice.ensures.value ∙ row_at c.args.rows.now c.args.leaving c.index-rows-leaving.result c.requires.slot in
    let same : length c.as_slice.result.now ≡ length c.args.rows.now = ap length row ∙ square_at c.args.rows.now c.args.leaving c.requires.square c.requires.slot in
    omega (arith, c.scale_row.ensures.cost, same)
