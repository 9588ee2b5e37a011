use Rattle.std.proofs.Common.{◌<◌, length, refl, sym, arith}
use Rattle.std.proofs.lemmas.List.{get_or_read}
use Rattle.nf_frac.specs.declared.Op.TheVariants.{Sub}
use Rattle.nf_num.specs.Rational.{zero_ℚ}
use Rattle.nf_sums.proofs.Laws.{difference_passed, passes_from}
use Rattle.nf_sums.proofs.Up.{handed_on}
use Rattle.nf_ratio.proofs.Causes.{value_ratio_passed, way_passed}
use Rattle.nf_ratio.proofs.Signs.{entry_there}
use Rattle.nf_ratio.proofs.ratios.value_ratio.Goals as goal

pub returns-in_err-way-clause-passed : goal.returns-in_err-way-clause-passed
returns-in_err-way-clause-passed g c =
    handed_on c.from_residual.result _ _ c.from_residual.ensures.1
    (way_passed c.args.p.now _ _ _ (g.met.B.Basis.sound c.args.p.now c.args.basis.now c.requires.numbers) c.args.slot c.requires.slot c.basic_at-col.result c.basic_at-col.ensures c.in-Some.place c.in-Some-bound_at.bound c.value-value.result c.in-Some-bound_at.ensures c.value-value.ensures.number _
    (difference_passed c.value-value.result c.in-Some-bound_at.bound _ _ _ refl refl c.in_err-way.ensures.passed.0 (passes_from Sub _ _ _ c.in_err-way.ensures.passed.0 c.in_err-way.ensures.passed.1)))

pub ratio-requires : goal.ratio-requires
ratio-requires g c = record { entry = entry_there c.args.down c.index-entries-slot.result c.in-Some.place (sym c.in-Some.ensures) }

pub returns-in_err-ratio-clause-passed : goal.returns-in_err-ratio-clause-passed
returns-in_err-ratio-clause-passed g c =
    let within : c.args.slot < length c.args.entries.now = omega (arith, c.requires.slot, c.requires.places) in
    handed_on c.from_residual-in_err-ratio.result _ _ c.from_residual-in_err-ratio.ensures.1
    (value_ratio_passed c.args.p.now _ _ _ (g.met.B.Basis.sound c.args.p.now c.args.basis.now c.requires.numbers) c.args.slot c.requires.slot c.basic_at-col.result c.basic_at-col.ensures c.in-Some.place c.in-Some-bound_at.bound c.value-value.result c.in-Some-bound_at.ensures c.value-value.ensures.number
    c.requires.entries.0 c.requires.entries.1 c.args.entries.now c.requires.entries.2 c.in_ok-way.way c.index-entries-slot.result c.in_ok-way.ensures.value.1 (get_or_read c.args.entries.now c.args.slot _ within c.index-entries-slot.is zero_ℚ) (entry_there c.args.down c.index-entries-slot.result c.in-Some.place (sym c.in-Some.ensures)) _ c.in_err-ratio.ensures.passed)
