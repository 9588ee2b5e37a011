use Rattle.std.proofs.Common.{◌≡◌, ◌<◌, length, sym, ◌∙◌, arith}
use Rattle.std.proofs.lemmas.List.{get_or_read}
use Rattle.nf_sums.proofs.Up.{handed_on}
use Rattle.nf_sums.proofs.Zero.{zero_left, zero_right}
use Rattle.nf_num.specs.Rational.{◌+ℚ◌, ◌*ℚ◌}
use Rattle.nf_inverse.specs.Weights.{at}
use Rattle.nf_inverse.proofs.Lists.{adds_same, next_place}
use Rattle.nf_inverse.proofs.rows.add_multiple.Goals as goal

pub returns-then-is_zero-clause-value : goal.returns-then-is_zero-clause-value
returns-then-is_zero-clause-value g c = λ k h. zero_right (at c.args.total.now k) (at c.args.a.now k) c.args.factor (c.is_zero.ensures.0 c.if-is_zero.true)

pub returns-in_err-total-clause-passed : goal.returns-in_err-total-clause-passed
returns-in_err-total-clause-passed g c =
    let within : c.loop-k.k < length c.args.total.now = omega arith in
    let now : c.loop-k.k < length c.loop-k.total = omega arith in
    let there : c.loop-k.k < length c.args.a.now = omega (arith, c.requires) in
    handed_on c.from_residual.result _ _ c.from_residual.ensures.1
    (c.loop-k.k, within, adds_same _ _ _ _ _ _ (get_or_read c.loop-k.total c.loop-k.k _ now c.index-total-k.is _ ∙ c.loop-k.invariant.left c.loop-k.k (omega arith)) (get_or_read c.args.a.now c.loop-k.k _ there c.index-a-k-in-loop-k.is _) c.in_err-total.ensures.passed)

pub loop-k-preserved-then-is_zero-2 : goal.loop-k-preserved-then-is_zero-2
loop-k-preserved-then-is_zero-2 g c =
    let k = c.loop-k.k in
    let there : c.loop-k.k < length c.args.a.now = omega (arith, c.requires) in
    record {
      done = next_place (λ j. at c.loop-k.total j ≡ at c.args.total.now j +ℚ at c.args.a.now j *ℚ c.args.factor) k c.loop-k.invariant.done
          (c.loop-k.invariant.left k (omega arith) ∙ zero_left (at c.args.total.now k) (at c.args.a.now k) c.args.factor (sym (get_or_read c.args.a.now k _ there c.index-a-k.is _) ∙ c.is_zero-in-loop-k.ensures.0 c.if-is_zero-2.true));
      left = λ j h. c.loop-k.invariant.left j (omega arith);
      cost = omega (arith, c.loop-k.invariant.cost);
    }
