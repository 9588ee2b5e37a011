use Rattle.std.proofs.Common.{◌≡◌, sym, ◌∙◌, arith}
use Rattle.nf_num.specs.Rational.{◌+ℚ◌, ◌*ℚ◌}
use Rattle.nf_sums.proofs.Zero.{zero_left, zero_right}
use Rattle.nf_inverse.specs.Weights.{at, weight}
use Rattle.nf_inverse.proofs.Lists.{next_place}
use Rattle.nf_inverse.proofs.inverse.Inverse.add_column.Goals as goal

pub returns-then-is_zero-clause-value : goal.returns-then-is_zero-clause-value
returns-then-is_zero-clause-value g c = λ s h. zero_right (at c.args.total.now s) (weight c.args.self.now s c.args.row) c.args.factor (c.is_zero.ensures.0 c.if-is_zero.true)

pub loop-s-preserved-then-is_zero-2 : goal.loop-s-preserved-then-is_zero-2
loop-s-preserved-then-is_zero-2 g c =
    let k = c.loop-s.s in
    record {
      done = next_place (λ j. at c.loop-s.total j ≡ at c.args.total.now j +ℚ weight c.args.self.now j c.args.row *ℚ c.args.factor) k c.loop-s.invariant.done
          (c.loop-s.invariant.left k (omega arith) ∙ zero_left (at c.args.total.now k) (weight c.args.self.now k c.args.row) c.args.factor (sym c.weight-weight.ensures ∙ c.is_zero-in-loop-s.ensures.0 c.if-is_zero-2.true));
      left = λ j h. c.loop-s.invariant.left j (omega arith);
      cost = omega (arith, c.loop-s.invariant.cost);
    }
