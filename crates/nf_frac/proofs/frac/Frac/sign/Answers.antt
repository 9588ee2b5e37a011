use Rattle.std.proofs.Common.{ℤ, pos, subst}
use Rattle.nf_num.specs.Rational.{numer}
use Rattle.nf_frac.specs.Compared.{IsIntOrder}
use Rattle.nf_frac.proofs.Fields.{back_is}
use Rattle.nf_frac.proofs.Order.{by_sign}
use Rattle.nf_frac.proofs.frac.Frac.sign.Goals as goal

pub returns : goal.returns
returns c =
    by_sign c.compare_whole.result c.args.self
    (subst (λ (z : ℤ). IsIntOrder c.compare_whole.result z (pos 0)) (back_is _ (numer c.args.self) c.parts-num.ensures.range.num_in_range c.parts-num.ensures.num) c.compare_whole.ensures)
