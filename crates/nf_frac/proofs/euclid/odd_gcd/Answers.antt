use Rattle.std.proofs.Common.{◌∙◌, sym, arith}
use mir.Syntax.{w64}
use Rattle.nf_num.proofs.Gcd.{gcd-zero}
use Rattle.nf_frac.proofs.Binary.{keeps_left, keeps_right, odd_part_odd}
use Rattle.nf_frac.proofs.euclid.odd_gcd.Goals as goal

pub loop-y-preserved-then-x-rest : goal.loop-y-preserved-then-x-rest
loop-y-preserved-then-x-rest c = record { odd = c.loop-y.invariant.odd; kept = keeps_left w64 c.loop-y.x c.loop-y.y c.loop-y.invariant.odd (omega arith) (omega arith) (omega arith) ∙ c.loop-y.invariant.kept }

pub loop-y-preserved : goal.loop-y-preserved
loop-y-preserved c = record { odd = odd_part_odd w64 c.loop-y.y (omega arith) (omega arith); kept = keeps_right w64 c.loop-y.x c.loop-y.y c.loop-y.invariant.odd (omega arith) (omega arith) (omega arith) ∙ c.loop-y.invariant.kept }

pub returns : goal.returns
returns c = sym (gcd-zero _ _ (omega arith)) ∙ c.loop-y.invariant.kept
