use Rattle.std.proofs.Common.{◌∙◌, arith}
use Rattle.std.proofs.Math.Seq.{take-add}
use Rattle.std.proofs.Math.Nat.{le_trans}
use Rattle.std.proofs.lemmas.List.{take_rest}
use Rattle.nf_io.proofs.KnownFacts.{appends-more}
use Rattle.nf_io.proofs.whole.write_all.Goals as goal

pub loop-at-preserved : goal.loop-at-preserved
loop-at-preserved g c =
    let inv = c.loop-at.invariant in
    let put = rw take_rest at c.in_ok-at.ensures in
    record {
      later = le_trans inv.later c.in_ok-at.ensures.cause.later;
      quiet = put.quiet ∙ inv.quiet;
      same = λ calm. put.calm (inv.quiet ∙ calm) ∙ inv.same calm;
      within = omega (arith, c.loop-at-test.true, c.in_ok-at.ensures.bound);
      bytes = rw take-add (appends-more _ _ _ _ _ inv.bytes put.bytes);
      told = c.in_ok-at.ensures.told ∙ inv.told;
    }
