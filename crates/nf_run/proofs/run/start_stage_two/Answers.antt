use Rattle.std.proofs.Common.{sym, subst}
use Rattle.nf_run.specs.Turns.{StartsTwo}
use Rattle.nf_run.proofs.run.start_stage_two.Goals as goal

pub returns-in-Ok-widen-clause-starts : goal.returns-in-Ok-widen-clause-starts
returns-in-Ok-widen-clause-starts g c =
    let p = c.args.p.now in
    let s = g.B.Basis.standing c.args.first in
    subst (StartsTwo p s) (sym c.in-Ok-widen.ensures.standing)
    (record {
      values = g.B.Basis.values p c.args.first;
      are_values = (g.met.B.Basis.sound p c.args.first c.requires.ready.numbers).values;
      second = c.in-Ok.ensures.second;
    })
