use Rattle.std.proofs.Common.{None, sym, arith}
use Rattle.std.proofs.lemmas.List.{take_all}
use Rattle.nf_network.specs.Excess.{is_met}
use Rattle.nf_network.proofs.Lists.{any-here, any-next}
use Rattle.nf_network.proofs.excess.Balance.is_met_any.Goals as goal

pub returns-then-is_met : goal.returns-then-is_met
returns-then-is_met c =
    let inv = c.loop-i.invariant in
    sym (any-here (is_met c.args.self) c.args.nodes.now.given c.loop-i.i None (omega (arith, inv.0, c.requires.same_length, c.loop-i-test.true)) inv.2 (rw c.value.ensures at (sym c.if-is_met.ensures)))

pub loop-i-preserved : goal.loop-i-preserved
loop-i-preserved c =
    let inv = c.loop-i.invariant in
    (inv.0, omega (arith, c.loop-i-test.true), any-next (is_met c.args.self) c.args.nodes.now.given c.loop-i.i None (omega (arith, inv.0, c.requires.same_length, c.loop-i-test.true)) inv.2 (rw c.value.ensures at (sym c.if-is_met.ensures)))

pub returns : goal.returns
returns c =
    let inv = c.loop-i.invariant in
    sym (rw (take_all c.loop-i.i c.args.nodes.now.given (omega (arith, inv.0, c.requires.same_length, c.loop-i-test.false))) at inv.2)
