use Rattle.std.proofs.Common.{◌∙◌, None, get_or, sym, ap, arith}
use Rattle.std.proofs.lemmas.List.{take_all}
use Rattle.nf_network.specs.Balanced.{with_value}
use Rattle.nf_network.specs.Excess.{balance_of}
use Rattle.nf_network.proofs.ExcessFacts.{balance-more}
use Rattle.nf_network.proofs.excess.Balance.of.Goals as goal

pub with-balance-requires : goal.with-balance-requires
with-balance-requires c =
    let inv = c.loop-i.invariant in
    omega (arith, inv.0, inv.1, inv.3, c.requires.few)

pub loop-i-preserved : goal.loop-i-preserved
loop-i-preserved c =
    let inv = c.loop-i.invariant in (
      inv.0,
      omega (arith, c.loop-i-test.true),
      c.with-balance.ensures.balance ∙ rw c.value.ensures (ap (λ b. with_value b (get_or c.args.nodes.now.given c.loop-i.i None)) inv.2)
          ∙ sym (balance-more c.args.thrunet c.args.nodes.now.given c.loop-i.i (omega (arith, inv.0, c.requires.even.same_length, c.loop-i-test.true))),
      omega (arith, inv.3, c.with-balance.ensures.within),
    )

pub returns : goal.returns
returns c =
    let inv = c.loop-i.invariant in
    record {
      balance = inv.2 ∙ ap (balance_of c.args.thrunet) (take_all c.loop-i.i c.args.nodes.now.given (omega (arith, inv.0, c.requires.even.same_length, c.loop-i-test.false)));
      within = omega (arith, inv.0, inv.1, inv.3, c.requires.few);
    }
