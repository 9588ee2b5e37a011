use Rattle.std.proofs.Common.{◌≡◌, false, sym, rules}
use Rattle.nf_network.specs.Excess.{has_excess}
use Rattle.nf_network.proofs.MakingFacts.{arcs-none, no-excess}
use Rattle.nf_network.proofs.problem.add_excess_arcs.Goals as goal

pub returns-then-not-has_excess : goal.returns-then-not-has_excess
returns-then-not-has_excess c =
    let none : has_excess c.args.balance c.args.nodes.now.given ≡ false = search rules in
    rw (no-excess c.args.balance c.args.nodes.now.given none) (sym (arcs-none c.args.builder.now))
