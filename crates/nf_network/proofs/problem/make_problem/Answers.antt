use Rattle.std.proofs.Common.{◌≤◌, ◌∙◌, length, get_or, ap, arith}
use Rattle.nf_network.specs.Excess.{balance_of, joined_below}
use Rattle.nf_network.specs.Faults.{most_arcs, most_nodes}
use Rattle.nf_network.specs.Keys.{no_key}
use Rattle.nf_network.specs.Making.{column_at, column_made, no_figures, nodes_program, with_excess}
use Rattle.nf_network.proofs.Lists.{joined-ones}
use Rattle.nf_network.proofs.MakingFacts.{excess-columns, excess-of, few-columns, made, of-arcs}
use Rattle.nf_network.proofs.problem.make_problem.Goals as goal

pub add_excess_arcs-requires-clause-of_arcs : goal.add_excess_arcs-requires-clause-of_arcs
add_excess_arcs-requires-clause-of_arcs c =
    let nodes = rw c.in_ok-builder.ensures at c.in_ok-add_nodes.ensures in
    let whole = rw (nodes, c.of-balance.ensures.balance) at c.in_ok-add_excess.ensures in
    let arcs = rw whole at c.in_ok-add_arcs.ensures in
    let size = joined-ones (length c.args.arcs.now.keys) (λ k. column_made c.args.options.now.maximize (get_or c.args.arcs.now.keys k no_key) (get_or c.args.arcs.now.figures.items k no_figures)) in
    let few : length c.args.arcs.now.nodes.given ≤ most_nodes = omega (arith, c.requires.even.same_length, c.requires.few_nodes) in
    let of = excess-of c.args.options.now.maximize (balance_of c.args.options.now.thrunet c.args.arcs.now.nodes.given) c.args.arcs.now.nodes.given few in
    let none = ap length (excess-columns c.args.options.now.maximize (balance_of c.args.options.now.thrunet c.args.arcs.now.nodes.given) c.args.arcs.now.nodes.given) in
    rw arcs (of-arcs (with_excess (nodes_program c.args.options.now.maximize c.args.arcs.now.nodes.given) (balance_of c.args.options.now.thrunet c.args.arcs.now.nodes.given) c.args.arcs.now.nodes.given)
    (joined_below (length c.args.arcs.now.keys) (column_at c.args.options.now.maximize c.args.arcs.now.keys c.args.arcs.now.figures.items)) of (omega (arith, size, none, of.arcs, c.requires.few_arcs)))

pub add_excess_arcs-requires-clause-few_columns : goal.add_excess_arcs-requires-clause-few_columns
add_excess_arcs-requires-clause-few_columns c =
    let nodes = rw c.in_ok-builder.ensures at c.in_ok-add_nodes.ensures in
    let whole = rw (nodes, c.of-balance.ensures.balance) at c.in_ok-add_excess.ensures in
    let arcs = rw whole at c.in_ok-add_arcs.ensures in
    let size = joined-ones (length c.args.arcs.now.keys) (λ k. column_made c.args.options.now.maximize (get_or c.args.arcs.now.keys k no_key) (get_or c.args.arcs.now.figures.items k no_figures)) in
    rw arcs (few-columns (with_excess (nodes_program c.args.options.now.maximize c.args.arcs.now.nodes.given) (balance_of c.args.options.now.thrunet c.args.arcs.now.nodes.given) c.args.arcs.now.nodes.given)
    (joined_below (length c.args.arcs.now.keys) (column_at c.args.options.now.maximize c.args.arcs.now.keys c.args.arcs.now.figures.items)) most_arcs
    (excess-columns c.args.options.now.maximize (balance_of c.args.options.now.thrunet c.args.arcs.now.nodes.given) c.args.arcs.now.nodes.given) (omega (arith, size, c.requires.few_arcs)))

pub returns : goal.returns
returns c =
    let nodes = rw c.in_ok-builder.ensures at c.in_ok-add_nodes.ensures in
    let whole = rw (nodes, c.of-balance.ensures.balance) at c.in_ok-add_excess.ensures in
    let arcs = rw whole at c.in_ok-add_arcs.ensures in
    (rw (arcs, c.of-balance.ensures.balance) at c.in_ok-add_excess_arcs.ensures)
    ∙ made c.args.options.now (joined_below (length c.args.arcs.now.keys) (column_at c.args.options.now.maximize c.args.arcs.now.keys c.args.arcs.now.figures.items)) c.args.arcs.now.nodes.given

pub add_arcs-requires-clause-of_arcs : goal.add_arcs-requires-clause-of_arcs
add_arcs-requires-clause-of_arcs c =
    let nodes = rw c.in_ok-builder.ensures at c.in_ok-add_nodes.ensures in
    let whole = rw (nodes, c.of-balance.ensures.balance) at c.in_ok-add_excess.ensures in
    let few : length c.args.arcs.now.nodes.given ≤ most_nodes = omega (arith, c.requires.even.same_length, c.requires.few_nodes) in
    rw whole (excess-of c.args.options.now.maximize (balance_of c.args.options.now.thrunet c.args.arcs.now.nodes.given) c.args.arcs.now.nodes.given few)
