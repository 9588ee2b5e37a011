use Rattle.std.proofs.Common.{◌∙◌, length, get_or, inl, inr, sym}
use Rattle.nf_network.specs.Excess.{joined_below}
use Rattle.nf_network.specs.Keys.{no_key}
use Rattle.nf_network.specs.Making.{column_at, column_made, name_at, no_figures}
use Rattle.nf_network.specs.Network.{roles_or_none, table_or_none}
use Rattle.nf_network.specs.Rows.{arc_row}
use Rattle.nf_network.proofs.FitFacts.{fit}
use Rattle.nf_network.proofs.Lists.{joined-ones}
use Rattle.nf_network.proofs.NetworkFacts.{even, fault-is, keys-length, network-is, sound}
use Rattle.nf_network.proofs.PassFacts.{map-length}
use Rattle.nf_network.proofs.TextFacts.{labels-due}
use Rattle.nf_network.proofs.network_data.network.Goals as goal

pub returns-in-Err-clause-answer : goal.returns-in-Err-clause-answer
returns-in-Err-clause-answer c = elim c.in-Err.ensures [
  | inl m ↦ inl m
  | inr h ↦ inr (fault-is c.args.options.now c.args.arc_roles.now c.args.arc_table.now (roles_or_none c.args.node_roles) (table_or_none c.args.node_table) c.in-Err.fault h)
]

pub make_problem-requires : goal.make_problem-requires
make_problem-requires c = sound c.args.options.now c.args.arc_roles.now c.args.arc_table.now (roles_or_none c.args.node_roles) (table_or_none c.args.node_table) _ _ _ c.in-Ok.ensures.0 c.in-Ok.ensures.1

pub make_labels-requires-clause-sound : goal.make_labels-requires-clause-sound
make_labels-requires-clause-sound c = sound c.args.options.now c.args.arc_roles.now c.args.arc_table.now (roles_or_none c.args.node_roles) (table_or_none c.args.node_table) _ _ _ c.in-Ok.ensures.0 c.in-Ok.ensures.1

pub returns-in-Ok-make_labels-clause-answer : goal.returns-in-Ok-make_labels-clause-answer
returns-in-Ok-make_labels-clause-answer c =
    rw (c.in-Ok-make_problem.ensures, c.in-Ok-make_labels.ensures) (network-is c.args.options.now c.args.arc_roles.now c.args.arc_table.now (roles_or_none c.args.node_roles) (table_or_none c.args.node_table) c.in-Ok.arcs.nodes c.in-Ok.arcs.keys c.in-Ok.arcs.figures.items c.in-Ok.ensures.0 c.in-Ok.ensures.1)

pub returns-in-Ok-make_labels-clause-fit : goal.returns-in-Ok-make_labels-clause-fit
returns-in-Ok-make_labels-clause-fit c =
    let ks = c.in-Ok.arcs.keys in
    let fs = c.in-Ok.arcs.figures.items in
    let columns = joined-ones (length c.in-Ok.arcs.keys) (λ k. column_made c.args.options.now.maximize (get_or c.in-Ok.arcs.keys k no_key) (get_or c.in-Ok.arcs.figures.items k no_figures)) in
    let names = joined-ones (length c.in-Ok.arcs.keys) (λ k. (get_or c.in-Ok.arcs.keys k no_key).name) in
    let rows = keys-length c.args.options.now c.args.arc_roles.now c.args.arc_table.now (roles_or_none c.args.node_roles) (table_or_none c.args.node_table) c.in-Ok.arcs.nodes c.in-Ok.arcs.keys c.in-Ok.arcs.figures.items c.in-Ok.ensures.0 c.in-Ok.ensures.1 ∙ map-length (arc_row c.args.arc_roles.now) c.args.arc_table.now.rows in
    let values = even c.args.options.now c.args.arc_roles.now c.args.arc_table.now (roles_or_none c.args.node_roles) (table_or_none c.args.node_table) c.in-Ok.arcs.nodes c.in-Ok.arcs.keys c.in-Ok.arcs.figures.items c.in-Ok.ensures.0 c.in-Ok.ensures.1 in
    let due = network-is c.args.options.now c.args.arc_roles.now c.args.arc_table.now (roles_or_none c.args.node_roles) (table_or_none c.args.node_table) c.in-Ok.arcs.nodes c.in-Ok.arcs.keys c.in-Ok.arcs.figures.items c.in-Ok.ensures.0 c.in-Ok.ensures.1 in
    rw (c.in-Ok-make_problem.ensures, c.in-Ok-make_labels.ensures)
    (labels-due c.args.options.now c.args.arc_roles.now c.args.arc_table.now (roles_or_none c.args.node_roles) (table_or_none c.args.node_table) _ due
    (fit c.args.options.now (joined_below (length c.in-Ok.arcs.keys) (column_at c.args.options.now.maximize c.in-Ok.arcs.keys c.in-Ok.arcs.figures.items)) c.in-Ok.arcs.nodes.given c.in-Ok.arcs.nodes.names
    (joined_below (length c.in-Ok.arcs.keys) (name_at c.in-Ok.arcs.keys)) c.args.arc_roles.now.ids c.args.arc_table.now values (columns ∙ sym names) (names ∙ rows))
    (record { text = c.width-width.ensures.text; own = c.width-width.ensures.names; below = c.requires.arc_columns.ids; left = c.ids-ids.ensures.from_left }))
