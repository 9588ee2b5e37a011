use Rattle.nf_network.specs.Network.{roles_or_none, table_or_none}
use Rattle.nf_network.specs.Rows.{arc_rows, node_rows}
use Rattle.nf_network.proofs.ReadFacts.{all-clear, options-told, options-whole}
use Rattle.std.proofs.Common.{inl, inr}
use Rattle.nf_network.proofs.data_sets.read_network.Goals as goal

pub returns-in-Ok-give_options : goal.returns-in-Ok-give_options
returns-in-Ok-give_options c =
    let read = rw c.defaults_of-defaults.ensures at c.in-Ok.ensures in
    let h = c.in-Ok-give_options.ensures in
    (all-clear c.args.options.now c.args.arc_roles.now c.args.arc_table.now (roles_or_none c.args.node_roles) (table_or_none c.args.node_table) read.0 _ _ _ read.1 h.0, rw h.1 (options-whole c.args.options.now (arc_rows c.args.arc_roles.now c.args.arc_table.now.rows) (node_rows (roles_or_none c.args.node_roles) (table_or_none c.args.node_table).rows) _ _ _ read.1 h.0))

pub returns-in-Err-give_options : goal.returns-in-Err-give_options
returns-in-Err-give_options c =
    let read = rw c.defaults_of-defaults.ensures at c.in-Ok.ensures in
    elim c.in-Err-give_options.ensures [
      | inl m ↦ inl m
      | inr h ↦ inr (options-told c.args.options.now c.args.arc_roles.now c.args.arc_table.now (roles_or_none c.args.node_roles) (table_or_none c.args.node_table) read.0 _ _ _ read.1 _ h)
    ]
