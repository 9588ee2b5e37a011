use Rattle.std.proofs.Common.{◌∙◌, sym, ap, ◌-◌}
use Rattle.nf_prob.specs.Building.{with_entry}
use Rattle.nf_prob.proofs.Storing.{number_within, stored_kept, kept_program, stored_entered, with_entry_is, of_each_error}
use Rattle.nf_prob.proofs.builder.ProblemBuilder.add_entry.Goals as goal

pub invariant_of-self : goal.invariant_of-self
invariant_of-self c =
    let s = c.self.inside in
    stored_kept s.columns.items s.rows.items s.nodes s.arcs s.maximize (c.args.j - 1) c.index_mut-column.result.now _ (number_within s.columns.items s.rows.items s.nodes s.arcs s.maximize c.args.j _ c.self.view_is c.requires.column) c.index_mut-column.ensures.value c.in_err-insert_entry.ensures.kept c.self.invariant

pub returns-in_err-insert_entry-clause-kept : goal.returns-in_err-insert_entry-clause-kept
returns-in_err-insert_entry-clause-kept c =
    let s = c.self.inside in
    of_each_error _ _ (λ e. kept_program s.columns.items s.rows.items s.nodes s.arcs s.maximize (c.args.j - 1) c.index_mut-column.result.now _ _ c.self.view_is (number_within s.columns.items s.rows.items s.nodes s.arcs s.maximize c.args.j _ c.self.view_is c.requires.column) c.index_mut-column.ensures.value c.in_err-insert_entry.ensures.kept)

pub invariant_of-self-2 : goal.invariant_of-self-2
invariant_of-self-2 c =
    let s = c.self.inside in
    stored_entered s.columns.items s.rows.items s.nodes s.arcs s.maximize (c.args.j - 1) c.args.row c.args.value c.index_mut-column.result.now _ _ c.self.view_is (number_within s.columns.items s.rows.items s.nodes s.arcs s.maximize c.args.j _ c.self.view_is c.requires.column) c.index_mut-column.ensures.value c.requires.side_row.0 c.requires.side_row.1 c.requires.is_new c.in_ok-insert_entry.ensures.added c.insert_entry.ensures.numbered c.self.invariant

pub returns-clause-added : goal.returns-clause-added
returns-clause-added c =
    let s = c.self.inside in
    sym (with_entry_is s.columns.items s.rows.items s.nodes s.arcs s.maximize (c.args.j - 1) (c.args.row - 1) c.args.value c.index_mut-column.result.now _ (number_within s.columns.items s.rows.items s.nodes s.arcs s.maximize c.args.j _ c.self.view_is c.requires.column) c.index_mut-column.ensures.value c.in_ok-insert_entry.ensures.added)
    ∙ ap (λ q. with_entry q (c.args.j - 1) (c.args.row - 1) c.args.value) c.self.view_is
