use Rattle.std.proofs.Common.{◌≡◌, ℕ, ◌+◌, ◌-◌, ◌<◌, List, length, slice_index_or, sym, ap, ◌∙◌, subst, arith}
use Rattle.std.proofs.lemmas.List.{length_push}
use Rattle.nf_model.specs.Program.{LinearProgram, Entry, column}
use Rattle.nf_prob.proofs.Entries.{rise_below}
use Rattle.nf_prob.proofs.ColumnSums.{column_rises}
use Rattle.nf_test_simplex.proofs.widened.add_side.Goals as goal

fresh : (a row n m : ℕ) → a < n → a ≡ row - 1 → row ≡ m → m ≡ n + 1 → ⊥
fresh a row n m l e f g = omega arith

pub add_entry-requires-clause-is_new : goal.add_entry-requires-clause-is_new
add_entry-requires-clause-is_new c k d h e =
    let p = c.args.builder.now in
    let j = c.args.column - 1 in
    let added = c.in_ok-row.ensures.added in
    let same : (column c.add_row.new.self (c.args.column - 1)).entries ≡ (column c.args.builder.now (c.args.column - 1)).entries = ap (λ (q : LinearProgram). (column q (c.args.column - 1)).entries) added in
    let within : c.args.column - 1 < length p.columns = omega (arith, c.requires.column.0, c.requires.column.1) in
    fresh _ c.in_ok-row.row (length p.rows) _ (rise_below 0 (length p.rows) (column p j).entries k d (column_rises p j c.requires.problem within) (subst (λ (es : List Entry). k < length es) same h))
    (sym (ap (λ (es : List Entry). (slice_index_or es k d).row) same) ∙ e) c.in_ok-row.ensures.number (ap (λ (q : LinearProgram). length q.rows) added ∙ length_push p.rows _)

pub add_entry-requires-clause-side_row : goal.add_entry-requires-clause-side_row
add_entry-requires-clause-side_row c =
    let p = c.args.builder.now in
    let added = c.in_ok-row.ensures.added in
    let rows : length c.add_row.new.self.rows ≡ length c.args.builder.now.rows + 1 = ap (λ (q : LinearProgram). length q.rows) added ∙ length_push p.rows _ in
    let nodes : c.add_row.new.self.nodes ≡ c.args.builder.now.nodes = ap (λ (q : LinearProgram). q.nodes) added in
    let within = c.requires.problem.nodes_within in
    let number = c.in_ok-row.ensures.number in
    (omega (arith, rows, nodes, within, number), omega (arith, number))
