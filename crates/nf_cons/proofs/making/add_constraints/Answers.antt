use Rattle.std.proofs.Common.{◌++◌, ◌∙◌, length, map, pos, ap, arith}
use Rattle.std.proofs.lemmas.List.{length-append}
use Rattle.std.proofs.lemmas.List.Elements.{All-append}
use Rattle.std.specs.List.{All}
use Rattle.nf_network.specs.Excess.{joined_below}
use Rattle.nf_network.proofs.PassFacts.{map-length}
use Rattle.nf_cons.specs.declared.taken.Coefficient.{Coefficient}
use Rattle.nf_cons.specs.Constrained.{nonarc_column_at, side_row, with_columns, with_rows}
use Rattle.nf_cons.specs.Making.{HasEntriesBelow, before}
use Rattle.nf_cons.proofs.FilledFacts.{filled}
use Rattle.nf_cons.proofs.MakingFacts.{before-least, before-most, before-some, nonarcs-empty, nonarcs-length, same-coefs}
use Rattle.nf_cons.proofs.making.add_constraints.Goals as goal

no_coefficient : Coefficient
no_coefficient = record { variable = 0; constraint = 0; value = record { thousandths = pos 0 } }

pub add_sides-requires-clause-few_columns : goal.add_sides-requires-clause-few_columns
add_sides-requires-clause-few_columns c =
    let v = c.args.constraints.now.variables in
    let ls = c.args.constraints.now.terms in
    let size = ap (λ p. length p.columns) c.in_ok-columns.ensures.columns ∙ length-append c.args.builder.now.columns (joined_below (length v.nonarcs) (nonarc_column_at c.args.options.now v.arcs.count ls)) in
    let ones = nonarcs-length c.args.options.now v.arcs.count ls (length v.nonarcs) in
    omega (arith, size, ones, c.requires.plain.few_columns, c.requires.ready.sound.few_nonarcs)

pub add_coefficients-requires-clause-few_rows : goal.add_coefficients-requires-clause-few_rows
add_coefficients-requires-clause-few_rows c =
    let rows = ap (λ p. length p.rows) c.in_ok-columns.ensures.columns in
    rw (c.in_ok-rows.ensures.before, rows) (before-most (length c.args.constraints.now.sides.items) 0 (length c.args.builder.now.rows) 1048576 (omega arith) c.requires.plain.few_rows)

pub add_coefficients-requires-clause-few_columns : goal.add_coefficients-requires-clause-few_columns
add_coefficients-requires-clause-few_columns c =
    let v = c.args.constraints.now.variables in
    rw c.in_ok-columns.ensures.before
    (before-most (length v.nonarcs) v.arcs.count (length c.args.builder.now.columns) 1048576 (omega (arith, c.requires.arcs, c.requires.plain.own_arcs, c.requires.plain.few_columns)) c.requires.plain.few_columns)

pub add_coefficients-requires-clause-room : goal.add_coefficients-requires-clause-room
add_coefficients-requires-clause-room c =
    let sides = c.args.constraints.now.sides.items in
    let rows = ap (λ p. length p.rows) c.in_ok-columns.ensures.columns in
    let size = ap (λ p. length p.rows) c.in_ok-rows.ensures.rows ∙ length-append c.add_nonarcs.new.builder.rows (map side_row sides) in
    let mapped = map-length side_row sides in
    let first = c.in_ok-rows.ensures.before in
    let most = before-most (length sides) 0 (length c.add_nonarcs.new.builder.rows) (length c.add_nonarcs.new.builder.rows) (omega arith) (omega arith) in
    omega (arith, first, most, size, mapped)

pub add_coefficients-requires-clause-sides : goal.add_coefficients-requires-clause-sides
add_coefficients-requires-clause-sides c = λ some.
    let sides = c.args.constraints.now.sides.items in
    let rows = ap (λ p. length p.rows) c.in_ok-columns.ensures.columns in
    let nodes = ap (λ p. p.nodes) c.in_ok-rows.ensures.rows ∙ ap (λ p. p.nodes) c.in_ok-columns.ensures.columns in
    let first = c.in_ok-rows.ensures.before ∙ before-some (length sides) 0 (length c.add_nonarcs.new.builder.rows) some in
    omega (arith, first, rows, nodes, c.requires.plain.no_sides)

pub add_coefficients-requires-clause-own : goal.add_coefficients-requires-clause-own
add_coefficients-requires-clause-own c =
    let v = c.args.constraints.now.variables in
    rw c.in_ok-columns.ensures.before (before-least (length v.nonarcs) v.arcs.count (length c.args.builder.now.columns) v.arcs.count (omega arith) (omega (arith, c.requires.arcs, c.requires.plain.own_arcs)))

pub add_coefficients-requires-clause-wide : goal.add_coefficients-requires-clause-wide
add_coefficients-requires-clause-wide c =
    let v = c.args.constraints.now.variables in
    let ls = c.args.constraints.now.terms in
    let columns = ap (λ p. length p.columns) c.in_ok-rows.ensures.rows in
    let size = ap (λ p. length p.columns) c.in_ok-columns.ensures.columns ∙ length-append c.args.builder.now.columns (joined_below (length v.nonarcs) (nonarc_column_at c.args.options.now v.arcs.count ls)) in
    let ones = nonarcs-length c.args.options.now v.arcs.count ls (length v.nonarcs) in
    let first = c.in_ok-columns.ensures.before in
    let most = before-most (length v.nonarcs) v.arcs.count (length c.args.builder.now.columns) (length c.args.builder.now.columns) (omega (arith, c.requires.arcs, c.requires.plain.own_arcs)) (omega arith) in
    omega (arith, columns, size, ones, first, most)

pub add_coefficients-requires-clause-entries : goal.add_coefficients-requires-clause-entries
add_coefficients-requires-clause-entries c = λ some.
    let v = c.args.constraints.now.variables in
    let ls = c.args.constraints.now.terms in
    let sides = c.args.constraints.now.sides.items in
    let rows = ap (λ p. length p.rows) c.in_ok-columns.ensures.columns in
    let first = c.in_ok-rows.ensures.before ∙ before-some (length sides) 0 (length c.add_nonarcs.new.builder.rows) some ∙ rows in
    let columns = ap (λ p. p.columns) c.in_ok-rows.ensures.rows ∙ ap (λ p. p.columns) c.in_ok-columns.ensures.columns in
    let all : All (HasEntriesBelow (length c.args.builder.now.rows)) (c.args.builder.now.columns ++ joined_below (length v.nonarcs) (nonarc_column_at c.args.options.now v.arcs.count ls)) =
    All-append (HasEntriesBelow (length c.args.builder.now.rows)) c.args.builder.now.columns (joined_below (length v.nonarcs) (nonarc_column_at c.args.options.now v.arcs.count ls)) c.requires.plain.entries
    (nonarcs-empty c.args.options.now v.arcs.count ls (length c.args.builder.now.rows) (length v.nonarcs)) in
    rw (first, columns) all

pub returns-clause-program : goal.returns-clause-program
returns-clause-program c =
    let v = c.args.constraints.now.variables in
    let ls = c.args.constraints.now.terms in
    let sides = c.args.constraints.now.sides.items in
    let rows = ap (λ p. length p.rows) c.in_ok-columns.ensures.columns in
    let first = c.in_ok-rows.ensures.before ∙ ap (λ n. before (length sides) 0 n) rows in
    let base = c.in_ok-rows.ensures.rows ∙ ap (λ p. with_rows p (map side_row sides)) c.in_ok-columns.ensures.columns in
    let whole = with_rows (with_columns c.args.builder.now (joined_below (length v.nonarcs) (nonarc_column_at c.args.options.now v.arcs.count ls))) (map side_row sides) in
    let size = length-append c.args.builder.now.columns (joined_below (length v.nonarcs) (nonarc_column_at c.args.options.now v.arcs.count ls)) in
    let ones = nonarcs-length c.args.options.now v.arcs.count ls (length v.nonarcs) in
    let all : All (HasEntriesBelow (length c.args.builder.now.rows)) (c.args.builder.now.columns ++ joined_below (length v.nonarcs) (nonarc_column_at c.args.options.now v.arcs.count ls)) =
    All-append (HasEntriesBelow (length c.args.builder.now.rows)) c.args.builder.now.columns (joined_below (length v.nonarcs) (nonarc_column_at c.args.options.now v.arcs.count ls)) c.requires.plain.entries
    (nonarcs-empty c.args.options.now v.arcs.count ls (length c.args.builder.now.rows) (length v.nonarcs)) in
    rw (← c.requires.arcs)
    ((rw (c.in_ok-columns.ensures.before, first, base) at c.in_ok-add_coefficients.ensures)
    ∙ same-coefs v.arcs.count (length c.args.builder.now.columns) (length c.args.builder.now.rows) (length v.nonarcs) (length sides) whole ls.coefficients c.requires.ready.placed
    ∙ filled v.arcs.count (length c.args.builder.now.columns) (length c.args.builder.now.rows) (length v.nonarcs) (length sides) whole ls.coefficients (omega (arith, c.requires.arcs, c.requires.plain.own_arcs))
    (omega (arith, size, ones)) c.requires.ready.placed c.requires.ready.apart (λ some. all) no_coefficient)
