use Rattle.std.proofs.Common.{◌≡◌, ◌<◌, ◌+◌, ◌-◌, ◌∙◌, refl, length, take, get_or, pos, ap, arith}
use Rattle.std.proofs.lemmas.List.{take_all}
use Rattle.std.proofs.lemmas.List.Elements.{All-get_or}
use Rattle.nf_cons.specs.declared.taken.Coefficient.{Coefficient}
use Rattle.nf_cons.specs.Constrained.{column_of}
use Rattle.nf_cons.specs.Making.{IsPlaced}
use Rattle.nf_cons.proofs.EntryFacts.{coef-columns, coef-more, coef-new, coef-nodes, coef-rows, column-inside}
use Rattle.nf_cons.proofs.making.add_coefficients.Goals as goal

none : Coefficient
none = record { variable = 0; constraint = 0; value = record { thousandths = pos 0 } }

pub loop-k-init : goal.loop-k-init
loop-k-init c = (refl, ap length c.coefficients-k-end.ensures, c.arcs-arcs.ensures)

pub add_entry-requires-clause-column : goal.add_entry-requires-clause-column
unfolding none
add_entry-requires-clause-column c =
    let inv = c.loop-k.invariant in
    let v = c.args.constraints.now.variables in
    let cs = c.args.constraints.now.terms.coefficients in
    let below : c.loop-k.k < length c.args.constraints.now.terms.coefficients = omega (arith, inv.1, c.loop-k-test.true) in
    let here = All-get_or (IsPlaced (v.arcs.count + length v.nonarcs) (length c.args.constraints.now.sides.items)) cs c.loop-k.k none below c.requires.placed in
    let j = rw (c.coefficients.ensures, c.arcs-arcs.ensures) at c.column_number-j.ensures in
    let size = ap (λ p. length p.columns) inv.0 ∙ coef-columns v.arcs.count c.args.columns c.args.rows c.args.builder.now (take c.loop-k.k cs) in
    let inside = column-inside v.arcs.count c.args.columns (length v.nonarcs) (get_or cs c.loop-k.k none).variable c.requires.own here.0 in
    (omega (arith, j), omega (arith, j, size, inside, c.requires.wide))

pub add_entry-requires-clause-side_row : goal.add_entry-requires-clause-side_row
unfolding none
add_entry-requires-clause-side_row c =
    let inv = c.loop-k.invariant in
    let v = c.args.constraints.now.variables in
    let cs = c.args.constraints.now.terms.coefficients in
    let below : c.loop-k.k < length c.args.constraints.now.terms.coefficients = omega (arith, inv.1, c.loop-k-test.true) in
    let here = All-get_or (IsPlaced (v.arcs.count + length v.nonarcs) (length c.args.constraints.now.sides.items)) cs c.loop-k.k none below c.requires.placed in
    let some : 0 < length c.args.constraints.now.sides.items = omega (arith, here.1) in
    let nodes = ap (λ p. p.nodes) inv.0 ∙ coef-nodes v.arcs.count c.args.columns c.args.rows c.args.builder.now (take c.loop-k.k cs) in
    let rows = ap (λ p. length p.rows) inv.0 ∙ ap length (coef-rows v.arcs.count c.args.columns c.args.rows c.args.builder.now (take c.loop-k.k cs)) in
    let high = c.requires.sides some in
    rw c.coefficients.ensures (omega (arith, nodes, high), omega (arith, rows, here.1, c.requires.room))

pub add_entry-requires-clause-is_new : goal.add_entry-requires-clause-is_new
unfolding none
add_entry-requires-clause-is_new c =
    let inv = c.loop-k.invariant in
    let v = c.args.constraints.now.variables in
    let cs = c.args.constraints.now.terms.coefficients in
    let below : c.loop-k.k < length c.args.constraints.now.terms.coefficients = omega (arith, inv.1, c.loop-k-test.true) in
    let here = All-get_or (IsPlaced (v.arcs.count + length v.nonarcs) (length c.args.constraints.now.sides.items)) cs c.loop-k.k none below c.requires.placed in
    let some : 0 < length c.args.constraints.now.sides.items = omega (arith, here.1) in
    let j = rw (c.coefficients.ensures, c.arcs-arcs.ensures) at c.column_number-j.ensures in
    let column : c.column_number-j.result - 1 ≡ column_of v.arcs.count c.args.columns (get_or cs c.loop-k.k none).variable = omega (arith, j) in
    let row : c.args.rows + (get_or cs c.loop-k.k none).constraint + 1 - 1 ≡ c.args.rows + (get_or cs c.loop-k.k none).constraint = omega arith in
    rw (c.coefficients.ensures, inv.0, column, row)
    (coef-new v.arcs.count c.args.columns c.args.rows (length v.nonarcs) (length c.args.constraints.now.sides.items) c.args.builder.now cs c.loop-k.k none c.requires.own c.requires.wide c.requires.placed
    c.requires.apart below (c.requires.entries some))

pub loop-k-preserved : goal.loop-k-preserved
unfolding none
loop-k-preserved c =
    let inv = c.loop-k.invariant in
    let v = c.args.constraints.now.variables in
    let cs = c.args.constraints.now.terms.coefficients in
    let below : c.loop-k.k < length c.args.constraints.now.terms.coefficients = omega (arith, inv.1, c.loop-k-test.true) in
    let j = rw (c.coefficients.ensures, c.arcs-arcs.ensures) at c.column_number-j.ensures in
    let column : c.column_number-j.result - 1 ≡ column_of v.arcs.count c.args.columns (get_or cs c.loop-k.k none).variable = omega (arith, j) in
    let row : c.args.rows + (get_or cs c.loop-k.k none).constraint + 1 - 1 ≡ c.args.rows + (get_or cs c.loop-k.k none).constraint = omega arith in
    ((rw (c.amount_value.ensures, c.coefficients.ensures, inv.0, column, row) at c.in_ok-add_entry.ensures.added) ∙ coef-more v.arcs.count c.args.columns c.args.rows c.args.builder.now cs c.loop-k.k none below, inv.1, inv.2)

pub returns : goal.returns
returns c =
    let inv = c.loop-k.invariant in
    let whole = take_all c.loop-k.k c.args.constraints.now.terms.coefficients (omega (arith, inv.1, c.loop-k-test.false)) in
    rw whole at inv.0
