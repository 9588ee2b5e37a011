use Rattle.std.proofs.Common.{◌≡◌, ◌∙◌, false, nat_lt, sym, ap}
use Rattle.nf_cells.specs.Cells.{is_blank, value_of}
use Rattle.nf_cells.specs.Names.{has_name, with_name}
use Rattle.nf_cons.specs.declared.places.DataColumn.TheVariants.{Column}
use Rattle.nf_cons.specs.Variables.{Mention}
use Rattle.nf_cons.proofs.NamingFacts.{column-clear, column-fault, not-taken, place-tells-there}
use Rattle.nf_cons.proofs.header.take_column.Goals as goal

pub returns-in-Err : goal.returns-in-Err
returns-in-Err c =
    let m : Mention = record { variable = value_of c.args.cell.now; home = record { row = 0; place = Column c.args.column } } in
    let blank : is_blank (value_of c.args.cell.now) ≡ false = sym (c.is_missing.ensures.missing ∙ ap is_blank c.trimmed-name.ensures.value) ∙ c.if-is_missing.false in
    let taken : nat_lt c.in-Ok.taken c.len-before.result ≡ has_name (value_of c.args.cell.now) c.args.seen.now =
    rw (c.in-Ok.ensures.place, c.len-before.ensures.length, c.trimmed-name.ensures.value) (place-tells-there (value_of c.args.cell.now) c.args.seen.now) in
    column-fault c.args.header.now.variables c.args.seen.now m (nat_lt c.in-Ok.taken c.len-before.result) c.in-Err.fault blank taken (rw c.trimmed-name.ensures.value at c.in-Err.ensures.answer)

pub returns-in-Ok-push : goal.returns-in-Ok-push
returns-in-Ok-push c =
    let m : Mention = record { variable = value_of c.args.cell.now; home = record { row = 0; place = Column c.args.column } } in
    let blank : is_blank (value_of c.args.cell.now) ≡ false = sym (c.is_missing.ensures.missing ∙ ap is_blank c.trimmed-name.ensures.value) ∙ c.if-is_missing.false in
    let taken : nat_lt c.in-Ok.taken c.len-before.result ≡ has_name (value_of c.args.cell.now) c.args.seen.now =
    rw (c.in-Ok.ensures.place, c.len-before.ensures.length, c.trimmed-name.ensures.value) (place-tells-there (value_of c.args.cell.now) c.args.seen.now) in
    let named = rw c.trimmed-name.ensures.value at c.in-Ok-number.ensures.answer in
    let new : has_name (value_of c.args.cell.now) c.args.seen.now ≡ false = sym taken ∙ not-taken c.args.header.now.variables (nat_lt c.in-Ok.taken c.len-before.result) m named.clear in
    let seen : c.number.new.self ≡ with_name c.args.seen.now (value_of c.args.cell.now) = c.in-Ok.ensures.names ∙ ap (with_name c.args.seen.now) c.trimmed-name.ensures.value in
    (column-clear c.args.header.now.variables c.args.seen.now m (nat_lt c.in-Ok.taken c.len-before.result) blank taken named.clear, named.variables, rw new at seen, rw named.is at c.in-Ok-push.ensures.items)
