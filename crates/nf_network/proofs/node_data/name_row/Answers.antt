use Rattle.std.proofs.Common.{◌≡◌, false, true, ap, arith, rules}
use Rattle.std.specs.Str.{bytes_eq}
use Rattle.nf_cells.specs.Values.{cell_now}
use Rattle.nf_cells.specs.Names.{has_name}
use Rattle.nf_cells.proofs.SeenFacts.{place-other}
use Rattle.nf_network.specs.Faults.{excess}
use Rattle.nf_network.proofs.NodePassFacts.{absent-if, name-fault, name-repeated, named-row}
use Rattle.nf_network.proofs.node_data.name_row.Goals as goal

pub returns-then-place-before : goal.returns-then-place-before
returns-then-place-before c =
    let good : bytes_eq c.in-Is.name.now excess ≡ false = search rules in
    let there : has_name c.in-Is.name.now c.args.seen.now ≡ true =
    place-other c.in-Is.name.now c.args.seen.now (λ e. omega (arith, e, c.in-Ok.ensures.place, c.len-before.ensures, c.if-place-before.true)) in
    rw c.in-Is.is (name-repeated c.args.nodes.now.names c.args.seen.now c.in-Is.name.now good there)

pub returns-in-Err : goal.returns-in-Err
returns-in-Err c =
    let good : bytes_eq c.in-Is.name.now excess ≡ false = search rules in
    let absent : has_name c.in-Is.name.now c.args.seen.now ≡ false =
    absent-if c.in-Is.name.now c.args.seen.now (omega (arith, c.in-Ok.ensures.place, c.len-before.ensures, c.if-place-before.false)) in
    rw c.in-Is.is (name-fault c.args.nodes.now.names c.args.seen.now c.in-Is.name.now c.in-Err.fault good absent (rw c.in-Is.is at c.in-Err.ensures))

pub returns-in-Ok-name : goal.returns-in-Ok-name
returns-in-Ok-name c =
    let good : bytes_eq c.in-Is.name.now excess ≡ false = search rules in
    let absent : has_name c.in-Is.name.now c.args.seen.now ≡ false =
    absent-if c.in-Is.name.now c.args.seen.now (omega (arith, c.in-Ok.ensures.place, c.len-before.ensures, c.if-place-before.false)) in
    named-row c.args.nodes.now c.args.seen.now c.in-Is.name.now c.args.cell _ _ _ (ap cell_now c.in-Is.is) good absent c.in-Ok-name.ensures c.in-Ok.ensures.names
