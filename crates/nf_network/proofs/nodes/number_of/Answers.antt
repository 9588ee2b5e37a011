use Rattle.std.proofs.Common.{◌≡◌, ◌<◌, true, [], length, get_or, refl, sym, ap, ◌∙◌, arith, rules}
use Rattle.nf_cells.specs.Names.{has_name, place_of}
use Rattle.nf_network.proofs.NodeFacts.{has-at, place-once}
use Rattle.nf_network.proofs.nodes.number_of.Goals as goal

pub returns-in-Some-clause-place : goal.returns-in-Some-clause-place
returns-in-Some-clause-place c =
    let below : c.in-Some.number < length c.args.names.now = omega (arith, c.len.ensures.length, c.if-number-len.true) in
    let same : c.get.result.now ≡ c.args.name.now = search rules in
    let is : c.args.name.now ≡ get_or c.args.names.now c.in-Some.number [] = sym same ∙ c.get.ensures.name in
    sym (ap (λ n. place_of n c.args.names.now) is ∙ place-once c.args.names.now c.in-Some.number c.requires below)

pub returns-in-Some-clause-names : goal.returns-in-Some-clause-names
returns-in-Some-clause-names c =
    let below : c.in-Some.number < length c.args.names.now = omega (arith, c.len.ensures.length, c.if-number-len.true) in
    let same : c.get.result.now ≡ c.args.name.now = search rules in
    let is : c.args.name.now ≡ get_or c.args.names.now c.in-Some.number [] = sym same ∙ c.get.ensures.name in
    let there : has_name c.args.name.now c.args.names.now ≡ true = ap (λ n. has_name n c.args.names.now) is ∙ has-at c.args.names.now c.in-Some.number below in
    rw there refl
