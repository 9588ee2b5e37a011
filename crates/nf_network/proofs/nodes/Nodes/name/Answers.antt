use Rattle.std.proofs.Common.{◌≡◌, ◌≤◌, ◌<◌, length, false, arith, rules}
use Rattle.std.specs.Str.{bytes_eq}
use Rattle.nf_cells.specs.Names.{with_name}
use Rattle.nf_network.specs.Faults.{excess, most_nodes}
use Rattle.nf_network.proofs.NodeFacts.{named-old, named-new}
use Rattle.nf_network.proofs.nodes.Nodes.name.Goals as goal

pub returns-then-number-len : goal.returns-then-number-len
returns-then-number-len c =
    let even : length c.self.inside.given.items ≡ length c.self.inside.names = rw (← c.self.view_is) at c.requires.even.same_length in
    let len = rw c.in-Ok.ensures.names at c.len.ensures in
    let small : length (with_name c.self.inside.names c.in-Is.name.now) ≤ most_nodes = omega (arith, len, c.if-len-gt-MOST_NODES.false) in
    let below : c.in-Ok.number < length c.self.inside.given.items = omega (arith, c.len-2.ensures, c.if-number-len.true) in
    let good : bytes_eq c.in-Is.name.now excess ≡ false = search rules in
    rw (c.in-Is.is, ← c.self.view_is, c.in-Ok.ensures.names)
    (named-old c.args.role record { names = c.self.inside.names; given = c.self.inside.given.items } c.in-Is.name.now c.in-Ok.number good c.in-Ok.ensures.place small below even)

pub returns : goal.returns
returns c =
    let even : length c.self.inside.given.items ≡ length c.self.inside.names = rw (← c.self.view_is) at c.requires.even.same_length in
    let len = rw c.in-Ok.ensures.names at c.len.ensures in
    let small : length (with_name c.self.inside.names c.in-Is.name.now) ≤ most_nodes = omega (arith, len, c.if-len-gt-MOST_NODES.false) in
    let below : length c.self.inside.given.items ≤ c.in-Ok.number = omega (arith, c.len-2.ensures, c.if-number-len.false) in
    let good : bytes_eq c.in-Is.name.now excess ≡ false = search rules in
    rw (c.in-Is.is, ← c.self.view_is, c.in-Ok.ensures.names, c.in-Ok-push.ensures.items)
    (named-new c.args.role record { names = c.self.inside.names; given = c.self.inside.given.items } c.in-Is.name.now c.in-Ok.number good c.in-Ok.ensures.place small below even)
