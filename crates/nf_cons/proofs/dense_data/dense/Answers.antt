use Rattle.std.proofs.Common.{◌∙◌, arith}
use Rattle.nf_network.specs.Network.{Network}
use Rattle.nf_cons.specs.Variables.{arcs_of}
use Rattle.nf_cons.proofs.DueFacts.{arcs-number, constrained-fit, dense-answered, dense-ordered, dense-told}
use Rattle.nf_cons.proofs.PlainFacts.{plain-of}
use Rattle.nf_cons.proofs.TextFacts.{dense-labels}
use Rattle.nf_cons.proofs.dense_data.dense.Goals as goal

pub read_dense-requires-clause-arcs : goal.read_dense-requires-clause-arcs
read_dense-requires-clause-arcs c =
    let plain = plain-of c.args.options.now (record { program = c.args.builder.now; labels = c.args.labels.now }) c.requires.network in
    omega (arith, plain.own_arcs, plain.numbered.columns)

pub returns-in-Err-clause-answer : goal.returns-in-Err-clause-answer
returns-in-Err-clause-answer c =
    dense-told c.args.options.now (record { program = c.args.builder.now; labels = c.args.labels.now }) c.args.roles.now c.args.table.now c.in-Err.fault c.told.result c.in-Err.ensures c.told.ensures.answer c.told.ensures.memory

pub add_constraints-requires-clause-plain : goal.add_constraints-requires-clause-plain
add_constraints-requires-clause-plain c = plain-of c.args.options.now (record { program = c.args.builder.now; labels = c.args.labels.now }) c.requires.network

pub add_constraints-requires-clause-arcs : goal.add_constraints-requires-clause-arcs
add_constraints-requires-clause-arcs c =
    let plain = plain-of c.args.options.now (record { program = c.args.builder.now; labels = c.args.labels.now }) c.requires.network in
    c.in-Ok.ensures.1.arcs_are ∙ arcs-number c.args.labels.now (omega (arith, plain.own_arcs, plain.numbered.columns))

pub add_constraints-requires-clause-in_order : goal.add_constraints-requires-clause-in_order
add_constraints-requires-clause-in_order c =
    dense-ordered c.args.options.now (arcs_of c.args.labels.now) c.args.roles.now c.args.table.now c.in-Ok.ensures.0 _ _ _ _ c.in-Ok.ensures.1

pub returns-in-Ok-add_constraints-clause-answer : goal.returns-in-Ok-add_constraints-clause-answer
returns-in-Ok-add_constraints-clause-answer c =
    let e = c.in-Ok.ensures.1 in
    dense-answered c.args.options.now (record { program = c.args.builder.now; labels = c.args.labels.now }) c.args.roles.now c.args.table.now c.in-Ok.ensures.0 _ _ _ _ e
    (record { program = c.add_constraints.new.builder; labels = c.add_constraints.new.labels }) c.in-Ok-add_constraints.ensures.program c.in-Ok-add_constraints.ensures.labels

pub returns-in-Ok-add_constraints-clause-fit : goal.returns-in-Ok-add_constraints-clause-fit
returns-in-Ok-add_constraints-clause-fit c =
    let n : Network = record { program = c.args.builder.now; labels = c.args.labels.now } in
    rw (c.in-Ok-add_constraints.ensures.program, c.in-Ok-add_constraints.ensures.labels)
    (constrained-fit c.args.options.now n (plain-of c.args.options.now n c.requires.network) c.in-Ok.constraints.variables c.in-Ok.constraints.names c.in-Ok.constraints.sides.items c.in-Ok.constraints.terms)

pub returns-in-Ok-add_constraints-clause-labelled : goal.returns-in-Ok-add_constraints-clause-labelled
returns-in-Ok-add_constraints-clause-labelled c =
    let n : Network = record { program = c.args.builder.now; labels = c.args.labels.now } in
    let fit = constrained-fit c.args.options.now n (plain-of c.args.options.now n c.requires.network) c.in-Ok.constraints.variables c.in-Ok.constraints.names c.in-Ok.constraints.sides.items c.in-Ok.constraints.terms in
    rw (c.in-Ok-add_constraints.ensures.program, c.in-Ok-add_constraints.ensures.labels)
    (dense-labels c.args.options.now n c.args.roles.now c.args.table.now c.in-Ok.ensures.0 _ _ _ _ c.in-Ok.ensures.1 _ fit)
