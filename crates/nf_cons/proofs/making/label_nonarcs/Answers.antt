use Rattle.std.proofs.Common.{◌+◌, ◌∙◌, [], length, take, ap, arith}
use Rattle.std.proofs.lemmas.List.{length-append, length-take-le, take_all}
use Rattle.nf_cons.proofs.MakingFacts.{columns-more, columns-none, take-more}
use Rattle.nf_cons.proofs.making.label_nonarcs.Goals as goal

pub loop-k-init : goal.loop-k-init
loop-k-init c = (columns-none c.args.labels.now, c.nonarcs-k-end.ensures)

pub push_column-requires : goal.push_column-requires
push_column-requires c =
    let inv = c.loop-k.invariant in
    let names = c.args.constraints.now.variables.nonarcs in
    let size = ap (λ l. length l.columns) inv.0 ∙ length-append c.args.labels.now.columns (take c.loop-k.k names) in
    let small = length-take-le c.loop-k.k names (omega (arith, inv.1, c.loop-k-test.true)) in
    record { room = omega (arith, size, small, inv.1, c.loop-k-test.true, c.requires.few) }

pub loop-k-preserved : goal.loop-k-preserved
loop-k-preserved c =
    let inv = c.loop-k.invariant in
    let names = c.args.constraints.now.variables.nonarcs in (
      c.in_ok-push_column.ensures.added
          ∙ columns-more c.args.labels.now c.loop-k.labels (take c.loop-k.k names) c.nonarc.result.now (take (c.loop-k.k + 1) names) inv.0
          (take-more names c.loop-k.k [] c.nonarc.result.now c.nonarc.ensures (omega (arith, inv.1, c.loop-k-test.true))),
      inv.1,
    )

pub returns : goal.returns
returns c =
    let inv = c.loop-k.invariant in
    let whole = take_all c.loop-k.k c.args.constraints.now.variables.nonarcs (omega (arith, inv.1, c.loop-k-test.false)) in
    rw whole at inv.0
