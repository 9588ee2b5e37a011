use Rattle.std.proofs.Common.{arith}
use Rattle.nf_model.specs.declared.RowKind.TheVariants.{Eq}
use Rattle.nf_num.specs.Rational.{zero_ℚ}
use Rattle.nf_model.specs.Program.{Row}
use Rattle.nf_dimacs_writer.specs.Written.{node_line}
use Rattle.nf_dimacs_writer.proofs.LineFacts.{written-none, written-more}
use Rattle.nf_dimacs_writer.proofs.writing.put_nodes.Goals as goal

pub loop-i-init : goal.loop-i-init
loop-i-init c = written-none node_line c.args.out.now c.args.p.now.rows

pub loop-i-preserved : goal.loop-i-preserved
loop-i-preserved c =
    let blank : Row = record { kind = Eq; right = zero_ℚ } in
    written-more node_line c.args.out.now c.loop-i.out c.put_node.new.out c.args.p.now.rows c.loop-i.i blank (omega arith) c.loop-i.invariant c.in_ok-put_node.ensures
