use Rattle.std.proofs.Common.{arith, None, []}
use Rattle.nf_num.specs.Rational.{zero_ℚ}
use Rattle.nf_model.specs.Program.{Column}
use Rattle.nf_dimacs_writer.specs.Written.{arc_line}
use Rattle.nf_dimacs_writer.proofs.LineFacts.{written-none, written-more}
use Rattle.nf_dimacs_writer.proofs.writing.put_arcs.Goals as goal

pub loop-j-init : goal.loop-j-init
loop-j-init c = written-none arc_line c.args.out.now c.args.p.now.columns

pub loop-j-preserved : goal.loop-j-preserved
loop-j-preserved c =
    let blank : Column = record { cost = zero_ℚ; lower = None; upper = None; ends = None; entries = [] } in
    written-more arc_line c.args.out.now c.loop-j.out c.put_arc.new.out c.args.p.now.columns c.loop-j.j blank (omega arith) c.loop-j.invariant c.in_ok-put_arc.ensures
