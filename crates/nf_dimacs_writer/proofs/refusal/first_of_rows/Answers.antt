use Rattle.std.proofs.Common.{sym, ◌∙◌, arith}
use Rattle.nf_model.specs.declared.RowKind.TheVariants.{Eq}
use Rattle.nf_num.specs.Rational.{zero_ℚ}
use Rattle.nf_model.specs.Program.{Row}
use Rattle.nf_dimacs_writer.specs.Refusal.{row_refusal}
use Rattle.nf_dimacs_writer.proofs.FirstFacts.{refused, passed, none_refused}
use Rattle.nf_dimacs_writer.proofs.refusal.first_of_rows.Goals as goal

pub returns-in-Some : goal.returns-in-Some
returns-in-Some c =
    let blank : Row = record { kind = Eq; right = zero_ℚ } in
    sym (refused row_refusal c.args.p.now.rows c.loop-i.i blank c.in-Some.refusal (omega arith) (sym c.row_refusal.ensures ∙ c.in-Some.is) c.loop-i.invariant)

pub loop-i-preserved : goal.loop-i-preserved
loop-i-preserved c =
    let blank : Row = record { kind = Eq; right = zero_ℚ } in
    passed row_refusal c.args.p.now.rows c.loop-i.i blank (omega arith) (sym c.row_refusal.ensures ∙ c.in_default.is) c.loop-i.invariant

pub returns : goal.returns
returns c = none_refused row_refusal c.args.p.now.rows c.loop-i.i (omega arith) c.loop-i.invariant
