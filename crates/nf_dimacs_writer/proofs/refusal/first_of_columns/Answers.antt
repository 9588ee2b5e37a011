use Rattle.std.proofs.Common.{sym, ◌∙◌, arith, None, []}
use Rattle.nf_num.specs.Rational.{zero_ℚ}
use Rattle.nf_model.specs.Program.{Column}
use Rattle.nf_dimacs_writer.specs.Refusal.{column_refusal}
use Rattle.nf_dimacs_writer.proofs.FirstFacts.{refused, passed, none_refused}
use Rattle.nf_dimacs_writer.proofs.refusal.first_of_columns.Goals as goal

pub returns-in-Some : goal.returns-in-Some
returns-in-Some c =
    let blank : Column = record { cost = zero_ℚ; lower = None; upper = None; ends = None; entries = [] } in
    sym (refused column_refusal c.args.p.now.columns c.loop-j.j blank c.in-Some.refusal (omega arith) (sym c.column_refusal.ensures ∙ c.in-Some.is) c.loop-j.invariant)

pub loop-j-preserved : goal.loop-j-preserved
loop-j-preserved c =
    let blank : Column = record { cost = zero_ℚ; lower = None; upper = None; ends = None; entries = [] } in
    passed column_refusal c.args.p.now.columns c.loop-j.j blank (omega arith) (sym c.column_refusal.ensures ∙ c.in_default.is) c.loop-j.invariant

pub returns : goal.returns
returns c = none_refused column_refusal c.args.p.now.columns c.loop-j.j (omega arith) c.loop-j.invariant
