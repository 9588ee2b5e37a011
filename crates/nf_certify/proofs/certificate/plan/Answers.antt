use Rattle.std.proofs.Common.{◌≡◌, ◌∙◌, length, rules}
use Rattle.std.proofs.lemmas.List.{take_at}
use Rattle.nf_model.specs.Program.{at}
use Rattle.nf_simplex.specs.Standing.{rows_of}
use Rattle.nf_certify.proofs.Listed.{row_list}
use Rattle.nf_certify.proofs.certificate.plan.Goals as goal

pub returns-clause-certificate : goal.returns-clause-certificate
returns-clause-certificate g c =
    let p = c.args.p.now in
    let s = g.B.Basis.standing c.args.basis.now in
    let ys = c.printed_duals.new.two in
    let printed = c.in_ok-printed_duals.ensures.printed in
    let long : length ys ≡ rows_of p s = search rules in
    let full : length ys ≡ c.in_ok-two.two.len = search rules in (
      (g.B.Basis.values p c.args.basis.now, (g.met.B.Basis.sound p c.args.basis.now c.requires.numbers).values, c.in_ok-values.ensures),
      (c.in_ok-printed_duals.field-0, printed.0, (at ys, printed.1, row_list p s ys c.as_slice.result.now c.in_ok-duals.duals long (c.as_slice.ensures.value ∙ take_at ys _ c.in_ok-two.two.len full) c.in_ok-duals.ensures)),
    )
