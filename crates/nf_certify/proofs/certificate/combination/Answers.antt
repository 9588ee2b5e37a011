use Rattle.std.proofs.Common.{◌≡◌, ◌∙◌, length, rules}
use Rattle.std.proofs.lemmas.List.{take_at}
use Rattle.nf_model.specs.Program.{at}
use Rattle.nf_simplex.specs.Standing.{rows_of}
use Rattle.nf_certify.proofs.Listed.{row_list}
use Rattle.nf_certify.proofs.certificate.combination.Goals as goal

pub returns-clause-certificate : goal.returns-clause-certificate
returns-clause-certificate g c =
    let p = c.args.p.now in
    let s = g.B.Basis.standing c.args.basis.now in
    let ys = c.duals.new.out in
    let long : length ys ≡ rows_of p s = search rules in
    let full : length ys ≡ c.in_ok-one.one.len = search rules in
    (at ys, c.in_ok-duals.ensures.duals, row_list p s ys c.as_slice.result.now c.in_ok-duals-2.duals long (c.as_slice.ensures.value ∙ take_at ys _ c.in_ok-one.one.len full) c.in_ok-duals-2.ensures)
