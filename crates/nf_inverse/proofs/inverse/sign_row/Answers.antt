use Rattle.std.proofs.Common.{◌<◌, ◌∙◌, ap, length, sym, subst}
use Rattle.std.specs.Prelude.{nat_eq, if◌then◌else◌}
use Rattle.nf_num.specs.Rational.{zero_ℚ}
use Rattle.nf_sums.specs.Terms.{with_sign}
use Rattle.nf_inverse.proofs.Lists.{put_in_zeros}
use Rattle.nf_inverse.proofs.inverse.sign_row.Goals as goal

pub returns-clause-weights : goal.returns-clause-weights
returns-clause-weights c = λ i.
    let within : c.args.own < length c.in_ok-row.row.items = subst (λ n. c.args.own < n) (sym c.in_ok-row.ensures.len) c.requires.within in
    put_in_zeros c.in_ok-row.row.items c.args.own i _ within c.in_ok-row.ensures.zeros ∙ ap (λ v. if nat_eq c.args.own i then v else zero_ℚ) (c.signed.ensures ∙ ap (with_sign c.args.negative) c.from_whole.ensures)
