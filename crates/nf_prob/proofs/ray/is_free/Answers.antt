use Rattle.std.proofs.Common.{◌<◌, length, sym, arith}
use Rattle.std.proofs.lemmas.List.{get_or_read}
use Rattle.nf_num.specs.Rational.{zero_ℚ}
use Rattle.nf_prob.proofs.Signs.{unstopped_as}
use Rattle.nf_prob.proofs.ray.is_free.Goals as goal

pub returns : goal.returns
returns c =
    let within : c.args.j < length c.args.r.now = omega arith in
    unstopped_as _ _ _ _ _ _ _ (sym (get_or_read c.args.r.now c.args.j _ within c.index-r-j.is zero_ℚ)) c.lower_at.ensures c.upper_at.ensures c.is_unstopped.ensures
