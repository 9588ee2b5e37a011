use Rattle.std.proofs.Common.{◌∙◌, sym, subst}
use Rattle.std.specs.Str.{IsUtf8}
use Rattle.nf_num.proofs.Parts.{denom_pos, numer-denom_coprime}
use Rattle.nf_cert.specs.Written.{HasParts}
use Rattle.nf_cert.proofs.TextFacts.{plain-frac, plain-utf8}
use Rattle.nf_cert.proofs.writing.push_frac.Goals as goal

pub push_row-requires-clause-text : goal.push_row-requires-clause-text
push_row-requires-clause-text c =
    let parts : HasParts c.args.x = record { num_in_range = c.num.ensures.range; den_in_range = c.den.ensures.range; positive = denom_pos c.args.x; lowest = numer-denom_coprime c.args.x } in
    subst IsUtf8 (sym (c.bytes.ensures.value ∙ c.text-text.ensures)) (plain-utf8 _ (plain-frac c.args.x parts))
