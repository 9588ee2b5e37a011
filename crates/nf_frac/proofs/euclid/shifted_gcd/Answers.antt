use Rattle.std.proofs.Common.{ℕ, ◌∙◌, ◌*◌, ◌^◌, ◌%◌, ap}
use mir.Syntax.{w128}
use Rattle.nf_frac.proofs.Binary.{odd_part_odd, shifted}
use Rattle.nf_frac.proofs.euclid.shifted_gcd.Goals as goal

pub wide_gcd-requires : goal.wide_gcd-requires
wide_gcd-requires c = odd_part_odd w128 c.args.a c.requires.left c.ranges.a.fits

pub returns : goal.returns
returns c =
    ap (λ (m : ℕ). c.wide_gcd.result * 2 ^ m % 2 ^ 128) c.min.ensures
    ∙ shifted w128 c.args.a c.args.b c.wide_gcd.result c.requires.left c.ranges.a.fits c.requires.right c.ranges.b.fits c.wide_gcd.ensures
