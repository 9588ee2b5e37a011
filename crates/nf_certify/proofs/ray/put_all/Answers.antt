use Rattle.std.proofs.Common.{◌∙◌, ap}
use Rattle.nf_simplex.specs.Step.{signed}
use Rattle.nf_certify.proofs.Moved.{picked_moves, ray_is}
use Rattle.nf_certify.proofs.ray.put_all.Goals as goal

pub returns : goal.returns
returns g c =
    let p = c.args.p.now in
    let s = g.B.Basis.standing c.args.basis.now in
    let put = c.put.ensures.put in
    record {
      moves = ray_is p s (g.B.Basis.slots c.args.basis.now) c.args.column c.args.down c.args.entries.now c.put.new.moves c.put_basics.new.moves
          (g.met.B.Basis.sound p c.args.basis.now c.requires.numbers).listed c.requires.nonbasic c.requires.entries (put.as_long ∙ c.requires.columns)
          (picked_moves _ _ c.args.down c.turned-whole.result c.args.moves.now c.put.new.moves c.requires.columns c.requires.zeros (c.turned-whole.ensures ∙ ap (signed c.args.down) c.from_whole.ensures) put)
          c.put_basics.ensures.put;
    }
