use Rattle.std.proofs.Common.{arith}
use Rattle.std.proofs.lemmas.List.{length-take}
use Rattle.nf_program.proofs.NameFacts.{lower_more}
use Rattle.nf_program.proofs.items.Name.lowered.Goals as goal

pub loop-i-preserved : goal.loop-i-preserved
loop-i-preserved c =
    let within = length-take c.self.inside.len c.self.inside.all in
    lower_more c.self.inside.all c.loop-i.all c.loop-i.i c.to_ascii_lowercase.result (omega (arith, within, c.self.invariant.length_is)) (omega (arith, c.self.invariant.short)) c.to_ascii_lowercase.ensures.value c.loop-i.invariant
