use Rattle.std.proofs.Common.{◌≡◌, ◌-◌, ◌++◌, take, map, replicate}
use Rattle.std.specs.Char.{to_ascii_lowercase}
use Rattle.nf_program.proofs.items.Name.lowered.Given as goal

abbrev pub invariant-loop-i : goal.invariant-loop-i
invariant-loop-i l = l.all ≡ map to_ascii_lowercase (take l.i l.self-inside.all) ++ replicate (32 - l.i) 0
