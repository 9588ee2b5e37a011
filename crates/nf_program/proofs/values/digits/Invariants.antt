use Rattle.std.proofs.Common.{◌≡◌, ◌<◌, ◌^◌, drop}
use Rattle.nf_program.specs.ReadValues.{digits_from}
use Rattle.nf_program.proofs.values.digits.Given as goal

abbrev pub invariant-loop-b : goal.invariant-loop-b
invariant-loop-b l = record { below : l.n < 10 ^ l.b-index; so_far : digits_from l.n (drop l.b-index l.bytes) ≡ digits_from 0 l.bytes }
