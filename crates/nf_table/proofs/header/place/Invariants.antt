use Rattle.std.proofs.Common.{◌≡◌, fold, take}
use Rattle.std.specs.Str.{str_to_ascii_lowercase}
use Rattle.nf_table.specs.Shared.{with_byte}
use Rattle.nf_table.proofs.header.place.Given as goal

abbrev pub invariant-loop-byte : goal.invariant-loop-byte
invariant-loop-byte l = l.hash ≡ fold with_byte 0 (str_to_ascii_lowercase (take l.byte-index l.name))
