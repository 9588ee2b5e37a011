-- How the faults of data say that memory ran out.
-- The promises of the readers of data rest on it: it is the one fault that they may report in place of the due one.
use Rattle.std.specs.Prelude.{[]}
use Rattle.nf_program.specs.declared.program.SetName.TheVariants as set
use Rattle.nf_roles.specs.declared.fault.DataFault.{DataFault}
use Rattle.nf_roles.specs.declared.fault.DataKind.TheVariants as kind

-- Memory ran out: the other fields say nothing.
abbrev pub out_of_memory : DataFault
out_of_memory = record { set = set.Arcdata; row = 0; column = []; kind = kind.NoMemory }
