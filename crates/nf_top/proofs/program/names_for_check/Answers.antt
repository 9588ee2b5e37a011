use Rattle.nf_program.specs.declared.program.Command.TheVariants.{Check}
use Rattle.nf_writer.proofs.Written.{names_are_text}
use Rattle.nf_top.proofs.StopFacts.{some-holds}
use Rattle.nf_top.proofs.program.names_for_check.Goals as goal

pub text_of-arcdata-requires : goal.text_of-arcdata-requires
text_of-arcdata-requires c = record { text = some-holds c.args.program.now.proc.arcdata ((names_are_text Check c.requires.read.0 c.args.program.now c.requires.read.1).arcdata) }

pub text_of-certdata-requires : goal.text_of-certdata-requires
text_of-certdata-requires c = record { text = some-holds c.args.program.now.proc.certdata ((names_are_text Check c.requires.read.0 c.args.program.now c.requires.read.1).certdata) }

pub text_of-requires : goal.text_of-requires
text_of-requires c = record { text = some-holds c.args.program.now.proc.nodedata ((names_are_text Check c.requires.read.0 c.args.program.now c.requires.read.1).nodedata) }

pub text_of-requires-2 : goal.text_of-requires-2
text_of-requires-2 c = record { text = some-holds c.args.program.now.proc.condata ((names_are_text Check c.requires.read.0 c.args.program.now c.requires.read.1).condata) }
