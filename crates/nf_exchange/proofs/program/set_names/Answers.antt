use Rattle.nf_program.specs.declared.program.Command.TheVariants.{Export}
use Rattle.nf_writer.proofs.Written.{names_are_text}
use Rattle.nf_top.proofs.StopFacts.{some-holds}
use Rattle.nf_exchange.proofs.program.set_names.Goals as goal

pub text_of-requires : goal.text_of-requires
text_of-requires c = record { text = some-holds c.args.program.now.proc.arcdata ((names_are_text Export c.requires.read.0 c.args.program.now c.requires.read.1).arcdata) }

pub text_of-requires-2 : goal.text_of-requires-2
text_of-requires-2 c = record { text = some-holds c.args.program.now.proc.nodedata ((names_are_text Export c.requires.read.0 c.args.program.now c.requires.read.1).nodedata) }

pub text_of-requires-3 : goal.text_of-requires-3
text_of-requires-3 c = record { text = some-holds c.args.program.now.proc.condata ((names_are_text Export c.requires.read.0 c.args.program.now c.requires.read.1).condata) }
