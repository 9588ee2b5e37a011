use Rattle.nf_reader.proofs.Answered.{told_program, told_only, told_fault}
use Rattle.nf_reader.proofs.reading.read_program.Goals as goal

pub returns-clause-found : goal.returns-clause-found
returns-clause-found c = told_program c.args.command c.args.text.now c.answer.result c.answer.ensures

pub returns-clause-only : goal.returns-clause-only
returns-clause-only c = told_only c.args.command c.args.text.now c.answer.result c.answer.ensures

pub returns-clause-fault : goal.returns-clause-fault
returns-clause-fault c = told_fault c.args.command c.args.text.now c.answer.result c.answer.ensures
