use Rattle.nf_reader.proofs.Answered.{one_program, one_fault, never_both}
use Rattle.nf_reader.proofs.reading.one_answer.Goals as goal

pub returns-clause-programs : goal.returns-clause-programs
returns-clause-programs c = one_program

pub returns-clause-faults : goal.returns-clause-faults
returns-clause-faults c = one_fault

pub returns-clause-either : goal.returns-clause-either
returns-clause-either c = never_both
