use Rattle.std.proofs.Common.{refl}
use Rattle.nf_run.proofs.statements.run_program.Goals as goal

pub obey_all-requires-clause-takes : goal.obey_all-requires-clause-takes
obey_all-requires-clause-takes g c = refl
