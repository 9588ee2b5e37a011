use Rattle.std.proofs.Common.{refl}
use Rattle.std.proofs.lemmas.Result.{err_from_is_err_and}
use Rattle.nf_program.specs.declared.program.Command.TheVariants.{Run}
use Rattle.nf_top.specs.Steps.{names_of}
use Rattle.nf_top.proofs.StopFacts.{nothing-fetched}
use Rattle.nf_writer.proofs.Written.{amounts_are_in_range}
use Rattle.nf_top.proofs.top.run_input.Goals as goal

pub load_problem-requires : goal.load_problem-requires
load_problem-requires g c = let has = c.in_ok-program.ensures.read in record { demand = (amounts_are_in_range Run has.0 c.in_ok-program.program has.1).demand }

pub returns-in_err-program-clause-input : goal.returns-in_err-program-clause-input
returns-in_err-program-clause-input g c =
    let p = err_from_is_err_and c.from_residual.result c.from_residual.ensures.1 in
    rw (p.1, p.2) (c.in_err-program.ensures.stops _ (record { left = refl; rest = refl; faults = refl; faults_after = refl }) c.requires.command (nothing-fetched _ _))

pub returns-in_default-clause-input : goal.returns-in_default-clause-input
returns-in_default-clause-input g c = (
  Run,
  c.in_ok-program.program,
  c.in_ok-program.ensures.reads _ (record { left = refl; rest = refl; faults = refl; faults_after = refl }) c.requires.command,
  λ h. c.in_default.ensures h.0 h.1,
  nothing-fetched _ _,
)

pub returns-in_err-problem-clause-input : goal.returns-in_err-problem-clause-input
returns-in_err-problem-clause-input g c =
    let p = err_from_is_err_and c.from_residual-in_err-problem.result c.from_residual-in_err-problem.ensures.1 in
    rw (p.1, p.2) (c.in_err-problem.ensures.stops _
    (record { held = refl; since = refl; until = refl; missed_since = λ q. refl; missed_until = λ q. refl })
    (record {
      program = c.in_ok-program.program;
      reads = c.in_ok-program.ensures.reads _ (record { left = refl; rest = refl; faults = refl; faults_after = refl }) c.requires.command;
      stands = c.in-Some.ensures;
    }) refl)

pub returns-clause-input : goal.returns-clause-input
returns-clause-input g c =
    let posed = c.in_ok-problem.ensures.posed in
    record {
      reads = c.in_ok-program.ensures.reads _ (record { left = refl; rest = refl; faults = refl; faults_after = refl }) c.requires.command;
      names = names_of c.in-Some.names;
      stands = c.in-Some.ensures;
      sets = posed.0;
      held = posed.1;
      fetched = c.in_ok-problem.ensures.all;
      posed = posed.2;
    }
