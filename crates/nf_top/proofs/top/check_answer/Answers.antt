use Rattle.std.proofs.Common.{refl}
use Rattle.std.proofs.lemmas.Result.{err_from_is_err_and}
use Rattle.nf_program.specs.declared.program.Command.TheVariants.{Check}
use Rattle.nf_top.proofs.StopFacts.{both-cases, nothing-fetched}
use Rattle.nf_writer.proofs.Written.{amounts_are_in_range}
use Rattle.nf_top.proofs.top.check_answer.Goals as goal

pub judge_sets-requires-clause-demand : goal.judge_sets-requires-clause-demand
judge_sets-requires-clause-demand g c = let has = c.in_ok-program.ensures.read in (amounts_are_in_range Check has.0 c.in_ok-program.program has.1).demand

pub judge_sets-requires-clause-certdata : goal.judge_sets-requires-clause-certdata
judge_sets-requires-clause-certdata g c = c.in-Some.ensures.certified

pub returns-in_err-program-clause-answer : goal.returns-in_err-program-clause-answer
returns-in_err-program-clause-answer g c =
    let p = err_from_is_err_and c.from_residual.result c.from_residual.ensures.1 in
    rw (p.1, p.2) (c.in_err-program.ensures.stops _ (record { left = refl; rest = refl; faults = refl; faults_after = refl }) c.requires.command (nothing-fetched _ _))

pub returns-in_default-clause-answer : goal.returns-in_default-clause-answer
returns-in_default-clause-answer g c = (
  Check,
  c.in_ok-program.program,
  c.in_ok-program.ensures.reads _ (record { left = refl; rest = refl; faults = refl; faults_after = refl }) c.requires.command,
  λ h. c.in_default.ensures h.0 h.1,
  nothing-fetched _ _,
)

pub returns-clause-answer : goal.returns-clause-answer
returns-clause-answer g c =
    both-cases c.judge_sets.result c.judge_sets.ensures.ok c.judge_sets.ensures.stops
    (λ line h. h _ (record { held = refl; since = refl; until = refl; missed_since = λ q. refl; missed_until = λ q. refl })
    (record {
      program = c.in_ok-program.program;
      reads = c.in_ok-program.ensures.reads _ (record { left = refl; rest = refl; faults = refl; faults_after = refl }) c.requires.command;
      stands = c.in-Some.ensures;
    }) refl)
    (λ stop h. h _ (record { held = refl; since = refl; until = refl; missed_since = λ q. refl; missed_until = λ q. refl })
    (record {
      program = c.in_ok-program.program;
      reads = c.in_ok-program.ensures.reads _ (record { left = refl; rest = refl; faults = refl; faults_after = refl }) c.requires.command;
      stands = c.in-Some.ensures;
    }) refl)
