use Rattle.std.proofs.Common.{refl}
use Rattle.std.proofs.lemmas.Result.{err_from_is_err_and}
use Rattle.nf_program.specs.declared.program.Command.TheVariants.{Export}
use Rattle.nf_top.proofs.StopFacts.{nothing-fetched}
use Rattle.nf_writer.proofs.Written.{amounts_are_in_range}
use Rattle.nf_exchange.proofs.EndFacts.{all-clauses}
use Rattle.nf_exchange.proofs.to_text.source_problem.Goals as goal

pub load_problem-requires : goal.load_problem-requires
load_problem-requires g c = let has = c.in_ok-program.ensures.read in record { demand = (amounts_are_in_range Export has.0 c.in_ok-program.program has.1).demand }

pub returns-in_err-program-clause-answer : goal.returns-in_err-program-clause-answer
returns-in_err-program-clause-answer g c =
    let p = err_from_is_err_and c.from_residual.result c.from_residual.ensures.1 in
    rw (p.1, p.2) (λ words. c.in_err-program.ensures.stops _ (record { left = refl; rest = refl; faults = refl; faults_after = refl }) (nothing-fetched _ _))

pub returns-in_default-clause-answer : goal.returns-in_default-clause-answer
returns-in_default-clause-answer g c = λ words. (
  c.in_ok-program.program,
  c.in_ok-program.ensures.reads _ (record { left = refl; rest = refl; faults = refl; faults_after = refl }),
  c.in_default.ensures,
  nothing-fetched _ _,
)

pub returns-clause-answer : goal.returns-clause-answer
returns-clause-answer g c = λ words.
    all-clauses c.load_problem.result c.load_problem.ensures.posed c.load_problem.ensures.all c.load_problem.ensures.stops
    (λ p h all. record {
      sets = h.0;
      fetches = record {
        names = _;
        named = record {
          program = c.in_ok-program.program;
          reads = c.in_ok-program.ensures.reads _ (record { left = refl; rest = refl; faults = refl; faults_after = refl });
          stands = c.in-Some.ensures;
        };
        held = h.1;
        fetched = all;
      };
      posed = h.2;
    })
    (λ stop h. h _ (record { held = refl; since = refl; until = refl; missed_since = λ q. refl; missed_until = λ q. refl })
    (record {
      program = c.in_ok-program.program;
      reads = c.in_ok-program.ensures.reads _ (record { left = refl; rest = refl; faults = refl; faults_after = refl });
      stands = c.in-Some.ensures;
    }) refl)
