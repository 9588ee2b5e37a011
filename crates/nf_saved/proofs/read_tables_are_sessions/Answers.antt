use Rattle.nf_saved.proofs.BackFacts.{read_are_sessions, read_are_states}
use Rattle.nf_saved.proofs.read_tables_are_sessions.Goals as goal

-- src/lib.rt:24:1
pub returns-clause-states : goal.returns-clause-states
returns-clause-states c = read_are_states

-- src/lib.rt:24:1
pub returns-clause-sessions : goal.returns-clause-sessions
returns-clause-sessions c = read_are_sessions
