use Rattle.nf_session_table.proofs.GrowFacts.{HasMembers}
use Rattle.nf_session_table.proofs.sections.push_members.Given as goal

abbrev pub invariant-loop-i : goal.invariant-loop-i
invariant-loop-i l = HasMembers l.initial.table l.queue l.i l.table
