use Rattle.std.proofs.Common.{◌≡◌, ◌≤◌}
use Rattle.nf_call.specs.Lines.{line_start}
use Rattle.nf_call.proofs.lines.but_last_line.Given as goal

abbrev pub invariant-loop-i : goal.invariant-loop-i
invariant-loop-i l = (l.start ≡ line_start l.listing l.i) × (l.start ≤ l.i)
