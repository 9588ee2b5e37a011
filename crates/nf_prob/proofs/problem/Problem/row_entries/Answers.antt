use Rattle.std.proofs.Common.{◌-◌}
use Rattle.nf_prob.proofs.RowSums.{row_entries_in_range, columns_apart}
use Rattle.nf_prob.proofs.problem.Problem.row_entries.Goals as goal

pub returns-clause-in_range : goal.returns-clause-in_range
returns-clause-in_range c = row_entries_in_range c.args.self.now (c.args.i - 1) c.row_entries_at.result.now c.row_entries_at.ensures.problem c.row_entries_at.ensures.entries

pub returns-clause-apart : goal.returns-clause-apart
returns-clause-apart c = columns_apart c.args.self.now (c.args.i - 1) c.row_entries_at.result.now c.row_entries_at.ensures.problem c.row_entries_at.ensures.entries
