use Rattle.std.proofs.Common.{◌<◌, ◌-◌, length, arith}
use Rattle.nf_prob.proofs.ColumnSums.{entries_in_range, rows_apart}
use Rattle.nf_prob.proofs.problem.Problem.entries.Goals as goal

pub returns-clause-in_range : goal.returns-clause-in_range
returns-clause-in_range c =
    let e = c.entries_at in
    let within : c.args.j - 1 < length c.args.self.now.columns = omega (arith, c.requires.number.0, c.requires.number.1) in
    entries_in_range c.args.self.now (c.args.j - 1) e.result.now e.ensures.problem within e.ensures.entries e.ensures.numbered

pub returns-clause-apart : goal.returns-clause-apart
returns-clause-apart c =
    let e = c.entries_at in
    let within : c.args.j - 1 < length c.args.self.now.columns = omega (arith, c.requires.number.0, c.requires.number.1) in
    rows_apart c.args.self.now (c.args.j - 1) e.result.now e.ensures.problem within e.ensures.entries
