use Rattle.nf_prob.proofs.check.first_infeasible.Goals as goal

pub returns-clause-value : goal.returns-clause-value
returns-clause-value g c = record {
  within = record { one_each = c.requires.values; in_bounds = c.in_default.ensures };
  rows_hold = rw c.in_default-2.is at c.in_ok-i.ensures.value;
}
