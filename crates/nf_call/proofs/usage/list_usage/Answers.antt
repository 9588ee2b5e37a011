use Rattle.nf_call.proofs.usage.list_usage.Goals as goal

pub returns-clause-ends : goal.returns-clause-ends
returns-clause-ends g c = rw c.as_bytes.ensures.value at c.conclude.ensures.ends
