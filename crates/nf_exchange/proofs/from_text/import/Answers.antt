use Rattle.std.proofs.Common.{[]}
use Rattle.nf_exchange.proofs.ImportFacts.{has-imported, imports-text, may-end, refuses-text}
use Rattle.nf_exchange.proofs.from_text.import.Goals as goal

pub returns-clause-imported : goal.returns-clause-imported
returns-clause-imported g c = λ words e. has-imported _ _ (c.import_source.ensures.ends words) e

pub returns-clause-complete : goal.returns-clause-complete
returns-clause-complete g c = λ words. imports-text _ _ (c.import_source.ensures.ends words)

pub returns-clause-refused : goal.returns-clause-refused
returns-clause-refused g c = λ words. refuses-text _ _ (c.import_source.ensures.ends words)

pub returns-clause-status : goal.returns-clause-status
returns-clause-status g c = may-end _ _ (c.import_source.ensures.ends [])
