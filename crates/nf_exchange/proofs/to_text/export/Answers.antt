use Rattle.nf_exchange.proofs.ExportFacts.{exports-problem, has-exported, may-end, refuses-problem, refuses-program}
use Rattle.std.proofs.Common.{[]}
use Rattle.nf_exchange.proofs.to_text.export.Goals as goal

pub returns-clause-exported : goal.returns-clause-exported
returns-clause-exported g c = λ words e. has-exported _ _ (c.export_source.ensures.ends words) e

pub returns-clause-complete : goal.returns-clause-complete
returns-clause-complete g c = λ words. exports-problem _ _ (c.export_source.ensures.ends words)

pub returns-clause-no_problem : goal.returns-clause-no_problem
returns-clause-no_problem g c = λ words. refuses-problem _ _ (c.export_source.ensures.ends words)

pub returns-clause-no_program : goal.returns-clause-no_program
returns-clause-no_program g c = λ words. refuses-program _ _ (c.export_source.ensures.ends words)

pub returns-clause-status : goal.returns-clause-status
returns-clause-status g c = may-end _ _ (c.export_source.ensures.ends [])
