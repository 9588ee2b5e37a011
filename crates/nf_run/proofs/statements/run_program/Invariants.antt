use Rattle.nf_run.proofs.statements.run_program.Given as goal

abbrev pub ghosts-obey_all : goal.ghosts-obey_all
ghosts-obey_all g a = record { name = a.blank.name; parts = a.blank.parts }
