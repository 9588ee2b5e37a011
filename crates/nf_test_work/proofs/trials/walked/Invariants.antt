use Rattle.nf_test_work.proofs.trials.walked.Given as goal

abbrev pub ghosts-walk : goal.ghosts-walk
ghosts-walk a = record { name = a.blank.name; parts = a.blank.parts }
