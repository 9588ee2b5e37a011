use Rattle.nf_test_work.proofs.by_hand.solved.Given as goal

abbrev pub ghosts-solve : goal.ghosts-solve
ghosts-solve a = record { name = a.blank.name; parts = a.blank.parts }
