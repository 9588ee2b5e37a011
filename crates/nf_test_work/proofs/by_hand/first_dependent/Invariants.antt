use Rattle.nf_test_work.proofs.by_hand.first_dependent.Given as goal

abbrev pub ghosts-rank : goal.ghosts-rank
ghosts-rank a = record { name = a.blank.name; parts = a.blank.parts }
