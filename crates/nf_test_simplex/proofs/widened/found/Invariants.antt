use Rattle.nf_test_simplex.proofs.widened.found.Given as goal

abbrev pub ghosts-widened : goal.ghosts-widened
ghosts-widened a = record { name = a.blank.name; parts = a.blank.parts }
