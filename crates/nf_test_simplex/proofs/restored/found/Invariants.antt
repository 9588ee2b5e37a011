use Rattle.nf_test_simplex.proofs.restored.found.Given as goal

abbrev pub ghosts-restored : goal.ghosts-restored
ghosts-restored a = record { name = a.blank.name; parts = a.blank.parts }
