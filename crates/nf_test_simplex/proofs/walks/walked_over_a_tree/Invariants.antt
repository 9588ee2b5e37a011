use Rattle.nf_test_simplex.proofs.walks.walked_over_a_tree.Given as goal

abbrev pub ghosts-goes : goal.ghosts-goes
ghosts-goes a = record { name = a.blank.name; parts = a.blank.parts }
