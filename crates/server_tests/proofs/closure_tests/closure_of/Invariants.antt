use Rattle.server_tests.proofs.closure_tests.closure_of.Given as goal

abbrev pub ghosts-closure_from : goal.ghosts-closure_from
ghosts-closure_from a = record { name = a.blank.name; parts = a.blank.parts }
