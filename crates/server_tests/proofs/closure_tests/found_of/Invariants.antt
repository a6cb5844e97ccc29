use Rattle.server_tests.proofs.closure_tests.found_of.Given as goal

abbrev pub ghosts-found_from : goal.ghosts-found_from
ghosts-found_from a = record { name = a.blank.name; parts = a.blank.parts }
