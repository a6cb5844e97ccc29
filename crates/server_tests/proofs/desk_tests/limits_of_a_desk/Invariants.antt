use Rattle.server_tests.proofs.desk_tests.limits_of_a_desk.Given as goal

abbrev pub ghosts-refused_by : goal.ghosts-refused_by
ghosts-refused_by g a = record { book = a.history.seen.book; limit = a.limit }
