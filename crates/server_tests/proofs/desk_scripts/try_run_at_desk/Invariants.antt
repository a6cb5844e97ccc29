use Rattle.server_tests.proofs.desk_scripts.try_run_at_desk.Given as goal

abbrev pub ghosts-run_with_history : goal.ghosts-run_with_history
ghosts-run_with_history g a = record { book = a.history.seen.book; limit = a.limit }
