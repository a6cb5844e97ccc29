use Rattle.question_server.proofs.serving.run_server.Given as goal

-- the history that was just opened, and the limit that is asked for
abbrev pub ghosts-serve_named : goal.ghosts-serve_named
ghosts-serve_named g a = record { book = a.history.seen.book; limit = a.service.limit }
