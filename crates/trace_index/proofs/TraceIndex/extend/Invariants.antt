use Rattle.trace_index.proofs.TraceIndex.extend.Given as goal

abbrev pub ghosts-extend_counted : goal.ghosts-extend_counted
ghosts-extend_counted a = record { name = a.blank.name; parts = a.blank.parts }
