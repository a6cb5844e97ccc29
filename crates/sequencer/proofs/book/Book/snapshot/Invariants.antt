use Rattle.sequencer.proofs.book.Book.snapshot.Given as goal

abbrev pub ghosts-snapshot_of : goal.ghosts-snapshot_of
ghosts-snapshot_of a = record { name = a.blank.name; parts = a.blank.parts }
