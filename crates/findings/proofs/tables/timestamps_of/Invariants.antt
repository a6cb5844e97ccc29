use Rattle.findings.proofs.tables.timestamps_of.Given as goal

abbrev pub ghosts-make_timestamps : goal.ghosts-make_timestamps
ghosts-make_timestamps a = record { name = a.blank.name; parts = a.blank.parts }
