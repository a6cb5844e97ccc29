use Rattle.sequencer.proofs.recorder.Recorder.record.Given as goal

abbrev pub ghosts-record_in : goal.ghosts-record_in
ghosts-record_in a = record { name = a.blank.name; parts = a.blank.parts }
