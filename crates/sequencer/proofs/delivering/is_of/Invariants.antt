use Rattle.std.proofs.Common.{◌≡◌, take}
use Rattle.sequencer.proofs.delivering.is_of.Given as goal

-- the events so far are the same
abbrev pub invariant-loop-index : goal.invariant-loop-index
invariant-loop-index l = take l.index l.snapshot ≡ take l.index (take l.count l.recorder.events)
