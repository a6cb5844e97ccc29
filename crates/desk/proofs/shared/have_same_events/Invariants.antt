use Rattle.std.proofs.Common.{◌≡◌, take}
use Rattle.desk.proofs.shared.have_same_events.Given as goal

-- the events so far are the same
abbrev pub invariant-loop-index : goal.invariant-loop-index
invariant-loop-index l = take l.index l.first ≡ take l.index l.second
