use Rattle.std.proofs.Common.{◌≡◌, ◌≤◌, ◌-◌, length, take, replicate}
use Rattle.event_files.proofs.event_file.after_spaces.Given as goal

-- the bytes so far are spaces
abbrev pub invariant-loop-count : goal.invariant-loop-count
invariant-loop-count l = record {
  within : l.count ≤ length l.text;
  spaces : take l.count l.text ≡ replicate l.count 32;
}

abbrev pub decreases-loop-count : goal.decreases-loop-count
decreases-loop-count l = length l.text - l.count
