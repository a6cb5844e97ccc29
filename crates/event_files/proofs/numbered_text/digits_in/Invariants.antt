use Rattle.std.proofs.Common.{◌≡◌, ◌-◌, ◌≤◌, take}
use Rattle.std.specs.Str.Parse.{AllDigits, digits_value}
use Rattle.event_files.proofs.numbered_text.digits_in.Given as goal

-- the bytes so far are digits, of this value
abbrev pub invariant-loop-count : goal.invariant-loop-count
invariant-loop-count l = record {
  few : l.count ≤ l.most;
  digits : AllDigits 10 (take l.count l.text);
  value : l.value ≡ digits_value 10 (take l.count l.text);
}

abbrev pub decreases-loop-count : goal.decreases-loop-count
decreases-loop-count l = l.most - l.count
