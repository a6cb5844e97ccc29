use Rattle.std.proofs.Common.{take}
use Rattle.event_files.specs.Numbers.{IsValueOf}
use Rattle.event_files.proofs.numbers.value_of.Given as goal

abbrev pub invariant-loop-digit : goal.invariant-loop-digit
invariant-loop-digit l = IsValueOf (take l.digit-index l.digits) l.value
