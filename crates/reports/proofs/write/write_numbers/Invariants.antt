use Rattle.std.proofs.Common.{take}
use Rattle.reports.specs.Text.{number_list}
use Rattle.reports.specs.Sinks.{AppendsText}
use Rattle.reports.proofs.write.write_numbers.Given as goal

abbrev pub invariant-loop-number : goal.invariant-loop-number
invariant-loop-number g l = AppendsText g.T.Sink.room l.initial.text (number_list (take l.number-index l.numbers)) l.text
