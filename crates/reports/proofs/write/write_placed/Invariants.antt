use Rattle.std.proofs.Common.{take, flat_map}
use Rattle.std.specs.List.{zip}
use Rattle.reports.specs.Text.{placed_line}
use Rattle.reports.specs.Sinks.{AppendsText}
use Rattle.reports.proofs.write.write_placed.Given as goal

abbrev pub invariant-loop-i : goal.invariant-loop-i
invariant-loop-i g l = AppendsText g.T.Sink.room l.initial.text (flat_map placed_line (take l.i (zip l.dependencies l.places))) l.text
