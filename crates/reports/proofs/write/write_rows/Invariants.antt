use Rattle.std.proofs.Common.{take, flat_map}
use Rattle.reports.specs.Text.{row_text}
use Rattle.reports.specs.Sinks.{AppendsText}
use Rattle.reports.proofs.write.write_rows.Given as goal

abbrev pub invariant-loop-row : goal.invariant-loop-row
invariant-loop-row g l = AppendsText g.T.Sink.room l.initial.text (flat_map row_text (take l.row-index l.rows)) l.text
