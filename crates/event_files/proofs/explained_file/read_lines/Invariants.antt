use Rattle.std.proofs.Common.{◌≡◌, map, take}
use Rattle.event_files.specs.ExplainedFile.{unskipped_lines}
use Rattle.event_files.specs.ExplainedReading.{IsReadOf, stated_reading}
use Rattle.event_files.proofs.explained_file.read_lines.Given as goal

-- the lines so far were read
abbrev pub invariant-loop-line : goal.invariant-loop-line
invariant-loop-line l = record {
  counted : l.number ≡ l.line-index;
  read : IsReadOf (unskipped_lines (take l.line-index (map (λ line. line.now) l.lines))) (stated_reading l.reading);
}
