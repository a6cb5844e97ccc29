use Rattle.std.proofs.Common.{◌≡◌, map, take}
use Rattle.event_files.specs.WitnessFile.{IsReadOf, list_places, words_of_lines}
use Rattle.event_files.proofs.witness_file.read_lines.Given as goal

-- the lines so far were read
abbrev pub invariant-loop-line : goal.invariant-loop-line
invariant-loop-line l = record {
  counted : l.number ≡ l.line-index;
  read : IsReadOf (words_of_lines (take l.line-index (map (λ line. line.now) l.lines))) (l.instance, list_places l.order);
}
