use Rattle.std.proofs.Common.{◌≡◌, map, take}
use Rattle.commands.specs.ScriptFile.{SaysLines}
use Rattle.commands.proofs.script_command.reading.commands_of.Given as goal

abbrev pub invariant-loop-line : goal.invariant-loop-line
invariant-loop-line l = record {
  said : SaysLines (take l.line-index (map (λ line. line.now) l.lines)) l.commands.items;
  counted : l.number ≡ l.line-index;
}
