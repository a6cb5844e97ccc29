use Rattle.std.proofs.Common.{◌≤◌, length, take}
use Rattle.std.specs.Io.KnownBytes.{Appends}
use Rattle.commands.proofs.exit.write_bytes.Given as goal

-- The bytes below the index are written.
abbrev pub invariant-loop-turn : goal.invariant-loop-turn
invariant-loop-turn g l = record {
  within : l.at ≤ length l.bytes;
  written : Appends (g.O.Write.contents l.initial.out) (g.O.Write.contents l.out) (take l.at l.bytes);
}
