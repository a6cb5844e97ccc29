use Rattle.std.proofs.Common.{◌≡◌, map, take}
use Rattle.std.specs.Prelude.{string_bytes}
use Rattle.command_line.proofs.words.words_of.Given as goal

-- The words so far are the first arguments.
abbrev pub invariant-loop-argument : goal.invariant-loop-argument
invariant-loop-argument l = map (λ w. w.now) l.words.items ≡ map string_bytes (take l.argument-index l.arguments)
