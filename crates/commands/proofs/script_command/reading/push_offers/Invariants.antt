use Rattle.std.proofs.Common.{map, take}
use Rattle.commands.proofs.ScriptLines.{AddsOffers}
use Rattle.commands.proofs.script_command.reading.push_offers.Given as goal

abbrev pub invariant-loop-word : goal.invariant-loop-word
invariant-loop-word l = AddsOffers l.initial.commands.items (map (λ word. word.now) (take l.word-index l.words)) l.commands.items
