use Rattle.std.proofs.Common.{◌≡◌, map, take}
use Rattle.event_files.specs.ExplainedText.{stated_member}
use Rattle.commands.specs.Check.{steps_in}
use Rattle.commands.proofs.check_verdicts.refutation_in.Given as goal

-- The steps so far.
abbrev pub invariant-loop-step : goal.invariant-loop-step
invariant-loop-step l = l.steps.items ≡ steps_in (map stated_member l.members) (take l.step-index l.explained)
