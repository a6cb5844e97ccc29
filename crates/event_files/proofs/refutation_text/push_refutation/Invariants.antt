use Rattle.std.proofs.Common.{◌≡◌, ◌++◌, take}
use Rattle.std.specs.List.{flat_map}
use Rattle.event_files.specs.Refutations.{step_text}
use Rattle.event_files.proofs.refutation_text.push_refutation.Given as goal

abbrev pub invariant-loop-step : goal.invariant-loop-step
invariant-loop-step l =
    l.text.items ≡ l.initial.text.items ++ flat_map (step_text l.threads) (take l.step-index l.steps)
