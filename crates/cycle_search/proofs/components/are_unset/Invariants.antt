use Rattle.std.proofs.Common.{◌≡◌, false, take}
use Rattle.std.specs.List.{All}
use Rattle.cycle_search.proofs.components.are_unset.Given as goal

abbrev pub invariant-loop-flag : goal.invariant-loop-flag
invariant-loop-flag l = All (λ flag. flag ≡ false) (take l.flag-index l.flags)
