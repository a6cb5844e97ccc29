use Rattle.std.proofs.Common.{◌≡◌}
use Rattle.dependencies.proofs.keys.Keys.reserve.Given as goal

abbrev pub invariant-loop-number : goal.invariant-loop-number
invariant-loop-number l = (l.self.keys ≡ l.initial.self.keys) × (l.self.numbered ≡ l.number)
