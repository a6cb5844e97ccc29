use Rattle.std.proofs.Common.{◌≡◌, ℕ, ◌<◌, ◌≤◌, slice_get, Some}
use Rattle.fronts.specs.declared.members.Member.{Member}
use Rattle.fronts.proofs.members.behind.Given as goal

abbrev pub invariant-loop-k : goal.invariant-loop-k
invariant-loop-k l = (j : ℕ) (m : Member) → j < l.k → slice_get l.members j ≡ Some m → m.slot ≡ l.prefix.slot → l.prefix.count ≤ m.number
