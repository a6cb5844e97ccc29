use Rattle.std.proofs.Common.{◌≡◌, take}
use Rattle.dependencies.proofs.keys.Keys.share.Given as goal

-- the dependencies so far
abbrev pub invariant-loop-number : goal.invariant-loop-number
invariant-loop-number l = l.list.0 ≡ take l.number l.self.keys
