use Rattle.std.proofs.Common.{◌≤◌, ℕ}
use Rattle.sp_closure.specs.declared.timelines.Timestamp.{Timestamp}
use Rattle.sp_closure.specs.Timestamps.{HasEntry}
use Rattle.sp_closure.proofs.timelines.Timestamps.next.Given as goal

abbrev pub invariant-loop-next : goal.invariant-loop-next
invariant-loop-next l = (k : ℕ) (x : Timestamp) → HasEntry l.self.entries.items l.timeline k x → l.entry ≤ k → l.count ≤ x.prefix.count → l.next ≤ k
