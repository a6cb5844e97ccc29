use Rattle.std.proofs.Common.{◌≡◌, ◌≤◌, ℕ, Some, length, slice_get, vec_capacity}
use Rattle.fronts.specs.Slots.{slots_of}
use Rattle.sp_closure.specs.declared.timelines.Timestamp.{Timestamp}
use Rattle.sp_closure.specs.declared.timelines.Timeline.{Timeline}
use Rattle.sp_closure.specs.Timestamps.{IsFresh, IsTimeline}
use Rattle.sp_closure.proofs.timestamps.timelines_of.Given as goal

abbrev pub invariant-loop-number : goal.invariant-loop-number
invariant-loop-number l = record {
  count : length l.timelines.items ≡ l.number;
  room : l.number-end ≤ vec_capacity l.timelines;
  each : (m : ℕ) (t : Timeline) → slice_get l.timelines.items m ≡ Some (Some t) → IsTimeline l.fn.index.events (slots_of l.fn.threads) l.entries.items m t;
  fresh : (i : ℕ) (x : Timestamp) → slice_get l.entries.items i ≡ Some x → IsFresh l.fn.index.events (slots_of l.fn.threads) x;
}
