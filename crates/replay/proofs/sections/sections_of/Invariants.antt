use Rattle.std.proofs.Common.{◌≡◌, ℕ, ◌<◌, ◌≤◌, length, slice_get, nat_eq, Some, vec_capacity}
use Rattle.std.specs.HashMap.{get}
use Rattle.trace_model.specs.Theory.Lookups.{release}
use Rattle.trace_model.specs.Theory.Held.{begun_lock}
use Rattle.replay.specs.Facts.{each}
use Rattle.replay.proofs.OpenSections.{AreOpen, so_far}
use Rattle.replay.proofs.sections.sections_of.Given as goal

-- The sections that begin at the places so far, the releases so far, and the open sections.
abbrev pub invariant-loop-index : goal.invariant-loop-index
invariant-loop-index l = record {
  begins : l.begins.items ≡ each (begun_lock l.trace) l.index;
  room : length l.trace ≤ vec_capacity l.begins;
  sized : length l.releases.items ≡ length l.trace;
  releases : (q : ℕ) → q < length l.trace → slice_get l.releases.items q ≡ Some (so_far l.index (release l.trace q));
  sections : AreOpen l.trace l.index (get nat_eq l.opened);
}
