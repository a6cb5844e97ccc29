use Rattle.std.proofs.Common.{◌≡◌, ◌≤◌, ◌*◌, length}
use Rattle.trace_model.specs.Theory.Trace.{Trace}
use Rattle.trace_index.specs.Links.{AreLastPlaces}
use Rattle.trace_index.specs.SegmentTables.{AreSealed}
use Rattle.trace_index.proofs.last_places.LastPlaces.follow.Given as goal

abbrev pub invariant-loop-index : goal.invariant-loop-index
invariant-loop-index l = record {
  noted_is : l.self.noted ≡ l.index;
  within : l.index ≤ length l.sealed;
  last_places : (s : Trace) → AreSealed s l.sealed → AreLastPlaces s (4096 * l.fn.self.noted) l.fn.self.places → AreLastPlaces s (4096 * l.index) l.self.places;
}
