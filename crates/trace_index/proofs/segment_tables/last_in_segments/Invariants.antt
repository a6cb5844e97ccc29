use Rattle.std.proofs.Common.{◌≡◌, ℕ, ◌*◌, ◌<◌, ◌≤◌, false, length}
use Rattle.trace_model.specs.Theory.Trace.{Trace}
use Rattle.trace_index.specs.Links.{matches}
use Rattle.trace_index.specs.SegmentTables.{AreAllTables}
use Rattle.trace_index.proofs.segment_tables.last_in_segments.Given as goal

abbrev pub invariant-loop-index : goal.invariant-loop-index
invariant-loop-index l = record {
  within : l.index ≤ length l.sealed;
  later : (s : Trace) (n u : ℕ) → AreAllTables s n l.sealed l.tail → 4096 * l.index ≤ u → u < n → matches s l.key u ≡ false;
}

abbrev pub decreases-loop-index : goal.decreases-loop-index
decreases-loop-index l = l.index
