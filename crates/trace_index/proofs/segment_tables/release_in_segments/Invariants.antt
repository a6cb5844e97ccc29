use Rattle.std.proofs.Common.{◌≡◌, ℕ, ◌*◌, ◌<◌, ◌≤◌, false}
use Rattle.trace_model.specs.Theory.Trace.{Trace}
use Rattle.trace_index.specs.Links.{ends_at}
use Rattle.trace_index.specs.SegmentTables.{AreAllTables}
use Rattle.trace_index.proofs.segment_tables.release_in_segments.Given as goal

abbrev pub invariant-loop-index : goal.invariant-loop-index
invariant-loop-index l =
    (s : Trace) (n u : ℕ) → AreAllTables s n l.sealed l.tail → l.acquire ≤ u → u < 4096 * l.index → u < n → ends_at s l.acquire u ≡ false
